-- A variable with its nets.
use Rattle.std.proofs.Common.{◌∙◌}
use Rattle.elab_variables.specs.Seen.{variable_at}
use Rattle.elab_scopes.proofs.ShownVariables.{variable-shown}
use Rattle.elab_scopes.proofs.variables.variable_in.Goals as goal

pub returns : goal.returns
returns c = λ all source s is.
    variable-shown all source s (variable_at c.args.here.now.prepared.now.table c.args.place) c.in_ok-name.name
    c.row-row.result.range c.row-row.result.reg c.row-row.result.port c.in_ok-bits.bits.items
    (c.in_ok-name.ensures ∙ c.name.ensures) c.row-row.ensures.range c.row-row.ensures.reg c.row-row.ensures.port (c.in_ok-bits.ensures.items ∙ c.bits_of.ensures all source s is)
