-- What stands at the place of a name, or that it has none.
use Rattle.std.proofs.Common.{◌∙◌, Some}
use Rattle.stim_read.proofs.ByNameLaws.{input-found, item-at, no-input}
use Rattle.stim_read.proofs.top_inputs.Inputs.named.Goals as goal

pub returns-in_err-place : goal.returns-in_err-place
returns-in_err-place c = rw c.from_residual.ensures (no-input c.args.self.now.circuit.now c.args.name.now (c.in_err-place.ensures.value ∙ c.args.self.now.first c.args.name.now))

pub returns : goal.returns
returns c =
    input-found c.args.self.now.circuit.now c.args.name.now c.top_variables.result.now (Some c.in_ok-place.place.now) c.get-2.result
    (c.in_ok-place.ensures.value ∙ c.args.self.now.first c.args.name.now) c.top_variables.ensures
    (item-at c.top_variables.result.now c.in_ok-place.place.now c.get-2.result c.get-2.ensures.lookup.0 c.get-2.ensures.lookup.1)
