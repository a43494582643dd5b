-- What the table has of a name, or hasn't.
use Rattle.std.proofs.Common.{◌∙◌}
use Rattle.elab_bits.proofs.NamedAt.{named-at}
use Rattle.specify_values.proofs.Ports.{port-found, no-port}
use Rattle.specify_values.proofs.port_names.is_port.Goals as goal

pub row-requires : goal.row-requires
row-requires c = (named-at c.args.table.now c.args.name.now c.in-Some.place c.in-Some.ensures).below

pub returns-in-Some : goal.returns-in-Some
returns-in-Some c = c.is_outside.ensures ∙ port-found c.args.table.now c.args.name.now c.in-Some.place c.row.result.port c.in-Some.ensures c.row.ensures.port

pub returns-in-None : goal.returns-in-None
returns-in-None c = no-port c.args.table.now c.args.name.now c.in-None.ensures
