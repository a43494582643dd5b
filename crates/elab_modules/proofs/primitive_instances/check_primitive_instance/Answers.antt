-- Connections by name are refused.
use Rattle.std.proofs.Common.{ap}
use Rattle.vl_tree.specs.Seen.{view_connections, view_instance}
use Rattle.elab_modules.proofs.TerminalFaults.{named-refused}
use Rattle.elab_modules.proofs.primitive_instances.check_primitive_instance.Goals as goal

pub returns-in-Named : goal.returns-in-Named
returns-in-Named c = named-refused c.args.table.now c.args.ports (view_instance c.args.instance.now) _ (ap view_connections c.in-Named.is)
