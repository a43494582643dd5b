-- No name, or a delay.
use Rattle.std.proofs.Common.{option_map, ap}
use Rattle.vl_tree.specs.Seen.{view_delay, view_instance}
use Rattle.elab_modules.proofs.Connected.{no-name, delayed, name-missing}
use Rattle.elab_modules.proofs.connections.check_module_instance.Goals as goal

pub returns-then-is_none : goal.returns-then-is_none
returns-then-is_none c = λ m p.
    no-name c.args.table.now m (option_map view_delay c.args.delay.now) (view_instance c.args.instance.now) (name-missing c.args.instance.now.name c.is_none.result c.is_none.ensures c.if-is_none.true)

pub returns-in-Some : goal.returns-in-Some
returns-in-Some c = λ m p.
    delayed c.args.table.now m (option_map view_delay c.args.delay.now) (view_delay c.in-Some.delay) (view_instance c.args.instance.now) (ap (option_map view_delay) c.in-Some.is)
