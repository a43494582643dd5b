-- A member of each kind.
use Rattle.std.proofs.Common.{None, sym, subst, option_map}
use Rattle.vl_tree.specs.Seen.{view_name, view_expression, view_join, view_delay, view_gate_instance, view_check}
use Rattle.vl_tree.specs.Tree.{signal}
use Rattle.elab_variables.specs.Seen.{view_member}
use Rattle.elab_modules.specs.Telling.{TellsButDelay}
use Rattle.elab_modules.proofs.MemberFaults.{sides-tell, gate-tell, check-tell}
use Rattle.elab_modules.proofs.members.check_member.Goals as goal

pub returns-in-Declared : goal.returns-in-Declared
returns-in-Declared c = λ m p.
    subst (λ x. TellsButDelay c.args.definitions.now m (view_member x) c.check_declared.result) (sym c.in-Declared.is)
    (sides-tell c.args.definitions.now m c.args.prepared.now.table
    (record { place = c.in-Declared.name.place; left = signal (view_name c.in-Declared.name) None; right = view_expression c.in-Declared.value.now }) c.check_declared.result p.table
    c.check_declared.ensures)

pub returns-in-Assignment : goal.returns-in-Assignment
returns-in-Assignment c = λ m p.
    subst (λ x. TellsButDelay c.args.definitions.now m (view_member x) c.check_sides.result) (sym c.in-Assignment.is)
    (sides-tell c.args.definitions.now m c.args.prepared.now.table (view_join c.in-Assignment.join.now) c.check_sides.result p.table c.check_sides.ensures)

pub returns-in-Gate : goal.returns-in-Gate
returns-in-Gate c = λ m p.
    subst (λ x. TellsButDelay c.args.definitions.now m (view_member x) c.check_gate.result) (sym c.in-Gate.is)
    (gate-tell c.args.definitions.now m c.args.prepared.now.table c.in-Gate.kind (option_map view_delay c.in-Gate.delay.now) (view_gate_instance c.in-Gate.instance.now) c.check_gate.result
    p.table c.check_gate.ensures)

pub returns-in-Check : goal.returns-in-Check
returns-in-Check c = λ m p.
    subst (λ x. TellsButDelay c.args.definitions.now m (view_member x) c.check_delayed.result) (sym c.in-Check.is)
    (check-tell c.args.definitions.now m c.args.prepared.now.table (view_check c.in-Check.check.now) c.check_delayed.result p.table c.check_delayed.ensures)

pub returns-in-Instance : goal.returns-in-Instance
returns-in-Instance c = λ m p.
    subst (λ x. TellsButDelay c.args.definitions.now m (view_member x) c.check_instance.result) (sym c.in-Instance.is) (c.check_instance.ensures m p.table)
