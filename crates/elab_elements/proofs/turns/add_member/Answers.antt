-- The elements of the member that it is.
use Rattle.std.proofs.Common.{◌+◌, ap, length, map, option_map, refl, subst, sym}
use Rattle.std.proofs.lemmas.Result.{err_from_is_err_and, IfOk-weaker, on_ok_weaker}
use Rattle.vl_tree.specs.Seen.{view_delay, view_expression, view_gate_instance, view_join, view_name, view_path, view_check}
use Rattle.elab_laws.specs.Handing.{all_bits}
use Rattle.elab_model.specs.Delays.{tick_of}
use Rattle.elab_model.specs.Elements.{member_elements}
use Rattle.elab_model.specs.Nets.{nets}
use Rattle.elab_numbering.specs.Refusals.{RefusesCount}
use Rattle.elab_variables.specs.Seen.{view_member}
use Rattle.elab_elements.specs.Adding.{Adds}
use Rattle.elab_elements.proofs.MemberTurn.{as-member, assignment-same, assignment-after, declared-same, supply-same, supply-after, gate-listed, gate-fit, gate-after, path-same, path-after, has-paths, check-same, check-after, has-copies}
use Rattle.elab_elements.proofs.Putting.{exit-by, if_err-weaker}
use Rattle.elab_elements.proofs.ReadHere.{row-count}
use Rattle.elab_elements.proofs.turns.add_member.Goals as goal

pub add_declared-requires-clause-driven : goal.add_declared-requires-clause-driven
add_declared-requires-clause-driven c = row-count _ c.args.driven.now (all_bits c.args.prepared.now.table) c.requires.at.1.1.1.1.drives.numbers

pub add_declared-requires-clause-row : goal.add_declared-requires-clause-row
add_declared-requires-clause-row c = row-count _ c.args.row.now (all_bits c.args.prepared.now.table) c.requires.at.1.1.1.1.here.numbers.numbers

pub returns-in_err-add_declared-in-Declared-clause-refused : goal.returns-in_err-add_declared-in-Declared-clause-refused
returns-in_err-add_declared-in-Declared-clause-refused c =
    exit-by _ c.from_residual.result c.in_err-add_declared-in-Declared.field-0.0 (err_from_is_err_and c.from_residual.result c.from_residual.ensures.1)
    (λ top corner s ready h. subst (λ cs. RefusesCount (length c.args.made.now.elements.items + length cs) c.in_err-add_declared-in-Declared.field-0.0)
    (declared-same c.args.definitions.now top corner c.args.instances.now c.args.library.now c.args.rows.now c.args.number c.args.prepared.now.table c.args.row.now c.args.driven.now c.args.delays c.args.first c.args.next c.args.at s (view_member c.args.member) (view_name c.in-Declared.name) (view_expression c.in-Declared.value.now) (ap view_member c.in-Declared.is) h)
    (c.in_err-add_declared-in-Declared.ensures.refused (nets c.args.definitions.now top) c.args.definitions.now s h.here h.drives))

pub returns-in_ok-add_declared-in-Declared-clause-elements : goal.returns-in_ok-add_declared-in-Declared-clause-elements
returns-in_ok-add_declared-in-Declared-clause-elements c = λ top corner s ready h.
    subst (Adds c.args.library.now.gate_delays.items c.args.library.now.udps.items (nets c.args.definitions.now top) c.args.made.now c.add_declared.new.made)
    (declared-same c.args.definitions.now top corner c.args.instances.now c.args.library.now c.args.rows.now c.args.number c.args.prepared.now.table c.args.row.now c.args.driven.now c.args.delays c.args.first c.args.next c.args.at s (view_member c.args.member) (view_name c.in-Declared.name) (view_expression c.in-Declared.value.now) (ap view_member c.in-Declared.is) h)
    (c.in_ok-add_declared-in-Declared.ensures.passes _ _ (nets c.args.definitions.now top) c.args.definitions.now s h.here h.drives)

pub returns-in_ok-add_declared-in-Declared-clause-next : goal.returns-in_ok-add_declared-in-Declared-clause-next
returns-in_ok-add_declared-in-Declared-clause-next c = λ top corner s ready h. assignment-after c.args.definitions.now top corner c.args.instances.now c.args.library.now c.args.rows.now c.args.number c.args.prepared.now.table c.args.row.now c.args.driven.now c.args.delays c.args.first c.args.next c.args.at s (view_member c.args.member) _ (ap view_member c.in-Declared.is) h

pub add_assignment-requires-clause-driven : goal.add_assignment-requires-clause-driven
add_assignment-requires-clause-driven c = row-count _ c.args.driven.now (all_bits c.args.prepared.now.table) c.requires.at.1.1.1.1.drives.numbers

pub add_assignment-requires-clause-row : goal.add_assignment-requires-clause-row
add_assignment-requires-clause-row c = row-count _ c.args.row.now (all_bits c.args.prepared.now.table) c.requires.at.1.1.1.1.here.numbers.numbers

pub returns-in_err-add_assignment-in-Assignment-clause-refused : goal.returns-in_err-add_assignment-in-Assignment-clause-refused
returns-in_err-add_assignment-in-Assignment-clause-refused c =
    exit-by _ c.from_residual-in_err-add_assignment-in-Assignment.result c.in_err-add_assignment-in-Assignment.field-0.0 (err_from_is_err_and c.from_residual-in_err-add_assignment-in-Assignment.result c.from_residual-in_err-add_assignment-in-Assignment.ensures.1)
    (λ top corner s ready h. subst (λ cs. RefusesCount (length c.args.made.now.elements.items + length cs) c.in_err-add_assignment-in-Assignment.field-0.0)
    (assignment-same c.args.definitions.now top corner c.args.instances.now c.args.library.now c.args.rows.now c.args.number c.args.prepared.now.table c.args.row.now c.args.driven.now c.args.delays c.args.first c.args.next c.args.at s (view_member c.args.member) (view_join c.in-Assignment.join.now) (ap view_member c.in-Assignment.is) h)
    (c.in_err-add_assignment-in-Assignment.ensures.refused (nets c.args.definitions.now top) c.args.definitions.now s h.here h.drives))

pub returns-in_ok-add_assignment-in-Assignment-clause-elements : goal.returns-in_ok-add_assignment-in-Assignment-clause-elements
returns-in_ok-add_assignment-in-Assignment-clause-elements c = λ top corner s ready h.
    subst (Adds c.args.library.now.gate_delays.items c.args.library.now.udps.items (nets c.args.definitions.now top) c.args.made.now c.add_assignment.new.made)
    (assignment-same c.args.definitions.now top corner c.args.instances.now c.args.library.now c.args.rows.now c.args.number c.args.prepared.now.table c.args.row.now c.args.driven.now c.args.delays c.args.first c.args.next c.args.at s (view_member c.args.member) (view_join c.in-Assignment.join.now) (ap view_member c.in-Assignment.is) h)
    (c.in_ok-add_assignment-in-Assignment.ensures.passes _ _ (nets c.args.definitions.now top) c.args.definitions.now s h.here h.drives)

pub returns-in_ok-add_assignment-in-Assignment-clause-next : goal.returns-in_ok-add_assignment-in-Assignment-clause-next
returns-in_ok-add_assignment-in-Assignment-clause-next c = λ top corner s ready h. assignment-after c.args.definitions.now top corner c.args.instances.now c.args.library.now c.args.rows.now c.args.number c.args.prepared.now.table c.args.row.now c.args.driven.now c.args.delays c.args.first c.args.next c.args.at s (view_member c.args.member) _ (ap view_member c.in-Assignment.is) h

pub add_supply_net-requires-clause-driven : goal.add_supply_net-requires-clause-driven
add_supply_net-requires-clause-driven c = row-count _ c.args.driven.now (all_bits c.args.prepared.now.table) c.requires.at.1.1.1.1.drives.numbers

pub add_supply_net-requires-clause-row : goal.add_supply_net-requires-clause-row
add_supply_net-requires-clause-row c = row-count _ c.args.row.now (all_bits c.args.prepared.now.table) c.requires.at.1.1.1.1.here.numbers.numbers

pub returns-in_err-add_supply_net-in-Supply-clause-refused : goal.returns-in_err-add_supply_net-in-Supply-clause-refused
returns-in_err-add_supply_net-in-Supply-clause-refused c =
    exit-by _ c.from_residual-in_err-add_supply_net-in-Supply.result c.in_err-add_supply_net-in-Supply.field-0.0 (err_from_is_err_and c.from_residual-in_err-add_supply_net-in-Supply.result c.from_residual-in_err-add_supply_net-in-Supply.ensures.1)
    (λ top corner s ready h. subst (λ cs. RefusesCount (length c.args.made.now.elements.items + length cs) c.in_err-add_supply_net-in-Supply.field-0.0)
    (supply-same c.args.definitions.now top corner c.args.instances.now c.args.library.now c.args.rows.now c.args.number c.args.prepared.now.table c.args.row.now c.args.driven.now c.args.delays c.args.first c.args.next c.args.at s (view_member c.args.member) (view_name c.in-Supply.name) c.in-Supply.value (ap view_member c.in-Supply.is) h)
    (c.in_err-add_supply_net-in-Supply.ensures.refused (nets c.args.definitions.now top) c.args.definitions.now s h.here h.drives))

pub returns-in_ok-add_supply_net-in-Supply-clause-elements : goal.returns-in_ok-add_supply_net-in-Supply-clause-elements
returns-in_ok-add_supply_net-in-Supply-clause-elements c = λ top corner s ready h.
    subst (Adds c.args.library.now.gate_delays.items c.args.library.now.udps.items (nets c.args.definitions.now top) c.args.made.now c.add_supply_net.new.made)
    (supply-same c.args.definitions.now top corner c.args.instances.now c.args.library.now c.args.rows.now c.args.number c.args.prepared.now.table c.args.row.now c.args.driven.now c.args.delays c.args.first c.args.next c.args.at s (view_member c.args.member) (view_name c.in-Supply.name) c.in-Supply.value (ap view_member c.in-Supply.is) h)
    (c.in_ok-add_supply_net-in-Supply.ensures.passes _ _ (nets c.args.definitions.now top) c.args.definitions.now s h.here h.drives)

pub returns-in_ok-add_supply_net-in-Supply-clause-next : goal.returns-in_ok-add_supply_net-in-Supply-clause-next
returns-in_ok-add_supply_net-in-Supply-clause-next c = λ top corner s ready h. supply-after c.args.definitions.now top corner c.args.instances.now c.args.library.now c.args.rows.now c.args.number c.args.prepared.now.table c.args.row.now c.args.driven.now c.args.delays c.args.first c.args.next c.args.at s (view_member c.args.member) (view_name c.in-Supply.name) c.in-Supply.value (ap view_member c.in-Supply.is) h

pub add_gate-requires-clause-driven : goal.add_gate-requires-clause-driven
add_gate-requires-clause-driven c = row-count _ c.args.driven.now (all_bits c.args.prepared.now.table) c.requires.at.1.1.1.1.drives.numbers

pub add_gate-requires-clause-row : goal.add_gate-requires-clause-row
add_gate-requires-clause-row c = row-count _ c.args.row.now (all_bits c.args.prepared.now.table) c.requires.at.1.1.1.1.here.numbers.numbers

pub returns-in_err-add_gate-in-Gate-clause-refused : goal.returns-in_err-add_gate-in-Gate-clause-refused
returns-in_err-add_gate-in-Gate-clause-refused c =
    exit-by _ c.from_residual-in_err-add_gate-in-Gate.result c.in_err-add_gate-in-Gate.field-0.0 (err_from_is_err_and c.from_residual-in_err-add_gate-in-Gate.result c.from_residual-in_err-add_gate-in-Gate.ensures.1)
    (λ top corner s ready h. subst (λ cs. RefusesCount (length c.args.made.now.elements.items + length cs) c.in_err-add_gate-in-Gate.field-0.0)
    (gate-listed c.args.definitions.now top corner c.args.instances.now c.args.library.now c.args.rows.now c.args.number c.args.prepared.now.table c.args.row.now c.args.driven.now c.args.delays c.args.first c.args.next c.args.at s (view_member c.args.member) c.in-Gate.kind (option_map view_delay c.in-Gate.delay.now) (view_gate_instance c.in-Gate.instance.now) _ (ap (map view_expression) c.deref.ensures.value) (ap view_member c.in-Gate.is) h)
    (c.in_err-add_gate-in-Gate.ensures.refused c.args.library.now.gate_delays.items c.args.definitions.now s c.args.at))

pub returns-in_ok-add_gate-in-Gate-clause-elements : goal.returns-in_ok-add_gate-in-Gate-clause-elements
returns-in_ok-add_gate-in-Gate-clause-elements c = λ top corner s ready h.
    subst (Adds c.args.library.now.gate_delays.items c.args.library.now.udps.items (nets c.args.definitions.now top) c.args.made.now c.add_gate.new.made)
    (gate-listed c.args.definitions.now top corner c.args.instances.now c.args.library.now c.args.rows.now c.args.number c.args.prepared.now.table c.args.row.now c.args.driven.now c.args.delays c.args.first c.args.next c.args.at s (view_member c.args.member) c.in-Gate.kind (option_map view_delay c.in-Gate.delay.now) (view_gate_instance c.in-Gate.instance.now) _ (ap (map view_expression) c.deref.ensures.value) (ap view_member c.in-Gate.is) h)
    (c.in_ok-add_gate-in-Gate.ensures.elements c.args.library.now.gate_delays.items c.args.library.now.udps.items (nets c.args.definitions.now top) c.args.definitions.now s c.args.at h.here h.drives
    (gate-fit c.args.definitions.now top corner c.args.instances.now c.args.library.now c.args.rows.now c.args.number c.args.prepared.now.table c.args.row.now c.args.driven.now c.args.delays c.args.first c.args.next c.args.at s (view_member c.args.member) c.in-Gate.kind (option_map view_delay c.in-Gate.delay.now) (view_gate_instance c.in-Gate.instance.now) _ (ap (map view_expression) c.deref.ensures.value) (ap view_member c.in-Gate.is) h) h.listed)

pub returns-in_ok-add_gate-in-Gate-clause-next : goal.returns-in_ok-add_gate-in-Gate-clause-next
returns-in_ok-add_gate-in-Gate-clause-next c = λ top corner s ready h. gate-after c.args.definitions.now top corner c.args.instances.now c.args.library.now c.args.rows.now c.args.number c.args.prepared.now.table c.args.row.now c.args.driven.now c.args.delays c.args.first c.args.next c.args.at s (view_member c.args.member) c.in-Gate.kind (option_map view_delay c.in-Gate.delay.now) (view_gate_instance c.in-Gate.instance.now) (ap view_member c.in-Gate.is) h

pub add_named-requires-clause-at : goal.add_named-requires-clause-at
add_named-requires-clause-at c = (
  c.requires.at.0,
  (
    c.requires.at.1.0,
    (
      c.args.at,
      (
        option_map view_delay c.in-Instance.delay.now,
        (
          c.requires.at.1.1.0,
          as-member c.args.definitions.now c.requires.at.0 c.requires.at.1.0 c.args.instances.now c.args.library.now c.args.rows.now c.args.number c.args.prepared.now.table c.args.row.now c.args.driven.now c.args.delays c.args.first c.args.next c.args.at c.requires.at.1.1.0 (view_member c.args.member) _ (ap view_member c.in-Instance.is) c.requires.at.1.1.1.1,
        ),
      ),
    ),
  ),
)

pub returns-in-Instance-clause-next : goal.returns-in-Instance-clause-next
returns-in-Instance-clause-next c =
    IfOk-weaker c.add_named.result _ _ (λ after f top corner s ready h. f top corner c.args.at (option_map view_delay c.in-Instance.delay.now) s
    (as-member c.args.definitions.now top corner c.args.instances.now c.args.library.now c.args.rows.now c.args.number c.args.prepared.now.table c.args.row.now c.args.driven.now c.args.delays c.args.first c.args.next c.args.at s (view_member c.args.member) _ (ap view_member c.in-Instance.is) h))
    c.add_named.ensures.next

pub returns-in-Instance-clause-elements : goal.returns-in-Instance-clause-elements
returns-in-Instance-clause-elements c =
    on_ok_weaker c.add_named.result (λ f. λ top corner s ready h.
    subst (λ x. Adds c.args.library.now.gate_delays.items c.args.library.now.udps.items (nets c.args.definitions.now top) c.args.made.now c.add_named.new.made
    (member_elements c.args.definitions.now corner (tick_of c.args.definitions.now top) s (c.args.at, x))) (sym (ap view_member c.in-Instance.is))
    (f top corner c.args.at (option_map view_delay c.in-Instance.delay.now) s
    (as-member c.args.definitions.now top corner c.args.instances.now c.args.library.now c.args.rows.now c.args.number c.args.prepared.now.table c.args.row.now c.args.driven.now c.args.delays c.args.first c.args.next c.args.at s (view_member c.args.member) _ (ap view_member c.in-Instance.is) h)))
    c.add_named.ensures.elements

pub returns-in-Instance-clause-refused : goal.returns-in-Instance-clause-refused
returns-in-Instance-clause-refused c =
    if_err-weaker c.add_named.result _ _ (λ r f top corner s ready h.
    subst (λ x. RefusesCount (length c.args.made.now.elements.items + length (member_elements c.args.definitions.now corner (tick_of c.args.definitions.now top) s (c.args.at, x))) r)
    (sym (ap view_member c.in-Instance.is))
    (f top corner c.args.at (option_map view_delay c.in-Instance.delay.now) s
    (as-member c.args.definitions.now top corner c.args.instances.now c.args.library.now c.args.rows.now c.args.number c.args.prepared.now.table c.args.row.now c.args.driven.now c.args.delays c.args.first c.args.next c.args.at s (view_member c.args.member) _ (ap view_member c.in-Instance.is) h)))
    c.add_named.ensures.refused

pub add_own_paths-requires-clause-at : goal.add_own_paths-requires-clause-at
add_own_paths-requires-clause-at c = (
  c.args.definitions.now,
  (
    c.requires.at.0,
    (
      c.requires.at.1.1.0,
      (
        view_member c.args.member,
        has-paths c.args.definitions.now c.requires.at.0 c.requires.at.1.0 c.args.instances.now c.args.library.now c.args.rows.now c.args.number c.args.prepared.now.table c.args.row.now c.args.driven.now c.args.delays
            c.args.first c.args.next c.args.at c.requires.at.1.1.0 c.args.prepared.now (view_member c.args.member) c.requires.at.1.1.1.0 refl c.requires.at.1.1.1.1,
      ),
    ),
  ),
)

pub returns-in_err-add_own_paths-in-Path-clause-refused : goal.returns-in_err-add_own_paths-in-Path-clause-refused
returns-in_err-add_own_paths-in-Path-clause-refused c =
    exit-by _ c.from_residual-in_err-add_own_paths-in-Path.result c.in_err-add_own_paths-in-Path.field-0.0
    (err_from_is_err_and c.from_residual-in_err-add_own_paths-in-Path.result c.from_residual-in_err-add_own_paths-in-Path.ensures.1)
    (λ top corner s ready h. subst (λ cs. RefusesCount (length c.args.made.now.elements.items + length cs) c.in_err-add_own_paths-in-Path.field-0.0)
    (path-same c.args.definitions.now top corner c.args.instances.now c.args.library.now c.args.rows.now c.args.number c.args.prepared.now.table c.args.row.now c.args.driven.now c.args.delays c.args.first c.args.next c.args.at s (view_member c.args.member) (view_path c.in-Path.path.now) c.in-Path.path.now.place (ap view_member c.in-Path.is) refl)
    (c.in_err-add_own_paths-in-Path.ensures.refused c.args.definitions.now top s (view_member c.args.member)
    (has-paths c.args.definitions.now top corner c.args.instances.now c.args.library.now c.args.rows.now c.args.number c.args.prepared.now.table c.args.row.now c.args.driven.now c.args.delays c.args.first c.args.next c.args.at s c.args.prepared.now (view_member c.args.member) ready refl h)))

pub returns-in_ok-add_own_paths-in-Path-clause-elements : goal.returns-in_ok-add_own_paths-in-Path-clause-elements
returns-in_ok-add_own_paths-in-Path-clause-elements c = λ top corner s ready h.
    subst (Adds c.args.library.now.gate_delays.items c.args.library.now.udps.items (nets c.args.definitions.now top) c.args.made.now c.add_own_paths.new.made)
    (path-same c.args.definitions.now top corner c.args.instances.now c.args.library.now c.args.rows.now c.args.number c.args.prepared.now.table c.args.row.now c.args.driven.now c.args.delays c.args.first c.args.next c.args.at s (view_member c.args.member) (view_path c.in-Path.path.now) c.in-Path.path.now.place (ap view_member c.in-Path.is) refl)
    (c.in_ok-add_own_paths-in-Path.ensures.elements c.args.library.now.gate_delays.items c.args.library.now.udps.items c.args.definitions.now top s (view_member c.args.member)
    (has-paths c.args.definitions.now top corner c.args.instances.now c.args.library.now c.args.rows.now c.args.number c.args.prepared.now.table c.args.row.now c.args.driven.now c.args.delays c.args.first c.args.next c.args.at s c.args.prepared.now (view_member c.args.member) ready refl h))

pub returns-in_ok-add_own_paths-in-Path-clause-next : goal.returns-in_ok-add_own_paths-in-Path-clause-next
returns-in_ok-add_own_paths-in-Path-clause-next c = λ top corner s ready h. path-after c.args.definitions.now top corner c.args.instances.now c.args.library.now c.args.rows.now c.args.number c.args.prepared.now.table c.args.row.now c.args.driven.now c.args.delays c.args.first c.args.next c.args.at s (view_member c.args.member) (view_path c.in-Path.path.now) (ap view_member c.in-Path.is) h

pub add_own_lates-requires-clause-at : goal.add_own_lates-requires-clause-at
add_own_lates-requires-clause-at c = (
  c.args.definitions.now,
  (
    c.requires.at.0,
    (
      c.requires.at.1.1.0,
      (
        view_member c.args.member,
        has-copies c.args.definitions.now c.requires.at.0 c.requires.at.1.0 c.args.instances.now c.args.library.now c.args.rows.now c.args.number c.args.prepared.now.table c.args.row.now c.args.driven.now c.args.delays c.args.first c.args.next c.args.at c.requires.at.1.1.0
            c.args.prepared.now (view_member c.args.member) (view_check c.in-Check.field-0.now) (ap view_member c.in-Check.is) c.requires.at.1.1.1.0 c.requires.at.1.1.1.1,
      ),
    ),
  ),
)

pub returns-in_err-add_own_lates-in-Check-clause-refused : goal.returns-in_err-add_own_lates-in-Check-clause-refused
returns-in_err-add_own_lates-in-Check-clause-refused c =
    exit-by _ c.from_residual-in_err-add_own_lates-in-Check.result c.in_err-add_own_lates-in-Check.field-0.0
    (err_from_is_err_and c.from_residual-in_err-add_own_lates-in-Check.result c.from_residual-in_err-add_own_lates-in-Check.ensures.1)
    (λ top corner s ready h. subst (λ cs. RefusesCount (length c.args.made.now.elements.items + length cs) c.in_err-add_own_lates-in-Check.field-0.0)
    (check-same c.args.definitions.now top corner c.args.instances.now c.args.library.now c.args.rows.now c.args.number c.args.prepared.now.table c.args.row.now c.args.driven.now c.args.delays c.args.first c.args.next c.args.at s (view_member c.args.member) (view_check c.in-Check.field-0.now) (ap view_member c.in-Check.is))
    (c.in_err-add_own_lates-in-Check.ensures.refused c.args.definitions.now top s (view_member c.args.member)
    (has-copies c.args.definitions.now top corner c.args.instances.now c.args.library.now c.args.rows.now c.args.number c.args.prepared.now.table c.args.row.now c.args.driven.now c.args.delays c.args.first c.args.next c.args.at s c.args.prepared.now (view_member c.args.member) (view_check c.in-Check.field-0.now) (ap view_member c.in-Check.is) ready h)))

pub returns-in_ok-add_own_lates-in-Check-clause-elements : goal.returns-in_ok-add_own_lates-in-Check-clause-elements
returns-in_ok-add_own_lates-in-Check-clause-elements c = λ top corner s ready h.
    subst (Adds c.args.library.now.gate_delays.items c.args.library.now.udps.items (nets c.args.definitions.now top) c.args.made.now c.add_own_lates.new.made)
    (check-same c.args.definitions.now top corner c.args.instances.now c.args.library.now c.args.rows.now c.args.number c.args.prepared.now.table c.args.row.now c.args.driven.now c.args.delays c.args.first c.args.next c.args.at s (view_member c.args.member) (view_check c.in-Check.field-0.now) (ap view_member c.in-Check.is))
    (c.in_ok-add_own_lates-in-Check.ensures.elements c.args.library.now.gate_delays.items c.args.library.now.udps.items c.args.definitions.now top s (view_member c.args.member)
    (has-copies c.args.definitions.now top corner c.args.instances.now c.args.library.now c.args.rows.now c.args.number c.args.prepared.now.table c.args.row.now c.args.driven.now c.args.delays c.args.first c.args.next c.args.at s c.args.prepared.now (view_member c.args.member) (view_check c.in-Check.field-0.now) (ap view_member c.in-Check.is) ready h))

pub returns-in_ok-add_own_lates-in-Check-clause-next : goal.returns-in_ok-add_own_lates-in-Check-clause-next
returns-in_ok-add_own_lates-in-Check-clause-next c = λ top corner s ready h. check-after c.args.definitions.now top corner c.args.instances.now c.args.library.now c.args.rows.now c.args.number c.args.prepared.now.table c.args.row.now c.args.driven.now c.args.delays c.args.first c.args.next c.args.at s (view_member c.args.member) (view_check c.in-Check.field-0.now) (ap view_member c.in-Check.is) h
