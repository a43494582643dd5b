-- What the name defines is a module, of which the next instance is one, or a primitive.
use Rattle.std.proofs.Common.{◌+◌, length, subst, sym}
use Rattle.std.proofs.lemmas.Result.{err_from_is_err_and, IfOk-weaker, on_ok_weaker}
use Rattle.vl_tree.specs.Seen.{view_name}
use Rattle.elab_laws.specs.Handing.{all_bits}
use Rattle.elab_model.specs.Nets.{nets}
use Rattle.elab_numbering.specs.Refusals.{RefusesCount}
use Rattle.elab_elements.specs.Adding.{Adds}
use Rattle.elab_elements.proofs.MembersSoFar.{adds-none}
use Rattle.elab_elements.proofs.NamedMember.{none-named, none-next, names-module, names-primitive, the, the-at, the-inside, module-elements, module-next, primitive-fits, primitive-elements, primitive-next}
use Rattle.elab_elements.proofs.Putting.{exit-by, if_err-weaker}
use Rattle.elab_elements.proofs.ReadHere.{row-count}
use Rattle.elab_elements.proofs.turns.add_named.Goals as goal

pub returns-in_default-clause-next : goal.returns-in_default-clause-next
returns-in_default-clause-next c = λ top corner k d s h. none-next c.args.definitions.now top corner c.args.instances.now c.args.library.now c.args.rows.now c.args.number c.args.table.now c.args.row.now c.args.driven.now c.args.delays c.args.first c.args.next k (view_name c.args.name) d c.args.text.now s h (sym c.in_default.ensures)

pub returns-in_default-clause-elements : goal.returns-in_default-clause-elements
returns-in_default-clause-elements c = λ top corner k d s h.
    subst (Adds c.args.library.now.gate_delays.items c.args.library.now.udps.items (nets c.args.definitions.now top) c.args.made.now c.args.made.now)
    (none-named c.args.definitions.now top corner c.args.instances.now c.args.library.now c.args.rows.now c.args.number c.args.table.now c.args.row.now c.args.driven.now c.args.delays c.args.first c.args.next k (view_name c.args.name) d c.args.text.now s h (sym c.in_default.ensures))
    (adds-none _ _ (nets c.args.definitions.now top) c.args.made.now)

pub add_child-requires-clause-at : goal.add_child-requires-clause-at
add_child-requires-clause-at c =
    let m = names-module c.args.definitions.now c.requires.at.0 c.requires.at.1.0 c.args.instances.now c.args.library.now c.args.rows.now c.args.number c.args.table.now c.args.row.now c.args.driven.now c.args.delays c.args.first c.args.next c.requires.at.1.1.0 (view_name c.args.name) c.requires.at.1.1.1.0 c.args.text.now c.requires.at.1.1.1.1.0 c.requires.at.1.1.1.1.1 c.in-Some.place (sym c.in-Some.ensures) (sym c.in_default-primitive_at.ensures) in (
      c.args.definitions.now,
      (
        c.requires.at.0,
        (
          c.requires.at.1.0,
          (
            the c.args.definitions.now c.requires.at.0 c.requires.at.1.0 c.args.instances.now c.args.library.now c.args.rows.now c.args.number c.args.table.now c.args.row.now c.args.driven.now c.args.delays c.args.first c.args.next c.requires.at.1.1.0 (view_name c.args.name) c.requires.at.1.1.1.0 c.args.text.now c.requires.at.1.1.1.1.0 c.requires.at.1.1.1.1.1 m,
            the-at c.args.definitions.now c.requires.at.0 c.requires.at.1.0 c.args.instances.now c.args.library.now c.args.rows.now c.args.number c.args.table.now c.args.row.now c.args.driven.now c.args.delays c.args.first c.args.next c.requires.at.1.1.0 (view_name c.args.name) c.requires.at.1.1.1.0 c.args.text.now c.requires.at.1.1.1.1.0 c.requires.at.1.1.1.1.1 m,
          ),
        ),
      ),
    )

pub returns-in_default-primitive_at-clause-next : goal.returns-in_default-primitive_at-clause-next
returns-in_default-primitive_at-clause-next c =
    IfOk-weaker c.add_child.result _ _ (λ after f top corner k d s h.
    module-next c.args.definitions.now top corner c.args.instances.now c.args.library.now c.args.rows.now c.args.number c.args.table.now c.args.row.now c.args.driven.now c.args.delays c.args.first c.args.next k (view_name c.args.name) d c.args.text.now s h (names-module c.args.definitions.now top corner c.args.instances.now c.args.library.now c.args.rows.now c.args.number c.args.table.now c.args.row.now c.args.driven.now c.args.delays c.args.first c.args.next k (view_name c.args.name) d c.args.text.now s h c.in-Some.place (sym c.in-Some.ensures) (sym c.in_default-primitive_at.ensures)) after (λ i at. f c.args.definitions.now top corner i at))
    c.add_child.ensures.next

pub returns-in_default-primitive_at-clause-elements : goal.returns-in_default-primitive_at-clause-elements
returns-in_default-primitive_at-clause-elements c =
    on_ok_weaker c.add_child.result (λ f. λ top corner k d s h.
    let m = names-module c.args.definitions.now top corner c.args.instances.now c.args.library.now c.args.rows.now c.args.number c.args.table.now c.args.row.now c.args.driven.now c.args.delays c.args.first c.args.next k (view_name c.args.name) d c.args.text.now s h c.in-Some.place (sym c.in-Some.ensures) (sym c.in_default-primitive_at.ensures) in
    subst (Adds c.args.library.now.gate_delays.items c.args.library.now.udps.items (nets c.args.definitions.now top) c.args.made.now c.add_child.new.made)
    (module-elements c.args.definitions.now top corner c.args.instances.now c.args.library.now c.args.rows.now c.args.number c.args.table.now c.args.row.now c.args.driven.now c.args.delays c.args.first c.args.next k (view_name c.args.name) d c.args.text.now s h m)
    (f c.args.definitions.now top corner s (the c.args.definitions.now top corner c.args.instances.now c.args.library.now c.args.rows.now c.args.number c.args.table.now c.args.row.now c.args.driven.now c.args.delays c.args.first c.args.next k (view_name c.args.name) d c.args.text.now s h m) (the-at c.args.definitions.now top corner c.args.instances.now c.args.library.now c.args.rows.now c.args.number c.args.table.now c.args.row.now c.args.driven.now c.args.delays c.args.first c.args.next k (view_name c.args.name) d c.args.text.now s h m) (the-inside c.args.definitions.now top corner c.args.instances.now c.args.library.now c.args.rows.now c.args.number c.args.table.now c.args.row.now c.args.driven.now c.args.delays c.args.first c.args.next k (view_name c.args.name) d c.args.text.now s h m)))
    c.add_child.ensures.elements

pub returns-in_default-primitive_at-clause-refused : goal.returns-in_default-primitive_at-clause-refused
returns-in_default-primitive_at-clause-refused c =
    if_err-weaker c.add_child.result _ _ (λ r f top corner k d s h.
    let m = names-module c.args.definitions.now top corner c.args.instances.now c.args.library.now c.args.rows.now c.args.number c.args.table.now c.args.row.now c.args.driven.now c.args.delays c.args.first c.args.next k (view_name c.args.name) d c.args.text.now s h c.in-Some.place (sym c.in-Some.ensures) (sym c.in_default-primitive_at.ensures) in
    subst (λ cs. RefusesCount (length c.args.made.now.elements.items + length cs) r)
    (module-elements c.args.definitions.now top corner c.args.instances.now c.args.library.now c.args.rows.now c.args.number c.args.table.now c.args.row.now c.args.driven.now c.args.delays c.args.first c.args.next k (view_name c.args.name) d c.args.text.now s h m)
    (f c.args.definitions.now top corner s (the c.args.definitions.now top corner c.args.instances.now c.args.library.now c.args.rows.now c.args.number c.args.table.now c.args.row.now c.args.driven.now c.args.delays c.args.first c.args.next k (view_name c.args.name) d c.args.text.now s h m) (the-at c.args.definitions.now top corner c.args.instances.now c.args.library.now c.args.rows.now c.args.number c.args.table.now c.args.row.now c.args.driven.now c.args.delays c.args.first c.args.next k (view_name c.args.name) d c.args.text.now s h m) (the-inside c.args.definitions.now top corner c.args.instances.now c.args.library.now c.args.rows.now c.args.number c.args.table.now c.args.row.now c.args.driven.now c.args.delays c.args.first c.args.next k (view_name c.args.name) d c.args.text.now s h m)))
    c.add_child.ensures.refused

pub add_primitive-requires-clause-row : goal.add_primitive-requires-clause-row
add_primitive-requires-clause-row c = row-count _ c.args.row.now (all_bits c.args.table.now) c.requires.at.1.1.1.1.1.here.numbers.numbers

pub add_primitive-requires-clause-driven : goal.add_primitive-requires-clause-driven
add_primitive-requires-clause-driven c = row-count _ c.args.driven.now (all_bits c.args.table.now) c.requires.at.1.1.1.1.1.drives.numbers

pub returns-in_err-add_primitive-clause-refused : goal.returns-in_err-add_primitive-clause-refused
returns-in_err-add_primitive-clause-refused c =
    exit-by _ c.from_residual.result c.in_err-add_primitive.field-0.0 (err_from_is_err_and c.from_residual.result c.from_residual.ensures.1)
    (λ top corner k d s h.
    subst (λ cs. RefusesCount (length c.args.made.now.elements.items + length cs) c.in_err-add_primitive.field-0.0)
    (primitive-elements c.args.definitions.now top corner c.args.instances.now c.args.library.now c.args.rows.now c.args.number c.args.table.now c.args.row.now c.args.driven.now c.args.delays c.args.first c.args.next k (view_name c.args.name) d c.args.text.now s h c.in-Some-primitive_at.udp (names-primitive c.args.definitions.now top corner c.args.instances.now c.args.library.now c.args.rows.now c.args.number c.args.table.now c.args.row.now c.args.driven.now c.args.delays c.args.first c.args.next k (view_name c.args.name) d c.args.text.now s h c.in-Some.place c.in-Some-primitive_at.udp (sym c.in-Some.ensures) (sym c.in-Some-primitive_at.ensures)))
    (c.in_err-add_primitive.ensures.refused c.args.library.now.gate_delays.items c.args.library.now.udps.items c.args.definitions.now s k))

pub returns-clause-next : goal.returns-clause-next
returns-clause-next c = λ top corner k d s h.
    primitive-next c.args.definitions.now top corner c.args.instances.now c.args.library.now c.args.rows.now c.args.number c.args.table.now c.args.row.now c.args.driven.now c.args.delays c.args.first c.args.next k (view_name c.args.name) d c.args.text.now s h c.in-Some-primitive_at.udp (names-primitive c.args.definitions.now top corner c.args.instances.now c.args.library.now c.args.rows.now c.args.number c.args.table.now c.args.row.now c.args.driven.now c.args.delays c.args.first c.args.next k (view_name c.args.name) d c.args.text.now s h c.in-Some.place c.in-Some-primitive_at.udp (sym c.in-Some.ensures) (sym c.in-Some-primitive_at.ensures))

pub returns-clause-elements : goal.returns-clause-elements
returns-clause-elements c = λ top corner k d s h.
    let p = names-primitive c.args.definitions.now top corner c.args.instances.now c.args.library.now c.args.rows.now c.args.number c.args.table.now c.args.row.now c.args.driven.now c.args.delays c.args.first c.args.next k (view_name c.args.name) d c.args.text.now s h c.in-Some.place c.in-Some-primitive_at.udp (sym c.in-Some.ensures) (sym c.in-Some-primitive_at.ensures) in
    subst (Adds c.args.library.now.gate_delays.items c.args.library.now.udps.items (nets c.args.definitions.now top) c.args.made.now c.add_primitive.new.made)
    (primitive-elements c.args.definitions.now top corner c.args.instances.now c.args.library.now c.args.rows.now c.args.number c.args.table.now c.args.row.now c.args.driven.now c.args.delays c.args.first c.args.next k (view_name c.args.name) d c.args.text.now s h c.in-Some-primitive_at.udp p)
    (c.in_ok-add_primitive.ensures.elements c.args.library.now.gate_delays.items c.args.library.now.udps.items (nets c.args.definitions.now top) c.args.definitions.now s k h.here h.drives
    (primitive-fits c.args.definitions.now top corner c.args.instances.now c.args.library.now c.args.rows.now c.args.number c.args.table.now c.args.row.now c.args.driven.now c.args.delays c.args.first c.args.next k (view_name c.args.name) d c.args.text.now s h c.in-Some-primitive_at.udp p) p.table.below h.listed)
