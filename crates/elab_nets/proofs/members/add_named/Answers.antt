-- What the name defines is a module, whose instance is a child, or a primitive, or nothing.
use Rattle.std.proofs.Common.{◌∙◌, ◌++◌, ◌+◌, ap, sym, map, length, subst, refl, append-nil}
use Rattle.std.specs.Option.{option_and_then}
use Rattle.std.proofs.lemmas.Result.{err_from_is_err_and, IfOk-weaker, IfErr-weaker}
use Rattle.vl_tree.specs.Seen.{view_instance, view_name}
use Rattle.elab_model.specs.Definitions.{as_module}
use Rattle.elab_model.specs.Hierarchy.{child_of}
use Rattle.elab_model.specs.Nets.{instance_nets}
use Rattle.elab_numbering.specs.Refusals.{RefusesCount}
use Rattle.elab_model.specs.Numbered.{undriven}
use Rattle.elab_nets.proofs.Counts.{handed-on}
use Rattle.elab_nets.proofs.ChildRows.{lone-seen, member-refused}
use Rattle.elab_nets.proofs.Defined.{found-none, is-defined, as-module, as-primitive, names-ready}
use Rattle.elab_nets.proofs.Placings.{is-there}
use Rattle.elab_nets.proofs.members.add_named.Goals as goal

pub returns-in_default-clause-seen : goal.returns-in_default-clause-seen
returns-in_default-clause-seen c = λ top corner turn k d at.
    let none = found-none _ 0 c.args.definitions.now (sym c.in_default.ensures) in
    lone-seen c.args.definitions.now top turn.s _ at.levels c.args.next at.behind c.args.rows.now c.args.rows.now
    (ap (λ o. child_of (option_and_then as_module o) k (view_instance c.args.text.now)) none)
    (sym (append-nil c.args.rows.now.nets.items) ∙ ap (λ o. c.args.rows.now.nets.items ++ map undriven (instance_nets c.args.definitions.now turn.s k (view_instance c.args.text.now) o)) (sym none))
    (sym (append-nil c.args.rows.now.ends.items)) refl refl (refl, (refl, (refl, (refl, refl))))

pub is_module-requires : goal.is_module-requires
is_module-requires c = (is-defined c.args.definitions.now c.args.name.text.now c.in-Some.place (sym c.in-Some.ensures)).below

pub returns-then-is_module-clause-seen : goal.returns-then-is_module-clause-seen
returns-then-is_module-clause-seen c =
    let source = c.args.definitions.now in
    let found = is-defined source c.args.name.text.now c.in-Some.place (sym c.in-Some.ensures) in
    let m = as-module source c.args.name.text.now c.in-Some.place _ found c.is_module.ensures c.if-is_module.true in
    IfOk-weaker c.add_child.result _ _
    (λ after h top corner turn k d at. h source top m.0 corner turn k (view_name c.args.name) d at m.1 m.2
    (names-ready source top corner c.args.library.now turn.given.ready turn.s (is-there source top turn.before turn.after turn.s turn.here) at.front at.behind k c.in-Some.place (view_name c.args.name) d
    (view_instance c.args.text.now) at.split (sym c.in-Some.ensures)))
    c.add_child.ensures.seen

pub returns-then-is_module-clause-refused : goal.returns-then-is_module-clause-refused
returns-then-is_module-clause-refused c =
    let source = c.args.definitions.now in
    let found = is-defined source c.args.name.text.now c.in-Some.place (sym c.in-Some.ensures) in
    let m = as-module source c.args.name.text.now c.in-Some.place _ found c.is_module.ensures c.if-is_module.true in
    IfErr-weaker c.add_child.result _ _
    (λ r h top corner turn k d at. h source top m.0 corner turn k (view_name c.args.name) d at m.1 m.2
    (names-ready source top corner c.args.library.now turn.given.ready turn.s (is-there source top turn.before turn.after turn.s turn.here) at.front at.behind k c.in-Some.place (view_name c.args.name) d
    (view_instance c.args.text.now) at.split (sym c.in-Some.ensures)))
    c.add_child.ensures.refused

pub returns-in_err-add_primitive-clause-refused : goal.returns-in_err-add_primitive-clause-refused
returns-in_err-add_primitive-clause-refused c =
    let source = c.args.definitions.now in
    let found = is-defined source c.args.name.text.now c.in-Some.place (sym c.in-Some.ensures) in
    let p = as-primitive source c.args.name.text.now c.in-Some.place _ found c.is_module.ensures c.if-is_module.false in
    handed-on c.from_residual.result _ c.in_err-add_primitive.field-0.0 (err_from_is_err_and c.from_residual.result c.from_residual.ensures.1)
    (λ top corner turn k d at. member-refused source top corner c.args.library.now c.args.instances.now c.args.rows.now c.args.table.now c.args.number turn _ c.args.next (length c.args.rows.now.nets.items) at
    c.in_err-add_primitive.field-0.0
    (subst (λ o. RefusesCount (length c.args.rows.now.nets.items + length (instance_nets source turn.s k (view_instance c.args.text.now) o)) c.in_err-add_primitive.field-0.0) (sym p.1)
    (c.in_err-add_primitive.ensures.refused turn.s k turn.table_is turn.number_is)))

pub returns-clause-seen : goal.returns-clause-seen
returns-clause-seen c = λ top corner turn k d at.
    let source = c.args.definitions.now in
    let found = is-defined source c.args.name.text.now c.in-Some.place (sym c.in-Some.ensures) in
    let p = as-primitive source c.args.name.text.now c.in-Some.place _ found c.is_module.ensures c.if-is_module.false in
    lone-seen source top turn.s _ at.levels c.args.next at.behind c.args.rows.now _
    (ap (λ o. child_of (option_and_then as_module o) k (view_instance c.args.text.now)) p.1)
    (c.in_ok-add_primitive.ensures.nets turn.s k turn.table_is turn.number_is
    ∙ ap (λ o. c.args.rows.now.nets.items ++ map undriven (instance_nets source turn.s k (view_instance c.args.text.now) o)) (sym p.1))
    (sym (append-nil c.args.rows.now.ends.items)) refl refl (refl, (refl, (refl, (refl, refl))))
