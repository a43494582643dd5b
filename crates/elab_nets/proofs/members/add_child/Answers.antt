-- The lookups find what they should, and what is added lies outside of the child.
use Rattle.std.proofs.Common.{◌≡◌, ap, arith, length, refl, set}
use Rattle.std.proofs.lemmas.Result.{err_from_is_err_and}
use Rattle.std.proofs.lemmas.Option.{slice_get_read}
use Rattle.elab_model.specs.Nets.{nets}
use Rattle.elab_nets.proofs.Counts.{handed-on}
use Rattle.elab_modules.proofs.FoundModules.{is-prepared, is-found, lent, none-lent}
use Rattle.elab_nets.proofs.ChildRows.{the, is-child, leaf-is, child-seen, child-refused, below-placed, placed-is, has-room, row-found, row-is}
use Rattle.elab_nets.proofs.members.add_child.Goals as goal

pub returns-in_default-clause-seen : goal.returns-in_default-clause-seen
returns-in_default-clause-seen c = λ source top m corner turn k n d at defined stands ready.
    absurd (is-found source c.args.library.now.parts.items c.args.place m turn.given.ready.ready stands ready (none-lent c.find_module.result _ c.in_default.is c.find_module.ensures))

pub returns-in_default-get-clause-seen : goal.returns-in_default-get-clause-seen
returns-in_default-get-clause-seen c = λ source top m corner turn k n d at defined stands ready.
    let lt = below-placed source top corner c.args.library.now c.args.instances.now c.args.rows.now c.args.table.now c.args.number turn k n d c.args.text.now m c.args.next (length c.args.rows.now.nets.items) at defined in
    let le = c.in_default-get.ensures.lookup.3 in
    absurd (omega arith)

pub returns-then-index-len-clause-seen : goal.returns-then-index-len-clause-seen
returns-then-index-len-clause-seen c = λ source top m corner turn k n d at defined stands ready.
    let lt = has-room source top corner c.args.library.now c.args.instances.now c.args.rows.now c.args.table.now c.args.number turn k n d c.args.text.now m c.args.next (length c.args.rows.now.nets.items) at defined in
    absurd (omega (arith, c.len.ensures, c.if-index-len.true, c.args.rows.now.outer_starts.ok.0, lt))

pub returns-in_err-add_outside-clause-refused : goal.returns-in_err-add_outside-clause-refused
returns-in_err-add_outside-clause-refused c =
    handed-on c.from_residual.result _ c.in_err-add_outside.field-0.0 (err_from_is_err_and c.from_residual.result c.from_residual.ensures.1)
    (λ source top m corner turn k n d at defined stands ready.
    let rows = c.args.rows.now in
    let vs = c.args.table.now in
    let text = c.args.text.now in
    let lib = c.args.library.now in
    let list = c.args.instances.now in
    let count = length rows.nets.items in
    let prepared = is-prepared source lib.parts.items c.args.place m c.in-Some.child.now turn.given.ready.ready stands (lent c.find_module.result c.in-Some.child _ c.in-Some.is c.find_module.ensures) in
    let p = c.in-Some-get.placed.now in
    let there = placed-is source top corner lib list rows vs c.args.number turn k n d text m c.args.next count at defined p
    (slice_get_read list (length list) c.args.next p refl c.in-Some-get.ensures.lookup.3.0 c.in-Some-get.ensures.lookup.1) in
    let row = row-is source top corner lib list rows vs c.args.number turn k n d text m c.args.next count at defined _ c.in-Some-row_of.row.now
    (row-found source top corner lib list rows vs c.args.number turn k n d text m c.args.next count at defined c.deref.result.now c.deref-2.result.now c.bits.result _ c.deref.ensures.value c.deref-2.ensures.value c.bits.ensures c.row_of.ensures.row)
    (lent c.row_of.result c.in-Some-row_of.row _ c.in-Some-row_of.is refl) in
    let lone = leaf-is source top corner lib list rows vs c.args.number turn k n d text m c.args.next count at defined p _ there refl in
    child-refused source top corner lib list rows vs c.args.number turn k n d text m c.args.next count at defined c.in_err-add_outside.field-0.0
    (c.in_err-add_outside.ensures.refused (nets source top) source turn.s (the source top corner lib list rows vs c.args.number turn k n d text m c.args.next count at defined)
    (is-child source top corner lib list rows vs c.args.number turn k n d text m c.args.next count at defined c.in-Some.child.now c.in-Some-row_of.row.now _ prepared row lone)))

pub returns-clause-seen : goal.returns-clause-seen
returns-clause-seen c = λ source top m corner turn k n d at defined stands ready.
    let rows = c.args.rows.now in
    let vs = c.args.table.now in
    let text = c.args.text.now in
    let lib = c.args.library.now in
    let list = c.args.instances.now in
    let count = length rows.nets.items in
    let prepared = is-prepared source lib.parts.items c.args.place m c.in-Some.child.now turn.given.ready.ready stands (lent c.find_module.result c.in-Some.child _ c.in-Some.is c.find_module.ensures) in
    let p = c.in-Some-get.placed.now in
    let there = placed-is source top corner lib list rows vs c.args.number turn k n d text m c.args.next count at defined p
    (slice_get_read list (length list) c.args.next p refl c.in-Some-get.ensures.lookup.3.0 c.in-Some-get.ensures.lookup.1) in
    let row = row-is source top corner lib list rows vs c.args.number turn k n d text m c.args.next count at defined _ c.in-Some-row_of.row.now
    (row-found source top corner lib list rows vs c.args.number turn k n d text m c.args.next count at defined c.deref.result.now c.deref-2.result.now c.bits.result _ c.deref.ensures.value c.deref-2.ensures.value c.bits.ensures c.row_of.ensures.row)
    (lent c.row_of.result c.in-Some-row_of.row _ c.in-Some-row_of.is refl) in
    let lone = leaf-is source top corner lib list rows vs c.args.number turn k n d text m c.args.next count at defined p _ there refl in
    let child = is-child source top corner lib list rows vs c.args.number turn k n d text m c.args.next count at defined c.in-Some.child.now c.in-Some-row_of.row.now _ prepared row lone in
    let new = the source top corner lib list rows vs c.args.number turn k n d text m c.args.next count at defined in
    child-seen source top corner lib list rows vs c.args.number turn k n d text m c.args.next count at defined c.in-Some.child.now p _ prepared there
    (has-room source top corner lib list rows vs c.args.number turn k n d text m c.args.next count at defined)
    (c.in_ok-add_outside.ensures.nets (nets source top) source turn.s new child)
    (c.in_ok-add_outside.ensures.outer (nets source top) source turn.s new child)
    (ap (set rows.outer_starts.items c.args.next) (let n : c.len-2.result ≡ length rows.outer.items = omega (arith, c.len-2.ensures, rows.outer.ok.0) in n))
    refl (refl, (refl, (refl, (refl, refl))))
