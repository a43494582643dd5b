-- What lies outside is what the bits are given, but where a Leg stands.
use Rattle.std.proofs.Common.{◌≡◌, ◌∙◌, ◌++◌, ◌∷◌, [], ap, arith, length, refl}
use Rattle.std.proofs.lemmas.Result.{IfErr-weaker}
use Rattle.elab_nets.proofs.Counts.{on-both}
use Rattle.elab_modules.proofs.FoundModules.{lent, none-lent}
use Rattle.elab_nets.proofs.InnerRows.{own-refused, outer-found, outside-is, is-begun}
use Rattle.elab_nets.proofs.turns.add_inner.Goals as goal

pub returns-in_default-clause-begun : goal.returns-in_default-clause-begun
returns-in_default-clause-begun c = λ source top corner mine.
    absurd (outer-found source top corner c.args.rows.now c.args.table.now c.args.number c.args.leaf mine c.deref.result.now c.deref-2.result.now c.bits.result _ c.deref.ensures.value c.deref-2.ensures.value c.bits.ensures
    c.row_of.ensures.row (none-lent c.row_of.result _ c.in_default.is refl))

pub returns-clause-begun : goal.returns-clause-begun
returns-clause-begun c =
    let rows = c.args.rows.now in
    on-both c.add_own.result c.add_own.ensures.inner c.add_own.ensures.nets
    (λ inner nets source top corner mine.
    let row = outside-is source top corner rows c.args.table.now c.args.number c.args.leaf mine c.deref.result.now c.deref-2.result.now c.bits.result _ c.in-Some.outside.now c.deref.ensures.value c.deref-2.ensures.value c.bits.ensures
    c.row_of.ensures.row (lent c.row_of.result c.in-Some.outside _ c.in-Some.is refl) in
    let count : c.len.result ≡ length rows.inner.items = omega (arith, c.len.ensures, rows.inner.ok.0) in
    is-begun source top corner rows _ c.args.table.now c.args.number c.args.leaf mine c.in-Some.outside.now row inner nets (c.in_ok-push.ensures.items ∙ ap (λ n. rows.starts.items ++ n ∷ []) count)
    (refl, (refl, (refl, (refl, (refl, refl))))))

pub returns-clause-refused : goal.returns-clause-refused
returns-clause-refused c =
    let rows = c.args.rows.now in
    IfErr-weaker c.add_own.result _ _
    (λ r h source top corner mine.
    let row = outside-is source top corner rows c.args.table.now c.args.number c.args.leaf mine c.deref.result.now c.deref-2.result.now c.bits.result _ c.in-Some.outside.now c.deref.ensures.value c.deref-2.ensures.value c.bits.ensures
    c.row_of.ensures.row (lent c.row_of.result c.in-Some.outside _ c.in-Some.is refl) in
    own-refused source top corner mine.sound mine.before mine.after mine.s mine.here c.args.table.now c.args.leaf c.in-Some.outside.now (length rows.nets.items) mine.table_is mine.leaf_is row mine.nets_there r h)
    c.add_own.ensures.refused
