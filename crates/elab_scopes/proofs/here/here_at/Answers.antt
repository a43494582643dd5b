-- What stands ready is found.
use Rattle.std.proofs.Common.{◌≡◌, ◌≤◌, ◌∙◌, Some, ap, refl, sym, subst, length}
use Rattle.std.specs.Prelude.{slice_get}
use Rattle.std.proofs.lemmas.Bool.{ltb-false}
use Rattle.std.proofs.lemmas.Option.{slice_get_read, slice_get_past}
use Rattle.elab_nets.specs.Rows.{part_of}
use Rattle.elab_scopes.specs.declared.here.Here.{Here}
use Rattle.elab_scopes.proofs.Standing.{module-missing, module-ready, row-found, row-there}
use Rattle.elab_scopes.proofs.here.here_at.Goals as goal

pub returns-in_err-prepared : goal.returns-in_err-prepared
returns-in_err-prepared c = λ source top corner ss all s st.
    absurd (module-missing source top corner c.args.library.now c.args.rows.now ss all c.args.number c.args.placed.now s st (sym c.in_err-prepared.ensures))

pub returns-in_err-start : goal.returns-in_err-start
returns-in_err-start c = λ source top corner ss all s st.
    let n = c.args.number in
    let le : length c.args.rows.now.starts.items ≤ n =
    subst (λ xs. length xs ≤ n) c.deref.ensures.value (ltb-false n (length c.deref.result.now) (sym c.in_err-start.ensures.lookup.0)) in
    absurd (row-there source top corner c.args.library.now c.args.rows.now ss all n c.args.placed.now s st (slice_get_past c.args.rows.now.starts.items n le))

pub returns : goal.returns
returns c = λ source top corner ss all s st.
    let n = c.args.number in
    let start = c.in_ok-start.field-0.now in
    let at : slice_get c.args.rows.now.starts.items n ≡ Some start =
    subst (λ xs. slice_get xs n ≡ Some start) c.deref.ensures.value
    (slice_get_read c.deref.result.now (length c.deref.result.now) n start refl c.in_ok-start.ensures.lookup.3.0 (c.in_ok-start.ensures.lookup.3.1 start)) in
    let ready = module-ready source top corner c.args.library.now c.args.rows.now ss all n c.args.placed.now s c.in_ok-prepared.prepared.now st (sym c.in_ok-prepared.ensures) in
    let here : Here = record { prepared = c.in_ok-prepared.prepared; row = c.part.result } in
    row-found source top corner c.args.library.now c.args.rows.now ss all n start c.bits.result c.args.placed.now s here st ready at c.bits.ensures
    (c.part.ensures ∙ ap (λ ns. part_of ns start c.bits.result) c.deref-2.ensures.value)
