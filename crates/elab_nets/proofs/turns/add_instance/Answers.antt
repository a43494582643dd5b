-- The instance is found in both lists, and its turn is made of its own rows and those of its children.
use Rattle.std.proofs.Common.{◌≡◌, ◌∙◌, ◌++◌, ◌∷◌, [], ap, arith, length, refl}
use Rattle.std.proofs.lemmas.Option.{slice_get_read}
use Rattle.std.proofs.lemmas.Result.{err_from_is_err_and}
use Rattle.elab_nets.proofs.Counts.{handed-on}
use Rattle.elab_modules.proofs.FoundModules.{lent, none-lent}
use Rattle.elab_nets.proofs.Mine.{is-of, found, prepared-is, is-mine, is-turn, count-begun, turn-done}
use Rattle.elab_nets.proofs.turns.add_instance.Goals as goal

pub returns-in_default-clause-done : goal.returns-in_default-clause-done
returns-in_default-clause-done c = λ top corner given up.
    let list = c.args.instances.now in
    let p = c.index-instances-number.result in
    let of = is-of c.args.definitions.now top corner c.args.library.now list given c.args.number p (slice_get_read list (length list) c.args.number p refl c.requires.within c.index-instances-number.is) in
    absurd (found c.args.definitions.now top corner c.args.library.now list given c.args.number p of (none-lent c.find_module.result _ c.in_default.is c.find_module.ensures))

pub returns-in_err-add_inner-clause-refused : goal.returns-in_err-add_inner-clause-refused
returns-in_err-add_inner-clause-refused c =
    handed-on c.from_residual.result _ c.in_err-add_inner.field-0.0 (err_from_is_err_and c.from_residual.result c.from_residual.ensures.1)
    (λ top corner given up.
    let source = c.args.definitions.now in
    let lib = c.args.library.now in
    let list = c.args.instances.now in
    let p = c.index-instances-number.result in
    let of = is-of source top corner lib list given c.args.number p (slice_get_read list (length list) c.args.number p refl c.requires.within c.index-instances-number.is) in
    let prepared = prepared-is source top corner lib list given c.args.number p of c.in-Some.prepared.now (lent c.find_module.result c.in-Some.prepared _ c.in-Some.is c.find_module.ensures) in
    c.in_err-add_inner.ensures.refused source top corner (is-mine source top corner lib list given c.args.number p of c.args.rows.now c.in-Some.prepared.now c.is_leaf-leaf.result up prepared c.is_leaf-leaf.ensures))

pub returns-in_err-add_members-clause-refused : goal.returns-in_err-add_members-clause-refused
returns-in_err-add_members-clause-refused c =
    handed-on c.from_residual-in_err-add_members.result _ c.in_err-add_members.field-0.0 (err_from_is_err_and c.from_residual-in_err-add_members.result c.from_residual-in_err-add_members.ensures.1)
    (λ top corner given up.
    let source = c.args.definitions.now in
    let lib = c.args.library.now in
    let list = c.args.instances.now in
    let p = c.index-instances-number.result in
    let of = is-of source top corner lib list given c.args.number p (slice_get_read list (length list) c.args.number p refl c.requires.within c.index-instances-number.is) in
    let prepared = prepared-is source top corner lib list given c.args.number p of c.in-Some.prepared.now (lent c.find_module.result c.in-Some.prepared _ c.in-Some.is c.find_module.ensures) in
    let mine = is-mine source top corner lib list given c.args.number p of c.args.rows.now c.in-Some.prepared.now c.is_leaf-leaf.result up prepared c.is_leaf-leaf.ensures in
    let begun = c.in_ok-add_inner.ensures.begun source top corner mine in
    c.in_err-add_members.ensures.refused top corner
    (is-turn source top corner lib list given c.args.number p of c.args.rows.now c.add_inner.new.rows _ c.in-Some.prepared.now up begun prepared refl refl refl) prepared
    (count-begun source top corner lib list given c.args.number p of c.args.rows.now c.add_inner.new.rows up begun))

pub returns-clause-done : goal.returns-clause-done
returns-clause-done c = λ top corner given up.
    let source = c.args.definitions.now in
    let lib = c.args.library.now in
    let list = c.args.instances.now in
    let p = c.index-instances-number.result in
    let of = is-of source top corner lib list given c.args.number p (slice_get_read list (length list) c.args.number p refl c.requires.within c.index-instances-number.is) in
    let prepared = prepared-is source top corner lib list given c.args.number p of c.in-Some.prepared.now (lent c.find_module.result c.in-Some.prepared _ c.in-Some.is c.find_module.ensures) in
    let mine = is-mine source top corner lib list given c.args.number p of c.args.rows.now c.in-Some.prepared.now c.is_leaf-leaf.result up prepared c.is_leaf-leaf.ensures in
    let r1 = c.add_inner.new.rows in
    let r3 = c.add_members.new.rows in
    let begun = c.in_ok-add_inner.ensures.begun source top corner mine in
    let count = count-begun source top corner lib list given c.args.number p of c.args.rows.now r1 up begun in
    let turn = is-turn source top corner lib list given c.args.number p of c.args.rows.now r1 _ c.in-Some.prepared.now up begun prepared refl refl refl in
    let through = c.in_ok-add_members.ensures.through top corner turn prepared count in
    let firsts : c.len.result ≡ length r1.firsts.items = omega (arith, c.len.ensures, r1.firsts.ok.0) in
    let ends : c.len-2.result ≡ length r1.ends.items = omega (arith, c.len-2.ensures, r1.ends.ok.0) in
    let last : c.len-3.result ≡ length r3.nets.items = omega (arith, c.len-3.ensures, r3.nets.ok.0) in
    turn-done source top corner lib list given c.args.number p of c.args.rows.now r1 _ r3 _ through.0 up begun
    (c.in_ok-push.ensures.items ∙ ap (λ n. r1.member_starts.items ++ n ∷ []) firsts) (c.in_ok-push-2.ensures.items ∙ ap (λ n. r1.end_starts.items ++ n ∷ []) ends)
    (refl, (refl, (refl, (refl, (refl, (refl, refl)))))) count through.1
    (c.in_ok-push-3.ensures.items ∙ ap (λ n. r3.firsts.items ++ n ∷ []) last) (refl, (refl, (refl, (refl, (refl, (refl, (refl, refl)))))))
