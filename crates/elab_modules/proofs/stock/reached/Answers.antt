-- What stands ready at the end.
use Rattle.std.proofs.Common.{◌∙◌, refl, sym, ap, subst, length}
use Rattle.std.proofs.lemmas.Result.{err_from_is_err_and}
use Rattle.std.proofs.lemmas.List.{with_items_is}
use Rattle.elab_hierarchy.proofs.Whole.{refuses}
use Rattle.elab_modules.specs.Reaching.{HasMet}
use Rattle.elab_modules.proofs.Meeting.{met-none, places_of}
use Rattle.elab_modules.proofs.stock.reached.Goals as goal

pub add_modules-requires-clause-empty : goal.add_modules-requires-clause-empty
add_modules-requires-clause-empty c =
    met-none c.args.definitions.now c.deref_mut.result.now c.args.udps.now.items (length c.args.definitions.now) refl (c.deref_mut.ensures.value ∙ c.in_ok-add_nothing.ensures.nothing) c.requires.empty

pub returns-in_err-add_modules-clause-refused : goal.returns-in_err-add_modules-clause-refused
returns-in_err-add_modules-clause-refused c =
    refuses _ c.from_residual-in_err-add_modules.result c.in_err-add_modules.field-0.0
    (err_from_is_err_and c.from_residual-in_err-add_modules.result c.from_residual-in_err-add_modules.ensures.1) c.in_err-add_modules.ensures.refused

pub returns-clause-met : goal.returns-clause-met
returns-clause-met c =
    let first =
    met-none c.args.definitions.now c.deref_mut.result.now c.args.udps.now.items (length c.args.definitions.now) refl (c.deref_mut.ensures.value ∙ c.in_ok-add_nothing.ensures.nothing) c.requires.empty in
    let long = c.in_ok-add_modules.ensures.met.stock.ready.0 ∙ sym first.stock.ready.0 ∙ ap length c.deref_mut.ensures.value ∙ sym c.add_nothing.new.parts.ok.0 in
    subst (λ ps. HasMet c.args.definitions.now ps c.add_modules.new.udps.items (places_of c.args.instances.now)) (sym (with_items_is c.add_nothing.new.parts c.add_modules.new.parts long))
    c.in_ok-add_modules.ensures.met

pub returns-clause-once : goal.returns-clause-once
returns-clause-once c = c.in_ok-add_nothing.ensures.once
