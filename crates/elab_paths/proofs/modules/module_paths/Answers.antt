-- The paths of all modules, or a fault of one.
use Rattle.std.specs.Prelude.{◌++◌, ◌∷◌, [], length, refl}
use Rattle.std.proofs.Common.{◌∙◌, sym, ap, subst}
use Rattle.std.proofs.lemmas.List.{with_items_is}
use Rattle.std.proofs.lemmas.List.Elements.{All-nil}
use Rattle.std.proofs.lemmas.Result.{err_from_is_err_and}
use Rattle.elab_hierarchy.proofs.Whole.{refuses}
use Rattle.elab_elements.proofs.NamedOfModules.{places-within}
use Rattle.specify_paths.specs.Seen.{IsRead}
use Rattle.elab_paths.specs.Shelving.{AreRead}
use Rattle.elab_paths.specs.OfModules.{AreReadySoFar}
use Rattle.elab_paths.proofs.EachModule.{all-ready, have-paths, first-stays, paths-refused}
use Rattle.elab_paths.proofs.SoFar.{ready-none}
use Rattle.elab_paths.proofs.modules.module_paths.Goals as goal

pub add_modules-requires-clause-within : goal.add_modules-requires-clause-within
add_modules-requires-clause-within c = places-within c.args.definitions.now c.args.instances.now _ c.requires.read.1

pub add_modules-requires-clause-stand : goal.add_modules-requires-clause-stand
add_modules-requires-clause-stand c =
    all-ready c.args.definitions.now c.args.corner c.requires.read.0 c.args.instances.now c.args.library.now c.args.tick.power c.requires.read.1 c.requires.read.2 c.requires.read.3

pub add_modules-requires-clause-ready : goal.add_modules-requires-clause-ready
add_modules-requires-clause-ready c =
    ready-none c.args.definitions.now c.args.corner c.args.tick.power c.deref_mut.result.now _ (c.deref_mut.ensures.value ∙ c.in_ok-outputs.ensures.nothing)

pub returns-in_err-add_modules-clause-refused : goal.returns-in_err-add_modules-clause-refused
returns-in_err-add_modules-clause-refused c =
    refuses _ c.from_residual-in_err-add_modules.result c.in_err-add_modules.field-0.0
    (err_from_is_err_and c.from_residual-in_err-add_modules.result c.from_residual-in_err-add_modules.ensures.1) (λ top are e library.
    paths-refused c.args.definitions.now c.args.corner top c.args.instances.now c.args.tick.power c.in_err-add_modules.field-0.0 are e c.in_err-add_modules.ensures.refused)

pub returns-clause-paths : goal.returns-clause-paths
returns-clause-paths c = λ top are e library.
    let begun : AreReadySoFar c.args.definitions.now c.args.corner c.args.tick.power c.deref_mut.result.now c.add_modules.new.shelves =
    ready-none c.args.definitions.now c.args.corner c.args.tick.power c.deref_mut.result.now c.add_modules.new.shelves (c.deref_mut.ensures.value ∙ c.in_ok-outputs.ensures.nothing) in
    let long = c.in_ok-add_modules.ensures.ready.counted ∙ sym begun.counted ∙ ap length c.deref_mut.ensures.value ∙ sym c.in_ok-outputs.outputs.ok.0 in
    have-paths c.args.definitions.now c.args.corner top c.args.instances.now c.args.tick.power c.args.legs _ c.add_modules.new.outputs c.add_modules.new.shelves
    (with_items_is c.in_ok-outputs.outputs c.add_modules.new.outputs long) refl refl
    (first-stays c.args.legs _ c.add_modules.new.shelves (c.in_ok-push.ensures.items ∙ ap (λ xs. xs ++ c.args.legs ∷ []) c.new.ensures.items) c.in_ok-add_modules.ensures.longer)
    (c.in_ok-add_modules.ensures.read (subst AreRead (sym c.new-2.ensures.items) (All-nil (λ k. IsRead k.tokens k)))) are e
    (record { once = c.in_ok-outputs.ensures.once; ready = c.in_ok-add_modules.ensures.ready; there = c.in_ok-add_modules.ensures.there })
