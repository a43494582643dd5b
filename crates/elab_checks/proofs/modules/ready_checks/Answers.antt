-- The checks of all modules, or a fault of one.
use Rattle.std.specs.Prelude.{length}
use Rattle.std.proofs.Common.{◌∙◌, sym, ap}
use Rattle.std.proofs.lemmas.List.{with_items_is}
use Rattle.std.proofs.lemmas.Result.{err_from_is_err_and}
use Rattle.elab_hierarchy.proofs.Whole.{refuses}
use Rattle.elab_paths.proofs.NamedOfModules.{places-within}
use Rattle.elab_paths.proofs.EachModule.{all-ready}
use Rattle.elab_checks.specs.OfModules.{AreReadySoFar}
use Rattle.elab_checks.proofs.Names.{all-names}
use Rattle.elab_checks.proofs.EachModule.{have-checks, checks-refused}
use Rattle.elab_checks.proofs.SoFar.{ready-none}
use Rattle.elab_checks.proofs.modules.ready_checks.Goals as goal

pub add_modules-requires-clause-within : goal.add_modules-requires-clause-within
add_modules-requires-clause-within c = places-within c.args.definitions.now c.args.instances.now _ c.requires.read.1

pub add_modules-requires-clause-stand : goal.add_modules-requires-clause-stand
add_modules-requires-clause-stand c =
    all-ready c.args.definitions.now c.args.corner c.requires.read.0 c.args.instances.now c.args.library.now c.args.tick.power c.requires.read.1 c.requires.read.2 c.requires.read.3

pub add_modules-requires-clause-named : goal.add_modules-requires-clause-named
add_modules-requires-clause-named c = all-names c.args.definitions.now c.args.corner c.requires.read.0 c.args.instances.now c.requires.read.1 c.requires.read.3.sound

pub add_modules-requires-clause-ready : goal.add_modules-requires-clause-ready
add_modules-requires-clause-ready c =
    ready-none c.args.definitions.now c.args.corner c.args.tick.power c.deref_mut.result.now _ (c.deref_mut.ensures.value ∙ c.in_ok-checks.ensures.nothing)

pub returns-in_err-add_modules-clause-refused : goal.returns-in_err-add_modules-clause-refused
returns-in_err-add_modules-clause-refused c =
    refuses _ c.from_residual-in_err-add_modules.result c.in_err-add_modules.field-0.0
    (err_from_is_err_and c.from_residual-in_err-add_modules.result c.from_residual-in_err-add_modules.ensures.1) (λ top are e library.
    checks-refused c.args.definitions.now c.args.corner top c.args.instances.now c.args.tick.power c.in_err-add_modules.field-0.0 are e c.in_err-add_modules.ensures.refused)

pub returns-clause-checks : goal.returns-clause-checks
returns-clause-checks c = λ top are e library.
    let begun : AreReadySoFar c.args.definitions.now c.args.corner c.args.tick.power c.deref_mut.result.now c.add_modules.new.conditions.items =
    ready-none c.args.definitions.now c.args.corner c.args.tick.power c.deref_mut.result.now c.add_modules.new.conditions.items (c.deref_mut.ensures.value ∙ c.in_ok-checks.ensures.nothing) in
    let long = c.in_ok-add_modules.ensures.ready.counted ∙ sym begun.counted ∙ ap length c.deref_mut.ensures.value ∙ sym c.in_ok-checks.checks.ok.0 in
    have-checks c.args.definitions.now c.args.corner top c.args.instances.now c.args.tick.power _ c.add_modules.new.checks c.add_modules.new.conditions.items
    (with_items_is c.in_ok-checks.checks c.add_modules.new.checks long) (c.in_ok-add_modules.ensures.read c.requires.spelled) are e
    (record { once = c.in_ok-checks.ensures.once; ready = c.in_ok-add_modules.ensures.ready; there = c.in_ok-add_modules.ensures.there })
