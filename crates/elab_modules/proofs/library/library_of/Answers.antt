-- All stands ready, or a fault of what is reached is refused.
use Rattle.std.proofs.Common.{sym, subst}
use Rattle.std.proofs.lemmas.Result.{err_from_is_err_and}
use Rattle.elab_hierarchy.proofs.Whole.{refuses}
use Rattle.elab_modules.specs.Ready.{AreReady}
use Rattle.elab_modules.specs.Reaching.{HasMet}
use Rattle.elab_modules.specs.Checking.{AreNamed, AreInTicks}
use Rattle.elab_modules.proofs.Meeting.{places_of}
use Rattle.elab_modules.proofs.Named.{all-named, all-in_ticks, places-within}
use Rattle.elab_modules.proofs.Whole.{met-told, part-told, library-made}
use Rattle.elab_modules.proofs.library.library_of.Goals as goal

pub reached-requires-clause-within : goal.reached-requires-clause-within
reached-requires-clause-within c = places-within c.args.definitions.now c.args.instances.now _ c.requires.below.1

pub returns-in_err-parts-clause-refused : goal.returns-in_err-parts-clause-refused
returns-in_err-parts-clause-refused c =
    refuses _ c.from_residual.result c.in_err-parts.field-0.0 (err_from_is_err_and c.from_residual.result c.from_residual.ensures.1)
    (λ top are e. met-told c.args.definitions.now c.args.corner top c.args.instances.now c.in_err-parts.field-0.0 are c.in_err-parts.ensures.refused)

pub check_modules-requires-clause-ready : goal.check_modules-requires-clause-ready
check_modules-requires-clause-ready c = subst (AreReady c.args.definitions.now) (sym c.deref.ensures.value) c.in_ok-parts.ensures.met.stock.ready

pub check_modules-requires-clause-named : goal.check_modules-requires-clause-named
check_modules-requires-clause-named c =
    subst (AreNamed c.args.definitions.now) (sym c.deref.ensures.value)
    (all-named c.args.definitions.now c.requires.below.0 c.args.instances.now c.in_ok-parts.parts.items c.reached.new.udps.items
    (record { once = c.in_ok-parts.ensures.once; are = c.requires.below.1; deep = c.requires.below.3; met = c.in_ok-parts.ensures.met }))

pub check_modules-requires-clause-precision : goal.check_modules-requires-clause-precision
check_modules-requires-clause-precision c =
    subst (AreInTicks c.args.tick.power) (sym c.deref.ensures.value)
    (all-in_ticks c.args.definitions.now c.requires.below.0 c.args.instances.now c.in_ok-parts.parts.items c.reached.new.udps.items c.args.tick.power c.requires.below.1 c.in_ok-parts.ensures.met
    c.requires.below.2)

pub returns-in_err-delays-clause-refused : goal.returns-in_err-delays-clause-refused
returns-in_err-delays-clause-refused c =
    refuses _ c.from_residual-in_err-delays.result c.in_err-delays.field-0.0 (err_from_is_err_and c.from_residual-in_err-delays.result c.from_residual-in_err-delays.ensures.1)
    (λ top are e.
    part-told c.args.definitions.now c.args.corner top c.args.instances.now c.deref.result.now c.reached.new.udps.items c.args.tick.power c.in_err-delays.field-0.0 are
    (subst (λ ps. HasMet c.args.definitions.now ps c.reached.new.udps.items (places_of c.args.instances.now)) (sym c.deref.ensures.value) c.in_ok-parts.ensures.met) e c.in_err-delays.ensures.refused)

pub returns-clause-library : goal.returns-clause-library
returns-clause-library c = λ top are e.
    library-made c.args.definitions.now c.args.corner top c.requires.below.0 c.args.instances.now _ c.deref.result.now c.args.tick.power c.in_ok-parts.ensures.once are e c.requires.below.1
    c.requires.below.3 c.deref.ensures.value
    (subst (λ ps. HasMet c.args.definitions.now ps c.reached.new.udps.items (places_of c.args.instances.now)) (sym c.deref.ensures.value) c.in_ok-parts.ensures.met) c.in_ok-delays.ensures.checked
