-- The checks of a module, or a fault of it.
use Rattle.std.proofs.lemmas.Result.{err_from_is_err_and}
use Rattle.specify_model.specs.CheckFaults.{timing_check_faults}
use Rattle.elab_paths.proofs.InTurn.{exit}
use Rattle.elab_checks.proofs.OwnChecks.{checks-made, own-readable, own-refused, own-faultless}
use Rattle.elab_checks.proofs.modules.checks_of.Goals as goal

pub module_checks-requires : goal.module_checks-requires
module_checks-requires c = record { readable = own-readable c.args.corner c.args.tick.power c.requires.is.0 c.args.prepared.now c.requires.is.1 c.requires.is.2 }

pub returns-in_err-checks-clause-told : goal.returns-in_err-checks-clause-told
returns-in_err-checks-clause-told c = λ m p.
    exit c.from_residual.result (timing_check_faults c.args.corner c.args.tick.power m) c.in_err-checks.field-0.0 (err_from_is_err_and c.from_residual.result c.from_residual.ensures.1)
    (own-refused c.args.corner c.args.tick.power m c.args.prepared.now p c.in_err-checks.field-0.0 c.in_err-checks.ensures.told)

pub returns-clause-checks : goal.returns-clause-checks
returns-clause-checks c = λ m p.
    checks-made c.args.corner c.args.tick.power m c.args.prepared.now p c.in_ok-checks.checks.items c.shelve.new.conditions.items c.in_ok-shelve.field-0.items c.in_ok-checks.ensures.checks
    c.in_ok-shelve.ensures.checks c.in_ok-checks.ensures.fits c.in_ok-shelve.ensures.named

pub returns-clause-told : goal.returns-clause-told
returns-clause-told c = λ m p. own-faultless c.args.corner c.args.tick.power m c.args.prepared.now p c.in_ok-checks.ensures.told
