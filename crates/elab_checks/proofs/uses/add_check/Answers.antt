-- One check more, or too many.
use Rattle.std.proofs.Common.{◌≡◌, ◌+◌, arith, length, refl, sym, subst}
use Rattle.std.proofs.lemmas.Result.{err_from_is_err_and}
use Rattle.sg_circuit.specs.ChecksSeen.{AreWritten}
use Rattle.elab_numbering.specs.Refusals.{RefusesCount}
use Rattle.elab_paths.proofs.Putting.{exit-by}
use Rattle.elab_checks.proofs.MadeChecks.{check-spelled, check-written}
use Rattle.elab_checks.proofs.uses.add_check.Goals as goal

pub check_of-requires-clause-ready : goal.check_of-requires-clause-ready
check_of-requires-clause-ready c = (length c.args.conditions.now, (length c.args.here.lates.now, c.requires.usable.ready))

pub returns-in_err-check_count-clause-refused : goal.returns-in_err-check_count-clause-refused
returns-in_err-check_count-clause-refused c =
    exit-by _ c.from_residual.result c.in_err-check_count.field-0.0 (err_from_is_err_and c.from_residual.result c.from_residual.ensures.1)
    (λ more. subst (λ n. RefusesCount (n + 1 + more) c.in_err-check_count.field-0.0) (let e : c.len.result ≡ length c.args.made.now.checks.items = omega (arith, c.len.ensures, c.args.made.now.checks.ok.0) in e)
    (c.in_err-check_count.ensures.refused more))

pub returns-clause-added : goal.returns-clause-added
returns-clause-added c = record {
  check = c.in_ok-own.own;
  timing = c.in_ok-timing.timing;
  spelled = record { refer = c.args.check.now.refer.condition; datum = c.condition_in.result };
  checks_are = c.in_ok-push.ensures.items;
  timings_are = c.in_ok-push-2.ensures.items;
  spelled_are = c.in_ok-push-3.ensures.items;
  check_is = λ net late cs r. c.in_ok-own.ensures net late cs c.args.conditions.now r;
  timing_is = c.in_ok-timing.ensures;
  spelled_is = λ net late cs.
      check-spelled c.args.here.table.now c.args.here.row.now net late cs c.args.conditions.now c.args.here.scope c.args.check.now _ (length c.args.here.lates.now) c.requires.usable.ready refl
      c.condition_in.ensures;
  below = subst (λ d. AreWritten (length c.args.conditions.now) (record { refer = c.args.check.now.refer.condition; datum = d })) (sym c.condition_in.ensures)
      (check-written c.args.here.table.now (length c.args.conditions.now) (length c.args.here.lates.now) c.args.check.now c.requires.usable.ready);
}
