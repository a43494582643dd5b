use Rattle.std.proofs.Common.{[], refl}
use Rattle.std.specs.Prelude.{map}
use Rattle.std.proofs.lemmas.Result.{err_from_is_err_and}
use Rattle.sg_stimulus.specs.Seen.{stimulus_seen}
use Rattle.sim_times.specs.Watching.{end_call}
use Rattle.sim_rounds.specs.MomentsSeen.{moment_seen}
use Rattle.time_checks.specs.Seen.{violation_seen}
use Rattle.run_dump.proofs.FileLaws.{leaves_head}
use Rattle.run_dump.proofs.RestLaws.{rest_left}
use Rattle.run_dump.proofs.RunLaws.{end_spent, end_violations}
use Rattle.run_dump.proofs.stops.resume_and_dump.Goals as goal

pub returns-in_err-finished-clause-file : goal.returns-in_err-finished-clause-file
returns-in_err-finished-clause-file g c =
    rw (err_from_is_err_and c.from_residual-in_err-finished.result c.from_residual-in_err-finished.ensures.1).1
    (leaves_head g.S.Shelf.files c.args.name.now [] _ _ _ c.new.new.shelf c.simulate_rest.new.shelf refl c.in_ok-writer.ensures.file c.in_err-finished.ensures.ended.1)

pub returns-clause-spent : goal.returns-clause-spent
returns-clause-spent g c = rw c.end_of.ensures (end_spent _ _ _ _ _ _ _ _ c.in_ok-finished.finished.tally.violations _ _ _ c.in_ok-finished.ensures.ended.1)

pub returns-clause-violations : goal.returns-clause-violations
returns-clause-violations g c = rw c.end_of.ensures (end_violations _ _ _ _ _ _ _ _ c.in_ok-finished.finished.tally.violations _ _ _ c.in_ok-finished.ensures.ended.1)

pub returns-clause-file : goal.returns-clause-file
returns-clause-file g c =
    let finished = c.in_ok-finished.finished in
    rw c.end_of.ensures
    (rest_left g.S.Shelf.files c.args.name.now c.args.circuit.now (stimulus_seen c.args.stimulus.now) c.args.bound (moment_seen c.args.moment.now) c.requires.before c.in_ok-writer.writer c.simulate_rest.new.watcher (g.S.Shelf.files c.args.shelf.now) c.new.new.shelf
    c.simulate_rest.new.shelf finished.tally.violations (map (λ v. violation_seen v) finished.tally.violations.items) finished.tally.last c.in_ok-finished.ensures.ended.0 finished.end c.in_ok-writer.ensures.writer c.in_ok-writer.ensures.file
    (c.in_ok-writer.ensures.stands (end_call c.args.moment.now.time c.args.moment.now.nets.items) refl) c.simulate_rest.ensures.name c.simulate_rest.ensures.circuit c.in_ok-finished.ensures.keeps c.in_ok-finished.ensures.ended.1)
