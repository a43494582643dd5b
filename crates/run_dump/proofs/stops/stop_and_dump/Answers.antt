use Rattle.std.proofs.lemmas.Result.{err_from_is_err_and}
use Rattle.sg_stimulus.specs.Seen.{stimulus_seen}
use Rattle.sim_rounds.specs.Moments.{run_up_to}
use Rattle.run_dump.proofs.FileLaws.{leaves_head, leaves_less}
use Rattle.run_dump.proofs.RunLaws.{starts}
use Rattle.run_dump.proofs.StopLaws.{begun_parts, dump_stopped, stop_reached, stop_violations}
use Rattle.run_dump.proofs.stops.stop_and_dump.Goals as goal

pub returns-in_err-writer-clause-file : goal.returns-in_err-writer-clause-file
returns-in_err-writer-clause-file g c =
    rw (err_from_is_err_and c.from_residual.result c.from_residual.ensures.1).1
    (leaves_less _ _ _ _ _ _ (begun_parts c.args.circuit.now (run_up_to c.args.circuit.now c.args.bound (stimulus_seen c.args.stimulus.now) c.args.until)) c.in_err-writer.ensures.file)

pub simulate_until-requires-clause-none_told : goal.simulate_until-requires-clause-none_told
simulate_until-requires-clause-none_told g c = starts g.S.Shelf.files c.args.name.now c.args.circuit.now c.in_ok-writer.writer (g.S.Shelf.files c.args.shelf.now) c.new.new.shelf c.in_ok-writer.ensures.writer c.in_ok-writer.ensures.file

pub returns-in_err-run-clause-file : goal.returns-in_err-run-clause-file
returns-in_err-run-clause-file g c =
    rw (err_from_is_err_and c.from_residual-in_err-run.result c.from_residual-in_err-run.ensures.1).1
    (leaves_head g.S.Shelf.files c.args.name.now _ _ _ _ c.new.new.shelf c.simulate_until.new.shelf (begun_parts c.args.circuit.now (run_up_to c.args.circuit.now c.args.bound (stimulus_seen c.args.stimulus.now) c.args.until))
    c.in_ok-writer.ensures.file c.in_err-run.ensures.stopped.1)

pub returns-clause-reached : goal.returns-clause-reached
returns-clause-reached g c = rw c.reached_by.ensures (stop_reached _ _ _ _ _ _ c.args.circuit.now (stimulus_seen c.args.stimulus.now) c.args.bound c.args.until _ c.in_ok-run.run' c.in_ok-run.ensures.stopped.1)

pub returns-clause-violations : goal.returns-clause-violations
returns-clause-violations g c = rw c.reached_by.ensures (stop_violations _ _ _ _ _ _ c.args.circuit.now (stimulus_seen c.args.stimulus.now) c.args.bound c.args.until _ c.in_ok-run.run' c.in_ok-run.ensures.stopped.1)

pub returns-clause-file : goal.returns-clause-file
returns-clause-file g c =
    rw c.reached_by.ensures
    (dump_stopped g.S.Shelf.files c.args.name.now c.args.circuit.now c.in_ok-writer.writer (g.S.Shelf.files c.args.shelf.now) c.new.new.shelf c.in_ok-writer.ensures.writer c.in_ok-writer.ensures.file (stimulus_seen c.args.stimulus.now) c.args.bound c.args.until
    c.in_ok-run.ensures.stopped.0 c.simulate_until.new.watcher c.simulate_until.new.shelf c.in_ok-run.run' c.simulate_until.ensures.name c.simulate_until.ensures.circuit c.in_ok-run.ensures.keeps c.in_ok-run.ensures.stopped.1)
