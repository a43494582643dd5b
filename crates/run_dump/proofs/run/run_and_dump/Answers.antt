use Rattle.std.proofs.lemmas.Result.{err_from_is_err_and}
use Rattle.std.specs.Prelude.{map}
use Rattle.sg_stimulus.specs.Seen.{stimulus_seen}
use Rattle.sim_rounds.specs.Setting.{setting_of}
use Rattle.time_checks.specs.Seen.{violation_seen}
use Rattle.run_dump.proofs.FileLaws.{leaves_head, leaves_less}
use Rattle.run_dump.proofs.RunLaws.{dump_left, end_spent, end_violations, starts, text_parts}
use Rattle.run_dump.proofs.run.run_and_dump.Goals as goal

pub returns-in_err-writer-clause-file : goal.returns-in_err-writer-clause-file
returns-in_err-writer-clause-file g c =
    rw (err_from_is_err_and c.from_residual.result c.from_residual.ensures.1).1
    (leaves_less _ _ _ _ _ _ (text_parts c.args.circuit.now (setting_of c.args.circuit.now (stimulus_seen c.args.stimulus.now) c.args.bound)) c.in_err-writer.ensures.file)

pub simulate-requires-clause-none_told : goal.simulate-requires-clause-none_told
simulate-requires-clause-none_told g c = starts g.S.Shelf.files c.args.name.now c.args.circuit.now c.in_ok-writer.writer (g.S.Shelf.files c.args.shelf.now) c.new.new.shelf c.in_ok-writer.ensures.writer c.in_ok-writer.ensures.file

pub returns-in_err-finished-clause-file : goal.returns-in_err-finished-clause-file
returns-in_err-finished-clause-file g c =
    rw (err_from_is_err_and c.from_residual-in_err-finished.result c.from_residual-in_err-finished.ensures.1).1
    (leaves_head g.S.Shelf.files c.args.name.now _ _ _ _ c.new.new.shelf c.simulate.new.shelf (text_parts c.args.circuit.now (setting_of c.args.circuit.now (stimulus_seen c.args.stimulus.now) c.args.bound))
    c.in_ok-writer.ensures.file c.in_err-finished.ensures.ended.1)

pub returns-clause-spent : goal.returns-clause-spent
returns-clause-spent g c = rw c.end_of.ensures (end_spent _ _ _ _ _ _ _ _ c.in_ok-finished.finished.tally.violations _ _ _ c.in_ok-finished.ensures.ended.1)

pub returns-clause-violations : goal.returns-clause-violations
returns-clause-violations g c = rw c.end_of.ensures (end_violations _ _ _ _ _ _ _ _ c.in_ok-finished.finished.tally.violations _ _ _ c.in_ok-finished.ensures.ended.1)

pub returns-clause-file : goal.returns-clause-file
returns-clause-file g c =
    rw c.end_of.ensures
    (dump_left g.S.Shelf.files c.args.name.now c.args.circuit.now c.in_ok-writer.writer (g.S.Shelf.files c.args.shelf.now) c.new.new.shelf c.in_ok-writer.ensures.writer c.in_ok-writer.ensures.file
    (setting_of c.args.circuit.now (stimulus_seen c.args.stimulus.now) c.args.bound) c.simulate.new.watcher c.simulate.new.shelf c.in_ok-finished.finished.tally.violations (map (λ v. violation_seen v) c.in_ok-finished.finished.tally.violations.items)
    c.in_ok-finished.finished.tally.last c.in_ok-finished.ensures.ended.0 c.in_ok-finished.finished.end c.simulate.ensures.name c.simulate.ensures.circuit c.in_ok-finished.ensures.keeps c.in_ok-finished.ensures.ended.1)
