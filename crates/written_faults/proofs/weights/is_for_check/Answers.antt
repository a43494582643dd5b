use Rattle.std.proofs.Common.{◌∙◌, ap, sym, refl}
use Rattle.sg_circuit.specs.Seen.{circuit_seen}
use Rattle.sg_circuit.specs.declared.checks.CheckTiming.{CheckTiming}
use Rattle.annotation_model.specs.Finding.{check_at}
use Rattle.written_model.specs.Faults.{is_part_of}
use Rattle.written_faults.proofs.AnyLaws.{both_true, one_false}
use Rattle.written_faults.proofs.ScopeLaws.{timing_there, written_there, written_within}
use Rattle.written_faults.proofs.WeightLaws.{for_is}
use Rattle.written_faults.proofs.weights.is_for_check.Goals as goal

pub returns-then-is_part_of : goal.returns-then-is_part_of
returns-then-is_part_of c =
    let parts = c.args.parts.now in
    let closed = c.requires.closed in
    let wanted = c.index-then-is_part_of in
    let written = c.index-then-is_part_of-2 in
    both_true c.is_part_of.result c.fits_events.result _ _ _
    (for_is parts.conditions.items c.args.classes.now c.requires.classes (check_at (circuit_seen parts) c.args.check) (check_at (circuit_seen parts) c.args.window) c.args.part c.index.result.now c.index-other.result.now wanted.result.now written.result.now
    (written_within parts closed c.requires.indexed c.args.check wanted.result.now c.requires.check wanted.ensures)
    (written_within parts closed c.requires.indexed c.args.window written.result.now c.requires.window written.ensures)
    (timing_there (circuit_seen parts) closed c.args.check c.index.result.now c.requires.check c.index.ensures)
    (written_there parts closed c.args.check wanted.result.now c.requires.check wanted.ensures)
    (timing_there (circuit_seen parts) closed c.args.window c.index-other.result.now c.requires.window c.index-other.ensures)
    (written_there parts closed c.args.window written.result.now c.requires.window written.ensures))
    c.is_part_of.ensures c.if-is_part_of.true c.fits_events.ensures

pub returns-else-is_part_of : goal.returns-else-is_part_of
returns-else-is_part_of c =
    let parts = c.args.parts.now in
    one_false c.is_part_of.result _ _ _ refl
    (c.is_part_of.ensures ∙ ap (λ (t : CheckTiming). is_part_of c.args.part t.kind) (sym (timing_there (circuit_seen parts) c.requires.closed c.args.window c.index-other.result.now c.requires.window c.index-other.ensures)))
    c.if-is_part_of.false
