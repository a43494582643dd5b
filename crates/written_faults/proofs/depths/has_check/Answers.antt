use Rattle.sg_circuit.specs.Seen.{circuit_seen}
use Rattle.annotation_model.specs.Finding.{check_at}
use Rattle.written_faults.proofs.DepthLaws.{check_is}
use Rattle.written_faults.proofs.ScopeLaws.{timing_there, written_there, written_within}
use Rattle.written_faults.proofs.depths.has_check.Goals as goal

pub returns : goal.returns
returns c =
    let parts = c.args.parts.now in
    check_is parts.conditions.items c.args.deep.now c.requires.deep (check_at (circuit_seen parts) c.args.number) c.index.result.now c.index-2.result.now c.has_event.result c.is_some-has_datum.result
    (written_within parts c.requires.closed c.requires.indexed c.args.number c.index-2.result.now c.requires.number c.index-2.ensures)
    (timing_there (circuit_seen parts) c.requires.closed c.args.number c.index.result.now c.requires.number c.index.ensures)
    (written_there parts c.requires.closed c.args.number c.index-2.result.now c.requires.number c.index-2.ensures) c.is_some-has_datum.ensures c.has_event.ensures
