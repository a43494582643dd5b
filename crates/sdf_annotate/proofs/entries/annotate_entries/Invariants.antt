-- The entries so far were applied, and noted where they are for nothing.
use Rattle.std.proofs.Common.{map, take}
use Rattle.sdf_meaning.specs.MeantSeen.{view_sdf}
use Rattle.annotation_finder.specs.Finding.{given_seen}
use Rattle.sdf_annotate.specs.Progress.{CameTo}
use Rattle.sdf_annotate.specs.Search.{IsReadyFor}
use Rattle.sdf_annotate.specs.Seen.{circuit_of}
use Rattle.sdf_annotate.proofs.entries.annotate_entries.Given as goal

abbrev pub invariant-loop-entry : goal.invariant-loop-entry
invariant-loop-entry l = record {
  ready : IsReadyFor l.task l.cell l.search;
  came : CameTo (circuit_of l.task) (view_sdf l.task.sdf.now) l.task.corner (map (λ e. given_seen l.cell e) (take l.entry-index l.entries)) l.fn.values l.values;
}
