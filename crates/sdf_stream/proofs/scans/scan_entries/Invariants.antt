-- The entries so far were read and told.
use Rattle.std.proofs.Common.{length, true}
use Rattle.sdf_tree.specs.Entries.{entry}
use Rattle.sdf_stream.specs.Scans.{AreScanned, entry_contents}
use Rattle.sdf_stream.specs.Told.{told}
use Rattle.sdf_stream.proofs.scans.scan_entries.Given as goal

abbrev pub invariant-more : goal.invariant-more
invariant-more g l = record {
  within : g.V.Visit.within l.visitor l.cell;
  scanned : AreScanned (entry true l.divider) (entry_contents l.increment) (λ es. g.V.Visit.came l.fn.visitor l.visitor (told l.cell es)) l.fn.window l.window;
}

abbrev pub decreases-more : goal.decreases-more
decreases-more g l = length l.window.rest.now
