-- The timing checks so far were read and told.
use Rattle.std.proofs.Common.{length}
use Rattle.sdf_tree.specs.Checks.{check}
use Rattle.sdf_stream.specs.Scans.{AreScanned, check_contents}
use Rattle.sdf_stream.specs.Told.{told}
use Rattle.sdf_stream.proofs.scans.scan_checks.Given as goal

abbrev pub invariant-more : goal.invariant-more
invariant-more g l = record {
  within : g.V.Visit.within l.visitor l.cell;
  scanned : AreScanned (check l.divider) check_contents (λ es. g.V.Visit.came l.fn.visitor l.visitor (told l.cell es)) l.fn.window l.window;
}

abbrev pub decreases-more : goal.decreases-more
decreases-more g l = length l.window.rest.now
