-- Nothing was changed, and no call failed.
use Rattle.std.proofs.Common.{◌≡◌}
use Rattle.fit_top.proofs.including.find_in.Given as goal

abbrev pub invariant-loop-folder : goal.invariant-loop-folder
invariant-loop-folder g l =
    let s = g.S.Shelf in
    record {
      held : s.files l.shelf ≡ s.files l.fn.shelf;
      faults : s.fault_count l.shelf ≡ s.fault_count l.fn.shelf;
    }
