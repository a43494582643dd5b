-- The files that were found were sought; nothing was changed, and no call failed.
use Rattle.std.proofs.Common.{◌≡◌}
use Rattle.fit_words.specs.WordsSeen.{asked_seen}
use Rattle.fit_top.specs.Including.{AreSought}
use Rattle.fit_top.proofs.including.fit.Given as goal

abbrev pub invariant-loop : goal.invariant-loop
invariant-loop g l =
    let s = g.S.Shelf in
    record {
      sought : AreSought (asked_seen l.asked) l.included.items;
      held : s.files l.shelf ≡ s.files l.fn.shelf;
      faults : s.fault_count l.shelf ≡ s.fault_count l.fn.shelf;
    }
