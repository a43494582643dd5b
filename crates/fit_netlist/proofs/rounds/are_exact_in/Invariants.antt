-- The changes so far are exact.
use Rattle.std.specs.Prelude.{All, map, take}
use Rattle.fit_changes.specs.Changes.{change_seen}
use Rattle.fit_netlist.specs.Exact.{IsExact}
use Rattle.fit_netlist.proofs.rounds.are_exact_in.Given as goal

abbrev pub invariant-loop-change : goal.invariant-loop-change
invariant-loop-change l = All (IsExact l.text) (map change_seen (take l.change-index l.changes))
