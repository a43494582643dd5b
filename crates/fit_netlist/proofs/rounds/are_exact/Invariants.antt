-- The files so far are exact.
use Rattle.std.specs.Prelude.{take}
use Rattle.fit_netlist.specs.Exact.{AreExact}
use Rattle.fit_netlist.proofs.rounds.are_exact.Given as goal

abbrev pub invariant-loop-changes : goal.invariant-loop-changes
invariant-loop-changes l = AreExact (take l.changes-index l.list)
