-- The texts so far.
use Rattle.std.proofs.Common.{◌≡◌, take}
use Rattle.vl_lex.specs.Seen.{texts}
use Rattle.fit_changes.specs.Rounds.{written}
use Rattle.fit_netlist.proofs.changing.write_all.Given as goal

abbrev pub invariant-loop-changes : goal.invariant-loop-changes
invariant-loop-changes l = texts l.made.items ≡ written (take l.changes-index l.list)
