-- The texts stay.
use Rattle.std.proofs.Common.{◌≡◌}
use Rattle.fit_changes.specs.Rounds.{read}
use Rattle.fit_netlist.proofs.rounds.leave_all.Given as goal

abbrev pub invariant-loop-why : goal.invariant-loop-why
invariant-loop-why l = read l.list ≡ read l.initial.list
