-- The texts so far.
use Rattle.std.proofs.Common.{◌≡◌, map, take}
use Rattle.fit_changes.specs.Rounds.{written}
use Rattle.fit_top.proofs.texts.written_texts.Given as goal

abbrev pub invariant-loop-changes : goal.invariant-loop-changes
invariant-loop-changes l = map (λ t. t.items) l.made.items ≡ written (take l.changes-index l.list)
