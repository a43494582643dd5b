use Rattle.std.proofs.Common.{◌≡◌, drop, max}
use Rattle.settle_report.specs.Texts.{greatest}
use Rattle.settle_report.proofs.bounds.greatest.Given as goal

-- the greatest so far and that of the others
abbrev pub invariant-loop-bound : goal.invariant-loop-bound
invariant-loop-bound l = max l.most (greatest (drop l.bound-index l.bounds)) ≡ greatest l.bounds
