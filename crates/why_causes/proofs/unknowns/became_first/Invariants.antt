-- The earliest of the inputs so far that are x.
use Rattle.std.proofs.Common.{◌≡◌, ◌+◌, ℕ, None}
use Rattle.std.specs.Prelude.{cond}
use Rattle.why_causes.specs.Candidates.{last_of}
use Rattle.why_causes.specs.Unknowns.{is_unknown_among}
use Rattle.why_causes.proofs.LatestLaws.{earliest_to}
use Rattle.why_causes.proofs.unknowns.became_first.Given as goal

abbrev pub invariant-loop-input : goal.invariant-loop-input
invariant-loop-input l = l.best ≡ earliest_to (λ (i : ℕ × ℕ). cond (is_unknown_among l.nets l.trace l.time i.1) (last_of l.trace (l.time + 1) i) None) l.inputs l.input
