use Rattle.std.proofs.Common.{◌≡◌, ℕ, Bool, List, drop, map}
use Rattle.std.specs.Prelude.{Some}
use Rattle.std.specs.List.{list_any}
use Rattle.fit_top.proofs.answers.is_met.Given as goal

abbrev pub invariant-loop-input : goal.invariant-loop-input
invariant-loop-input g l = (is_one : List ℕ → List ℕ → Bool) → g.F.Folders.meeting l.folders ≡ Some is_one
    → list_any (is_one l.made) (map (λ n. n.now) (drop l.input-index l.inputs)) ≡ list_any (is_one l.made) (map (λ n. n.now) l.inputs)
