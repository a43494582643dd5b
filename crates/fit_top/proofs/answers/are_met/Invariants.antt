use Rattle.std.proofs.Common.{◌≡◌, ℕ, Bool, List, drop, map, string_bytes}
use Rattle.std.specs.Prelude.{Some}
use Rattle.std.specs.List.{list_any}
use Rattle.fit_top.proofs.answers.are_met.Given as goal

abbrev pub invariant-loop-name : goal.invariant-loop-name
invariant-loop-name g l = (is_one : List ℕ → List ℕ → Bool) → g.F.Folders.meeting l.folders ≡ Some is_one
    → list_any (λ m. list_any (is_one m) (map (λ n. n.now) l.inputs)) (map string_bytes (drop l.name-index l.made)) ≡ list_any (λ m. list_any (is_one m) (map (λ n. n.now) l.inputs)) (map string_bytes l.made)
