-- Violations in order, and their groups: those of one instance and one check.
use Rattle.std.specs.Prelude.{ℕ, ◌&&◌, Bool, List, [], ◌∷◌, bytes_eq, if◌then◌else◌}
use Rattle.std.specs.Cmp.Lexicographic.{slice_cmp}
use Rattle.std.specs.List.Sorted.{IsSortedBy, IsStableBy, IsPermutation}
use Rattle.std.specs.Ordering.{is_lt, nat_cmp, ordering_then}
use Rattle.tally_violations.specs.declared.violations.Violation.{Violation}

-- by the instance's name, and then by the check's word
abbrev pub is_before : Violation → Violation → Bool
is_before v w = is_lt (ordering_then (slice_cmp nat_cmp v.instance.now w.instance.now) (slice_cmp nat_cmp v.check.now w.check.now))

-- the same violations, by instance and check; those of one instance and one check stand as before, and nothing stands between them
pub record IsInOrder (old new : List Violation) : Type 0 where
  pub permutation : IsPermutation old new
  pub sorted : IsSortedBy is_before new
  pub stable : IsStableBy is_before old new

abbrev pub is_same : Violation → Violation → Bool
is_same v w = bytes_eq v.instance.now w.instance.now && bytes_eq v.check.now w.check.now

-- a violation joins the group of the one behind it, where they are of one
abbrev pub joined : Violation → List (List Violation) → List (List Violation)
joined v [] = (v ∷ []) ∷ []
joined v ([] ∷ gs) = (v ∷ []) ∷ gs
joined v ((w ∷ ws) ∷ gs) = if is_same v w then (v ∷ w ∷ ws) ∷ gs else (v ∷ []) ∷ (w ∷ ws) ∷ gs

-- cut where instance or check changes
abbrev pub groups : List Violation → List (List Violation)
groups [] = []
groups (v ∷ vs) = joined v (groups vs)
