-- A circuit that is open for annotation, and what a call changes in it.
use Rattle.std.specs.Prelude.{◌≡◌, ℕ, zero, suc, ℤ, ◌+◌, ◌*◌, ◌<◌, ◌^◌, unsigned_abs, true, List, [], ◌∷◌, length, slice_index_or, slice_set}
use Rattle.sg_circuit.specs.declared.checks.Check.{Check}
use Rattle.sg_circuit.specs.declared.checks.CheckTiming.{CheckTiming}
use Rattle.sg_circuit.specs.declared.checks.Zero.{Zero}
use Rattle.sg_circuit.specs.declared.elements.ElementKind.{ElementKind}
use Rattle.sg_circuit.specs.declared.elements.ElementKind.TheVariants as kind
use Rattle.sg_circuit.specs.Timings.{Timing}
use Rattle.sg_circuit.specs.Circuit.{Circuit, Element, Kind, Leg, Path}
use Rattle.sg_circuit.specs.Signals.{signals, takes_lates}

-- a circuit, with room for so many timings more
pub record Open : Type 0 where
  pub circuit : Circuit
  pub room : ℕ

-- a list in which the item at a place is changed
abbrev pub changed_at : {A : Type 0} → (A → A) → ℕ → List A → List A
changed_at change place [] = []
changed_at change zero (x ∷ xs) = change x ∷ xs
changed_at change (suc place) (x ∷ xs) = x ∷ changed_at change place xs

-- an element's kind is changed
abbrev pub with_kind : (Kind → Kind) → ℕ → Circuit → Circuit
with_kind change e c = record c { elements = changed_at (λ (x : Element). record x { kind = change x.kind }) e c.elements }

-- the timings of a leg (IEEE 1497-2001, interconnect delays)
abbrev pub with_leg : List Timing → Kind → Kind
with_leg timings (Leg before) = Leg timings
with_leg timings kind = kind

-- the timings of a path to an output (IEEE 1364-2005, 14.2)
abbrev pub with_path : ℕ → List Timing → Kind → Kind
with_path place timings (Path paths style) = Path (changed_at (λ p. record p { timings = timings }) place paths) style
with_path place timings kind = kind

abbrev pub IsLeg : Kind → Type 0
IsLeg (Leg timings) = Unit {0}
IsLeg _ = ⊥

-- specify paths lead to the element's output, and one of them stands at a place
abbrev pub HasPath : ℕ → Kind → Type 0
HasPath place (Path paths style) = place < length paths
HasPath place _ = ⊥

-- the same of the code's kinds: the path stands in the span, and there in the table
abbrev pub HasPathIn : ℕ → ElementKind → Type 0
HasPathIn place (kind.Path paths style) = place + paths.start < paths.end
HasPathIn place _ = ⊥

abbrev pub place_in : ElementKind → ℕ → ℕ
place_in (kind.Path paths style) place = paths.start + place
place_in _ place = 0

-- a limit of a timing check, by its place in the check's text (IEEE 1364-2005, 15.2, 15.3)
abbrev pub with_limit : ℕ → ℤ → CheckTiming → CheckTiming
with_limit part value t = record t { limits = slice_set t.limits part value }

abbrev pub with_check_limit : ℕ → ℕ → ℤ → Circuit → Circuit
with_check_limit check part value c = record c { check_timings = changed_at (with_limit part value) check c.check_timings }

-- where the check may have limits below 0, such limits of its scope add up to less than 2^60 ticks from signal to signal (IEEE 1364-2005, 15.8)
abbrev pub IsLight : Circuit → (check : ℕ) → ℤ → Type 0
IsLight c check value = (t : CheckTiming) (k : Check) → takes_lates (slice_index_or c.check_timings check t).kind ≡ true
    → unsigned_abs value * (length (signals c.checks c.check_timings (slice_index_or c.checks check k).scope) + 1) < 2 ^ 60

-- the limits of timing checks that are taken as 0 (IEEE 1364-2005, 15.8)
abbrev pub with_zeroed : List Zero → Circuit → Circuit
with_zeroed zeroed c = record c { zeroed = zeroed }
