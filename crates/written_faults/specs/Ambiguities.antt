-- Words of contracts: keys and values of the entries of elements and timing checks.
use Rattle.std.specs.Prelude.{◌≡◌, ℕ, ℤ, List, [], ◌∷◌, map, flat_map, slice_get, Option, Some, None}
use Rattle.std.specs.Borrow.{Bor}
use Rattle.std.specs.Option.{option_map}
use Rattle.indexmap.specs.IndexMap.{IndexMap, get_by}
use Rattle.sg_circuit.specs.declared.checks.CheckConditions.{CheckConditions}
use Rattle.sg_circuit.specs.declared.checks.CheckTiming.{CheckTiming}
use Rattle.sg_circuit.specs.declared.circuits.Parts.{Parts}
use Rattle.sg_circuit.specs.declared.elements.Element as code_element
use Rattle.sg_circuit.specs.declared.elements.ElementKind.{ElementKind}
use Rattle.sg_circuit.specs.declared.elements.ElementKind.TheVariants as kind
use Rattle.sg_circuit.specs.declared.elements.LegTiming.{LegTiming}
use Rattle.sg_circuit.specs.declared.paths.Path as code_path
use Rattle.sg_circuit.specs.PathsSeen.{spanned}
use Rattle.sg_circuit.specs.Timings.{limits_or}
use Rattle.sg_circuit.specs.TimingsSeen.{leg_timing_seen, timings_at}
use Rattle.written_model.specs.declared.parts.Part.{Part}
use Rattle.written_model.specs.Entries.{Numbers, numbers_of, parts_of}
use Rattle.written_faults.specs.Keys.{PathCode, PartCode, path_code, path_eq, part_code, part_eq, event_codes}

-- ---- paths

-- a delay and limits are the same numbers as others
pub record IsSame (delay : ℕ) (limits : Option (ℕ × ℕ)) (other : ℕ) (others : Option (ℕ × ℕ)) : Type 0 where
  pub delays : delay ≡ other
  pub rejects : (limits_or delay limits).0 ≡ (limits_or other others).0
  pub errors : (limits_or delay limits).1 ≡ (limits_or other others).1

abbrev pub numbers_at : List LegTiming → ℕ → List Numbers
numbers_at timings t = map numbers_of (timings_at timings t)

abbrev pub path_pair : List LegTiming → (classes : List ℕ) → (output : ℕ) → code_path.Path → PathCode × List Numbers
path_pair timings classes output p = (path_code classes output p, numbers_at timings p.timing)

abbrev pub path_pairs : List LegTiming → (classes : List ℕ) → (output : ℕ) → List code_path.Path → List (PathCode × List Numbers)
path_pairs timings classes output paths = flat_map (λ p. path_pair timings classes output p ∷ []) paths

abbrev pub kind_pairs : Parts → (classes : List ℕ) → (output : ℕ) → ElementKind → List (PathCode × List Numbers)
kind_pairs parts classes output (kind.Path paths style) = path_pairs parts.leg_timings.items classes output (spanned parts.paths.items paths)
kind_pairs parts classes output _ = []

abbrev pub element_pairs : Parts → (classes : List ℕ) → code_element.Element → List (PathCode × List Numbers)
element_pairs parts classes e = kind_pairs parts classes e.output e.kind

-- what is made of an item, if there is one
abbrev pub of_item : {A B : Type 0} → (A → List B) → Option A → List B
of_item f None = []
of_item f (Some x) = f x

-- those of the elements with these numbers
abbrev pub pairs_of_elements : Parts → (classes : List ℕ) → List ℕ → List (PathCode × List Numbers)
pairs_of_elements parts classes numbers = flat_map (λ k. of_item (element_pairs parts classes) (slice_get parts.elements.items k)) numbers

-- the values that a table has
abbrev pub numbers_of_timing : Bor LegTiming → List Numbers
numbers_of_timing t = map numbers_of (leg_timing_seen t.now)

abbrev pub numbers_in : {S : Type 0} → IndexMap PathCode (Bor LegTiming) S → PathCode → Option (List Numbers)
numbers_in seen code = option_map numbers_of_timing (get_by (path_eq code) seen)

-- ---- timing checks

abbrev pub check_pairs : (classes : List ℕ) → CheckTiming → CheckConditions → List (PartCode × ℤ)
check_pairs classes t w = map (λ (p : Part × ℤ). (part_code (event_codes classes t w) p.0, p.1)) (parts_of t.kind t.limits)

abbrev pub pairs_of_check : (classes : List ℕ) → Option CheckTiming → Option CheckConditions → List (PartCode × ℤ)
pairs_of_check classes (Some t) (Some w) = check_pairs classes t w
pairs_of_check classes _ _ = []

-- those of the timing checks with these numbers
abbrev pub pairs_of_checks : Parts → (classes : List ℕ) → List ℕ → List (PartCode × ℤ)
pairs_of_checks parts classes numbers = flat_map (λ k. pairs_of_check classes (slice_get parts.check_timings.items k) (slice_get parts.check_conditions.items k)) numbers

abbrev pub limit_in : {S : Type 0} → IndexMap PartCode ℤ S → PartCode → Option ℤ
limit_in seen code = get_by (part_eq code) seen
