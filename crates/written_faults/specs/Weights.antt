-- Words of contracts: limits that weigh too much, and the timing checks that they are for.
use Rattle.std.specs.Prelude.{ℕ, ◌+◌, ◌*◌, ◌^◌, ◌==◌, ◌&&◌, ℤ, pos, Bool, true, false, nat_le, List, [], ◌∷◌, Option, Some, None, slice_index_or, unsigned_abs}
use Rattle.std.specs.List.{list_any}
use Rattle.sg_circuit.specs.declared.checks.CheckConditions as code_conditions
use Rattle.sg_circuit.specs.declared.checks.CheckTiming.{CheckTiming}
use Rattle.sg_circuit.specs.declared.checks.Event.{Event}
use Rattle.sg_circuit.specs.Circuit.{Circuit}
use Rattle.annotation_model.specs.Finding.{check_at}
use Rattle.annotation_model.specs.Same.{fits_edge}
use Rattle.annotation_model.specs.Spots.{Checked}
use Rattle.written_model.specs.declared.parts.Part.{Part}
use Rattle.written_model.specs.Entries.{CheckKey, check_entry, edge_of, limit_at, parts_of}
use Rattle.written_model.specs.Faults.{is_for_datum, is_for_event, is_part_of}

-- a limit among so many signals
abbrev pub is_heavy_limit : (signals : ℕ) → ℤ → Bool
is_heavy_limit signals limit = nat_le (2 ^ 60) (unsigned_abs limit * (signals + 1))

-- whether an entry is for a part of such a check, whatever its scope
abbrev pub is_for_check : CheckKey → Checked → Bool
is_for_check k w = is_part_of k.part w.timing.kind && (is_for_event k.refer w.timing.refer w.written.refer && is_for_datum k.datum w.timing.datum w.written.datum)

abbrev pub part_key : Checked → Part → CheckKey
part_key k part = (check_entry k (part, pos 0)).key

-- whether the entry of a part of a timing check is for one of other checks, by their numbers
abbrev pub is_for_some : Circuit → (windows : List ℕ) → (check : ℕ) → Part → Bool
is_for_some c windows check part = list_any (λ w. is_for_check (part_key (check_at c check) part) (check_at c w)) windows

-- whether it weighs too much there
abbrev pub part_heavy : Circuit → (signals : ℕ) → (windows : List ℕ) → (check : ℕ) → Part × ℤ → Bool
part_heavy c signals windows check p = is_heavy_limit signals p.1 && is_for_some c windows check p.0

-- of one of its parts
abbrev pub check_heavy : Circuit → (signals : ℕ) → (windows : List ℕ) → (check : ℕ) → Bool
check_heavy c signals windows check = list_any (part_heavy c signals windows check) (parts_of (check_at c check).timing.kind (check_at c check).timing.limits)

-- the first part and the second, with their limits
abbrev pub parts_with : Part × Option Part → List ℤ → List (Part × ℤ)
parts_with (first, None) limits = (first, limit_at limits 0) ∷ []
parts_with (first, Some second) limits = (first, limit_at limits 0) ∷ (second, limit_at limits 1) ∷ []

-- by numbers that tell conditions apart: conditions, events and checks
abbrev pub fits_class : List ℕ → (wanted written : Option ℕ) → Bool
fits_class classes None written = true
fits_class classes (Some wanted) None = false
fits_class classes (Some wanted) (Some written) = slice_index_or classes wanted 0 == slice_index_or classes written 0

abbrev pub fits_event : List ℕ → Event → (wanted : Option ℕ) → Event → (written : Option ℕ) → Bool
fits_event classes e wanted other written = (e.net == other.net) && (fits_edge (edge_of e.edge) other.edge && fits_class classes wanted written)

abbrev pub fits_datum : List ℕ → Option Event → (wanted : Option ℕ) → Option Event → (written : Option ℕ) → Bool
fits_datum classes None wanted other written = true
fits_datum classes (Some e) wanted None written = false
fits_datum classes (Some e) wanted (Some other) written = fits_event classes e wanted other written

abbrev pub fits_events : List ℕ → CheckTiming → code_conditions.CheckConditions → CheckTiming → code_conditions.CheckConditions → Bool
fits_events classes t wanted other written = fits_event classes t.refer wanted.refer other.refer written.refer && fits_datum classes t.datum wanted.datum other.datum written.datum
