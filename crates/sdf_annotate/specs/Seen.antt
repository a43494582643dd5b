-- Words of the code that annotates.
use Rattle.std.specs.Prelude.{◌≡◌, ℕ, ℤ, Bool, true, false, List, [], ◌∷◌, length, map}
use Rattle.std.specs.List.{flat_map, range_with_len}
use Rattle.sg_text.specs.declared.places.Place.{Place}
use Rattle.sg_delay.specs.declared.corners.Corner.{Corner}
use Rattle.sg_circuit.specs.Circuit.{Circuit}
use Rattle.sg_circuit.specs.Seen.{circuit_seen}
use Rattle.sg_circuit.specs.Signals.{signals}
use Rattle.sg_circuit.specs.Timings.{Timing}
use Rattle.sdf_tree.specs.Meant.{Entry, EntryKind, Sdf, a_check}
use Rattle.sdf_tree.specs.declared.tree.Cell as code_cell
use Rattle.annotation_model.specs.Applied.{applied, are_limits_large, is_too_large, with_limits}
use Rattle.annotation_model.specs.Finding.{check_at, spot_at}
use Rattle.annotation_model.specs.Given.{Given}
use Rattle.annotation_model.specs.Matching.{limits_for}
use Rattle.annotation_model.specs.Spots.{bounds, grid, scope_of}
use Rattle.annotation_finder.specs.Finding.{given_seen}
use Rattle.sdf_annotate.specs.declared.tasks.Task as code_task
use Rattle.sdf_annotate.specs.declared.unmatched.AnnotError.{AnnotError}
use Rattle.sdf_annotate.specs.declared.unmatched.AnnotError.TheVariants.{TooLarge, NoMemory}

abbrev pub circuit_of : code_task.Task → Circuit
circuit_of task = circuit_seen task.places.now.parts.now

-- the task has the number of each scope's signals
abbrev pub AreCounted : code_task.Task → Type 0
AreCounted task = task.signals.now ≡ map (λ scope. length (signals (circuit_of task).checks (circuit_of task).check_timings scope)) (range_with_len 0 (length task.places.now.parts.now.scopes.items))

-- what is too large is told of with its place
abbrev pub Told : Type 0 → Place → AnnotError → Type 0
Told P place (TooLarge at) = P × (at ≡ place)
Told P place NoMemory = Unit {0}

-- what an entry makes of the leg or path of a number, and whether that is too large
abbrev pub spot_with : Circuit → Sdf → Corner → Entry → ℕ → List Timing → List Timing
spot_with c sdf corner e k ts = applied (grid c sdf corner (scope_of (spot_at c k))) e ts

abbrev pub is_spot_large : Circuit → Sdf → Corner → Entry → ℕ → List Timing → Bool
is_spot_large c sdf corner e k ts = is_too_large (grid c sdf corner (scope_of (spot_at c k))) e ts

-- and of the limits of the timing check of a number
abbrev pub check_with : Circuit → Sdf → Corner → EntryKind → ℕ → List ℤ → List ℤ
check_with c sdf corner (a_check check) k limits = with_limits (bounds c (check_at c k)) (grid c sdf corner (check_at c k).check.scope) (limits_for check (check_at c k).timing.kind) limits
check_with c sdf corner _ k limits = limits

abbrev pub is_check_large : Circuit → Sdf → Corner → EntryKind → ℕ → List ℤ → Bool
is_check_large c sdf corner (a_check check) k limits = are_limits_large (bounds c (check_at c k)) (grid c sdf corner (check_at c k).check.scope) (limits_for check (check_at c k).timing.kind)
is_check_large c sdf corner _ k limits = false

-- what is noted of an entry
abbrev pub noted : (matched : Bool) → Place → List ℕ → List (Place × List ℕ)
noted true place word = []
noted false place word = (place, word) ∷ []

-- the entries of cells, in order
abbrev pub given_of : code_cell.Cell → List Given
given_of cell = map (λ e. given_seen cell e) cell.entries.items

abbrev pub given_of_all : List code_cell.Cell → List Given
given_of_all cells = flat_map (λ cell. given_of cell) cells
