-- Faults of a stimulus's text: each cause of refusal is the list of the places that have it.
use Rattle.std.specs.Prelude.{ℕ, ℤ, ◌^◌, ◌==◌, negsuc, Bool, true, false, not, List, [], ◌∷◌, ◌++◌, length, flat_map, nat_lt, Option, Some, None, if◌then◌else◌}
use Rattle.std.specs.List.{list_any}
use Rattle.sg_text.specs.declared.places.Place.{Place}
use Rattle.sg_time.specs.Spelling.{Number}
use Rattle.sg_circuit.specs.Circuit.{Circuit}
use Rattle.stim_read.specs.declared.kinds.StimKind.{StimKind}
use Rattle.stim_read.specs.declared.kinds.StimKind.TheVariants.{Syntax, UnknownInput, WidthMismatch, TimeNotRising, NotWholeTick, NoEnd, TooLarge}
use Rattle.stim_read.specs.Sets.{Set}
use Rattle.stim_read.specs.Forms.{Decimals, Form, unit_is, sets_at, ends_at, faulty_end, other, Stated, all_stated}
use Rattle.stim_read.specs.Times.{Scale, is_whole, is_too_large, is_before}
use Rattle.stim_read.specs.Inputs.{nets_named}

pub record Fault : Type 0 where
  pub kind : StimKind
  pub place : Place

abbrev pub fault : StimKind → ℕ → Fault
fault kind byte = record { kind = kind; place = record { file = 0; byte = byte } }

-- one fault where a test holds
abbrev pub fault_if : Bool → StimKind → ℕ → List Fault
fault_if test kind byte = if test then fault kind byte ∷ [] else []

-- whether a statement begins with the word `end`
abbrev pub is_end : Form → Bool
is_end (unit_is power) = false
is_end (sets_at time sets) = false
is_end (ends_at time) = true
is_end faulty_end = true
is_end other = false

-- a unit is said before all other statements; else it is 1 ns
abbrev pub unit_said : Form → ℤ
unit_said (unit_is power) = power
unit_said (sets_at time sets) = negsuc 8
unit_said (ends_at time) = negsuc 8
unit_said faulty_end = negsuc 8
unit_said other = negsuc 8

abbrev pub unit_of : List Stated → ℤ
unit_of [] = negsuc 8
unit_of (s ∷ ss) = unit_said s.form

abbrev pub scale_of : Circuit → List Stated → Scale
scale_of circuit ss = record { unit = unit_of ss; tick = circuit.tick }

-- Syntax: another form, a unit behind another statement, and any statement behind an end
abbrev pub is_misplaced : List Form → Form → Bool
is_misplaced before (unit_is power) = nat_lt 0 (length before)
is_misplaced before (sets_at time sets) = list_any is_end before
is_misplaced before (ends_at time) = list_any is_end before
is_misplaced before faulty_end = true
is_misplaced before other = true

-- UnknownInput: no input of the top, or an index out of range. WidthMismatch: another number of digits than of bits
abbrev pub width_faults : ℕ → List ℕ → Option (List ℕ) → List Fault
width_faults byte digits None = fault UnknownInput byte ∷ []
width_faults byte digits (Some nets) = fault_if (not (length digits == length nets)) WidthMismatch byte

unfoldable pub set_faults : Circuit → ℕ → Set → List Fault
set_faults circuit byte s = width_faults byte s.digits (nets_named circuit s.target)

-- NotWholeTick: no whole number of ticks. TooLarge: 2 ^ 60 ticks or more
abbrev pub time_faults : Scale → ℕ → Number → List Fault
time_faults scale byte t = fault_if (not (is_whole scale t)) NotWholeTick byte ++ fault_if (is_too_large scale t) TooLarge byte

-- the time of the nearest `at` before
abbrev pub last_time : List Form → Option Number
last_time [] = None
last_time (unit_is power ∷ before) = last_time before
last_time (sets_at time sets ∷ before) = Some time
last_time (ends_at time ∷ before) = last_time before
last_time (faulty_end ∷ before) = last_time before
last_time (other ∷ before) = last_time before

-- TimeNotRising: an `at` that isn't after the one before, an `end` that is before the last `at`
abbrev pub is_after : Scale → Option Number → Number → Bool
is_after scale None t = true
is_after scale (Some u) t = is_before scale u t

abbrev pub is_early : Scale → Option Number → Number → Bool
is_early scale None t = false
is_early scale (Some u) t = is_before scale t u

abbrev pub at_faults : Scale → ℕ → List Form → Number → List Fault
at_faults scale byte before t = time_faults scale byte t ++ fault_if (not (is_after scale (last_time before) t)) TimeNotRising byte

abbrev pub end_faults : Scale → ℕ → List Form → Number → List Fault
end_faults scale byte before t = time_faults scale byte t ++ fault_if (is_early scale (last_time before) t) TimeNotRising byte

-- the faults of a statement behind others, which stand nearest first
abbrev pub meaning_faults : Circuit → Scale → ℕ → List Form → Form → List Fault
meaning_faults circuit scale byte before (unit_is power) = []
meaning_faults circuit scale byte before (sets_at time sets) = at_faults scale byte before time ++ flat_map (set_faults circuit byte) sets
meaning_faults circuit scale byte before (ends_at time) = end_faults scale byte before time
meaning_faults circuit scale byte before faulty_end = []
meaning_faults circuit scale byte before other = []

abbrev pub faults_of : Circuit → Scale → List Form → Stated → List Fault
faults_of circuit scale before s = fault_if (is_misplaced before s.form) Syntax s.byte ++ meaning_faults circuit scale s.byte before s.form

-- each statement, and the forms of those before it, nearest first
abbrev pub faults_behind : Circuit → Scale → List Form → List Stated → List Fault
faults_behind circuit scale before [] = []
faults_behind circuit scale before (s ∷ ss) = faults_of circuit scale before s ++ faults_behind circuit scale (s.form ∷ before) ss

-- NoEnd: no statement begins with `end`; at the end of the file
abbrev pub no_end : List ℕ → List Stated → List Fault
no_end text ss = fault_if (not (list_any (λ s. is_end s.form) ss)) NoEnd (length text)

-- the most bytes of a file
abbrev pub most_bytes : ℕ
most_bytes = 2 ^ 28

abbrev pub too_long : List ℕ → List Fault
too_long text = fault_if (nat_lt most_bytes (length text)) TooLarge most_bytes

abbrev pub stated_faults : List ℕ → Circuit → List Stated → List Fault
stated_faults text circuit ss = too_long text ++ (no_end text ss ++ faults_behind circuit (scale_of circuit ss) [] ss)

abbrev pub faults : Decimals → List ℕ → Circuit → List Fault
faults said text circuit = stated_faults text circuit (all_stated said text)
