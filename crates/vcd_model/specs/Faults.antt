-- Faults of a dump that is a stimulus: each cause of refusal is the list of the places that have it.
use Rattle.std.specs.Prelude.{ℕ, ◌==◌, ◌&&◌, Bool, not, List, [], ◌∷◌, ◌++◌, length, filter, flat_map, nat_lt, Option, Some, None, is_some, if◌then◌else◌}
use Rattle.std.specs.List.{list_any, prefix_len}
use Rattle.std.specs.Prelude.{drop}
use Rattle.sg_text.specs.declared.places.Place.{Place}
use Rattle.sg_time.specs.Spelling.{number_from}
use Rattle.sg_circuit.specs.Circuit.{Circuit, Variable}
use Rattle.vcd_form.specs.Written.{Declaration, Front, Item, Section, instant, nothing, real, value}
use Rattle.vcd_model.specs.declared.kinds.VcdKind.{VcdKind}
use Rattle.vcd_model.specs.declared.kinds.VcdKind.TheVariants.{Syntax, UnknownCode, WidthMismatch, TimeFalls, NotWholeTick, TooLarge, NoScope}
use Rattle.vcd_model.specs.Inputs.{all_declared, has_scope, input_of, nets_at, own}
use Rattle.vcd_model.specs.Values.{is_of_code, is_too_large, is_whole, scale_of, timed, Scale}

pub record Fault : Type 0 where
  pub kind : VcdKind
  pub place : Place

abbrev pub fault : VcdKind → ℕ → Fault
fault kind byte = record { kind = kind; place = record { file = 0; byte = byte } }

-- one fault where a test holds
abbrev pub fault_if : Bool → VcdKind → ℕ → List Fault
fault_if test kind byte = if test then fault kind byte ∷ [] else []

-- WidthMismatch: the declaration of an input has another width than the bits that it stands for, or an index that the input lacks
abbrev pub width_faults : ℕ → Option (List ℕ) → List Fault
width_faults byte None = fault WidthMismatch byte ∷ []
width_faults byte (Some nets) = []

abbrev pub variable_faults : Declaration → Option Variable → List Fault
variable_faults d None = []
variable_faults d (Some v) = width_faults d.byte (nets_at d v)

-- what is known of the header: all declarations, and those of the scope
pub record Header : Type 0 where
  pub circuit : Circuit
  pub scale : Scale
  pub all : List Declaration
  pub own : List Declaration

abbrev pub header_of : Circuit → (scope : List ℕ) → List Section → Header
header_of circuit scope ss = record { circuit = circuit; scale = scale_of circuit ss; all = all_declared ss; own = own scope ss }

-- UnknownCode: no declaration has the code; at the code, or at the value before it
abbrev pub code_faults : Header → ℕ → ℕ → List ℕ → List Fault
code_faults h byte code_byte code = if list_any (is_of_code code) h.all then [] else fault UnknownCode code_byte ∷ (fault UnknownCode byte ∷ [])

-- the declarations of inputs that have a code
abbrev pub inputs_of : Header → List ℕ → List Declaration
inputs_of h code = filter (λ d. is_of_code code d && is_some (input_of h.circuit d)) h.own

-- WidthMismatch too: a value is longer than the variable of an input
abbrev pub length_faults : ℕ → List ℕ → Declaration → List Fault
length_faults byte bits d = fault_if (nat_lt d.width (length bits)) WidthMismatch byte

-- TooLarge: 2 ^ 60 ticks or more, or more than 19 digits behind the leading zeros. NotWholeTick: no whole number of ticks. TimeFalls: below the time before
abbrev pub many_digits : List ℕ → Bool
many_digits digits = nat_lt 19 (length (drop (prefix_len (λ b. b == 48) digits) digits))

abbrev pub time_faults : Scale → ℕ → (before : ℕ) → List ℕ → List Fault
time_faults scale byte before digits =
    fault_if (many_digits digits) TooLarge byte
    ++ (fault_if (is_too_large scale (number_from 0 digits)) TooLarge byte
    ++ (fault_if (not (is_whole scale (number_from 0 digits))) NotWholeTick byte
    ++ fault_if (nat_lt (number_from 0 digits) before) TimeFalls byte))

-- Syntax: an input has a real value
abbrev pub item_faults : Header → ℕ × Item → List Fault
item_faults h (before, nothing) = []
item_faults h (before, instant byte digits) = time_faults h.scale byte before digits
item_faults h (before, value byte code_byte bits code) = code_faults h byte code_byte code ++ flat_map (length_faults byte bits) (inputs_of h code)
item_faults h (before, real byte code_byte code) = code_faults h byte code_byte code ++ flat_map (λ d. fault Syntax byte ∷ []) (inputs_of h code)

-- NoScope: no scope has the path; at `$enddefinitions`
abbrev pub body_faults : Header → Bool → Option (ℕ × List Item) → List Fault
body_faults h found None = []
body_faults h found (Some (byte, items)) = fault_if (not found) NoScope byte ++ flat_map (item_faults h) (timed 0 items)

abbrev pub front_faults : Circuit → (scope : List ℕ) → Front → List Fault
front_faults circuit scope f =
    let h = header_of circuit scope f.sections in
    flat_map (λ d. variable_faults d (input_of circuit d)) h.own ++ body_faults h (has_scope scope f.sections) f.body
