-- The forms of statements.
use Rattle.std.specs.Prelude.{ℕ, ◌==◌, ◌||◌, Bool, false, List, [], ◌∷◌, drop, map, filter_map, bytes_eq, codes, nat_le, ℤ, pos, negsuc, ◌+ℤ◌, Option, Some, None, option_map, is_some, Result, Ok, Err, if◌then◌else◌}
use Rattle.std.specs.List.{list_all, prefix_len}
use Rattle.sg_time.specs.declared.decimal.TimeError.{TimeError}
use Rattle.sg_time.specs.Spelling.{Number, Says}
use Rattle.stim_read.specs.Lines.{Statement, statements}
use Rattle.stim_read.specs.Sets.{Set, set_in}

-- what each text says as a decimal
abbrev pub Decimals : Type 0
Decimals = List ℕ → Result Number TimeError

abbrev pub AreDecimals : Decimals → Type 0
AreDecimals said = (text : List ℕ) → Says text (said text)

pub data Form : Type 0 where
  -- `unit 1ns`: the power of ten of a second
  unit_is : (power : ℤ) → Form
  -- `at T` and sets
  sets_at : (time : Number) (sets : List Set) → Form
  -- `end T`
  ends_at : (time : Number) → Form
  -- `end` and anything else
  faulty_end : Form
  -- any other
  other : Form

-- the powers of the units
abbrev pub power_of : List ℕ → Option ℤ
power_of name =
    if bytes_eq name (codes "s") then Some (pos 0)
    else if bytes_eq name (codes "ms") then Some (negsuc 2)
    else if bytes_eq name (codes "us") then Some (negsuc 5)
    else if bytes_eq name (codes "ns") then Some (negsuc 8)
    else if bytes_eq name (codes "ps") then Some (negsuc 11)
    else if bytes_eq name (codes "fs") then Some (negsuc 14)
    else None

-- 1, 10 or 100, joined with a unit
abbrev pub zeros : List ℕ → ℕ
zeros bytes = prefix_len (λ b. b == 48) bytes

abbrev pub unit_behind_one : List ℕ → Option ℤ
unit_behind_one bytes = if nat_le (zeros bytes) 2 then option_map (λ p. p +ℤ pos (zeros bytes)) (power_of (drop (zeros bytes) bytes)) else None

abbrev pub unit_in : List ℕ → Option ℤ
unit_in [] = None
unit_in (b ∷ bs) = if b == 49 then unit_behind_one bs else None

-- a time is a decimal without sign
abbrev pub has_sign : List ℕ → Bool
has_sign [] = false
has_sign (b ∷ bs) = (b == 43) || (b == 45)

abbrev pub time_from : Result Number TimeError → Option Number
time_from (Ok n) = Some n
time_from (Err e) = None

abbrev pub time_in : Decimals → List ℕ → Option Number
time_in said text = if has_sign text then None else time_from (said text)

-- words each of which is a set
unfoldable pub sets_in : List (List ℕ) → Option (List Set)
sets_in words = if list_all (λ w. is_some (set_in w)) words then Some (filter_map set_in words) else None

-- the form of the words behind `unit`, `at` and `end`
abbrev pub unit_form : Option ℤ → Form
unit_form None = other
unit_form (Some power) = unit_is power

abbrev pub at_form : Option Number → Option (List Set) → Form
at_form None sets = other
at_form (Some time) None = other
at_form (Some time) (Some sets) = sets_at time sets

abbrev pub end_form : Option Number → Form
end_form None = faulty_end
end_form (Some time) = ends_at time

abbrev pub behind_unit : List (List ℕ) → Form
behind_unit (unit ∷ []) = unit_form (unit_in unit)
behind_unit _ = other

-- at least one set
abbrev pub behind_at : Decimals → List (List ℕ) → Form
behind_at said (time ∷ set ∷ sets) = at_form (time_in said time) (sets_in (set ∷ sets))
behind_at said _ = other

abbrev pub behind_end : Decimals → List (List ℕ) → Form
behind_end said (time ∷ []) = end_form (time_in said time)
behind_end said _ = faulty_end

abbrev pub form_in : Decimals → List (List ℕ) → Form
form_in said [] = other
form_in said (w ∷ ws) =
    if bytes_eq w (codes "unit") then behind_unit ws
    else if bytes_eq w (codes "at") then behind_at said ws
    else if bytes_eq w (codes "end") then behind_end said ws
    else other

-- a statement's place and form
pub record Stated : Type 0 where
  pub byte : ℕ
  pub form : Form

abbrev pub stated : Decimals → Statement → Stated
stated said s = record { byte = s.byte; form = form_in said s.words }

abbrev pub all_stated : Decimals → List ℕ → List Stated
all_stated said text = map (stated said) (statements text)
