-- The values that a dump gives to bits of inputs, and the times at which it does (IEEE 1364-2005, 18.2.1, 18.2.2).
use Rattle.std.specs.Prelude.{ℕ, ℤ, negsuc, ◌-ℤ◌, ◌-◌, ◌*◌, ◌/◌, ◌%◌, ◌^◌, ◌==◌, ◌||◌, Bool, nat_le, option_to_list, List, [], ◌∷◌, ◌++◌, length, map, zip, filter, flat_map, replicate, bytes_eq, Option, Some, None, if◌then◌else◌}
use Rattle.sg_logic.specs.declared.values.Value.{Value}
use Rattle.sg_logic.specs.declared.values.Value.TheVariants.{Zero, One, X, Z}
use Rattle.sg_time.specs.Spelling.{number_from}
use Rattle.sg_time.specs.Ticks.{above, below}
use Rattle.sg_circuit.specs.Circuit.{Circuit}
use Rattle.vcd_form.specs.Written.{Declaration, Item, Section, instant, timescale, value}
use Rattle.vcd_model.specs.Inputs.{input_of, nets_at}

-- ---- times

-- the powers of ten of a second that the dump's unit and the circuit's tick are; without a timescale the unit is 1 ns (18.2.3.5)
pub record Scale : Type 0 where
  pub unit : ℤ
  pub tick : ℤ

abbrev pub powers : Section → List ℤ
powers (timescale power) = power ∷ []
powers _ = []

abbrev pub first_or : ℤ → List ℤ → ℤ
first_or p [] = p
first_or p (q ∷ qs) = q

abbrev pub scale_of : Circuit → List Section → Scale
scale_of circuit ss = record { unit = first_or (negsuc 8) (flat_map powers ss); tick = circuit.tick }

-- the fraction of ticks that a time is
abbrev pub numerator : Scale → ℕ → ℕ
numerator scale t = t * 10 ^ above (scale.unit -ℤ scale.tick)

abbrev pub denominator : Scale → ℕ
denominator scale = 10 ^ below (scale.unit -ℤ scale.tick)

abbrev pub ticks : Scale → ℕ → ℕ
ticks scale t = numerator scale t / denominator scale

abbrev pub is_whole : Scale → ℕ → Bool
is_whole scale t = (numerator scale t % denominator scale) == 0

-- 2 ^ 60 ticks or more
abbrev pub is_too_large : Scale → ℕ → Bool
is_too_large scale t = nat_le (2 ^ 60 * denominator scale) (numerator scale t)

-- each item, with the time before it, which is 0 before the first one
abbrev pub timed : ℕ → List Item → List (ℕ × Item)
timed now [] = []
timed now (instant byte digits ∷ is) = (now, instant byte digits) ∷ timed (number_from 0 digits) is
timed now (i ∷ is) = (now, i) ∷ timed now is

-- ---- values

abbrev pub value_of : ℕ → Value
value_of b = if b == 48 then Zero else if b == 49 then One else if (b == 122) || (b == 90) then Z else X

-- a shorter value is extended on the left: by its leftmost bit where that is x or z, and else by 0
abbrev pub filler : List Value → Value
filler [] = Zero
filler (Zero ∷ vs) = Zero
filler (One ∷ vs) = Zero
filler (X ∷ vs) = X
filler (Z ∷ vs) = Z

abbrev pub extended : ℕ → List Value → List Value
extended width vs = replicate (width - length vs) (filler vs) ++ vs

abbrev pub bits_of : ℕ → List ℕ → List Value
bits_of width bits = extended width (map value_of bits)

-- the declarations of inputs that have a code
abbrev pub is_of_code : List ℕ → Declaration → Bool
is_of_code code d = bytes_eq d.code code

abbrev pub bits_given : List ℕ → Option (List ℕ) → List (ℕ × Value)
bits_given bits None = []
bits_given bits (Some nets) = zip nets (bits_of (length nets) bits)

abbrev pub given_to : Circuit → List ℕ → Declaration → List (ℕ × Value)
given_to circuit bits d = flat_map (λ v. bits_given bits (nets_at d v)) (option_to_list (input_of circuit d))

-- a bit of an input is given a value at a time
pub record Given : Type 0 where
  pub time : ℕ
  pub net : ℕ
  pub value : Value

abbrev pub given_by : Circuit → List Declaration → ℕ × Item → List Given
given_by circuit ds (now, value byte code_byte bits code) =
    map (λ c. record { time = now; net = c.0; value = c.1 }) (flat_map (given_to circuit bits) (filter (is_of_code code) ds))
given_by circuit ds (now, _) = []

abbrev pub given : Circuit → List Declaration → List Item → List Given
given circuit ds items = flat_map (given_by circuit ds) (timed 0 items)
