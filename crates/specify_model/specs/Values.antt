-- Specparams and delays in ticks (IEEE 1364-2005, 4.10.3, 14.3, 19.8).
use Rattle.std.specs.Prelude.{ℕ, ℤ, List, [], Option, Some, None, Result, Ok, Err, bytes_eq, find, map}
use Rattle.std.specs.Option.{option_map}
use Rattle.sg_delay.specs.declared.corners.Corner.{Corner}
use Rattle.sg_delay.specs.declared.corners.Corner.TheVariants.{Min, Typ, Max}
use Rattle.sg_delay.specs.declared.expansion.Delays12.{Delays12}
use Rattle.sg_delay.specs.declared.expansion.DelayError.{DelayError}
use Rattle.sg_delay.specs.Expansion.{delays_of}
use Rattle.vl_token.specs.Tokens.{Timescale}
use Rattle.vl_tree.specs.Tree.{MinTypMax, one_number, Amount, a_number, a_parameter, Amounts, one_amount, three_amounts}
use Rattle.elab_model.specs.Delays.{ticks_of}
use Rattle.specify_model.specs.Blocks.{Parameter}

-- how numbers of a module become ticks: the corner's part, as so many units of the module, rounded to its precision (19.8)
pub record Measure : Type 0 where
  pub corner : Corner
  pub tick : ℤ
  pub scale : Timescale

abbrev pub ticks : Measure → MinTypMax → ℕ
ticks by v = ticks_of by.corner by.tick by.scale v

-- a corner's part (7.14.1)
abbrev pub corner_amount : Corner → Amounts → Amount
corner_amount corner (one_amount a) = a
corner_amount Min (three_amounts min typ max) = min
corner_amount Typ (three_amounts min typ max) = typ
corner_amount Max (three_amounts min typ max) = max

-- the values of specparams by their names, wherever they stand; none where there is none
abbrev pub Values : Type 0
Values = List ℕ → Option MinTypMax

abbrev pub value_of : List Parameter → Values
value_of ps n = option_map (λ p. p.value) (find (λ p. bytes_eq n p.name.text) ps)

abbrev pub amount_value : Values → Amount → Option MinTypMax
amount_value values (a_number p n) = Some (one_number n)
amount_value values (a_parameter n) = values n.text

abbrev pub ticks_or_none : Measure → Option MinTypMax → ℕ
ticks_or_none by None = 0
ticks_or_none by (Some v) = ticks by v

abbrev pub amount_ticks : Measure → Values → Amount → ℕ
amount_ticks by values a = ticks_or_none by (amount_value values a)

abbrev pub delay_ticks : Measure → Values → Amounts → ℕ
delay_ticks by values d = amount_ticks by values (corner_amount by.corner d)

-- the delays of the twelve transitions, from a list of 1, 2, 3, 6 or 12 (14.3.1)
abbrev pub all_delays : Result Delays12 DelayError → List ℕ
all_delays (Ok d) = d.at
all_delays (Err e) = []

abbrev pub expanded : Measure → Values → List Amounts → Result Delays12 DelayError
expanded by values ds = delays_of (map (delay_ticks by values) ds)

abbrev pub twelve_delays : Measure → Values → List Amounts → List ℕ
twelve_delays by values ds = all_delays (expanded by values ds)
