-- The steps of a stimulus, of which the last is still open.
use Rattle.std.specs.Prelude.{◌≡◌, ℕ, ◌<◌, List, [], ◌∷◌, ◌++◌, map, zip, length, flat_map, nat_lt, Option}
use Rattle.std.specs.Ordering.{nat_cmp}
use Rattle.std.specs.BTreeMap.{insert_entry}
use Rattle.sg_logic.specs.declared.values.Value.{Value}
use Rattle.sg_stimulus.specs.Seen.{step_seen}
use Rattle.sg_stimulus.specs.Stimulus.{Step}
use Rattle.sg_time.specs.Spelling.{number_from}
use Rattle.vcd_form.specs.Written.{Item, instant, nothing, real, value}
use Rattle.vcd_model.specs.declared.kinds.VcdKind.TheVariants.{Syntax, WidthMismatch}
use Rattle.vcd_model.specs.Faults.{fault, fault_if, variable_faults, Fault, Header}
use Rattle.vcd_model.specs.Inputs.{input_of}
use Rattle.vcd_model.specs.Stimulus.{steps_of}
use Rattle.vcd_model.specs.Values.{bits_of, Given, Scale}
use Rattle.vcd_stim.specs.Index.{indexed}
use Rattle.vcd_stim.specs.Meant.{IsMoment}
use Rattle.vcd_stim.specs.declared.steps.Steps.{Steps}

-- each net once, nets rising, with the value that was put last
abbrev pub put_all : List (ℕ × Value) → List (ℕ × Value) → List (ℕ × Value)
put_all entries [] = entries
put_all entries (c ∷ cs) = put_all (insert_entry nat_cmp entries c.0 c.1) cs

-- what a value gives to some nets, if it isn't longer
abbrev pub nets_given : List ℕ → List ℕ → List (ℕ × Value)
nets_given bits nets = zip nets (bits_of (length nets) bits)

abbrev pub nets_faults : ℕ → List ℕ → List ℕ → List Fault
nets_faults byte bits nets = fault_if (nat_lt (length nets) (length bits)) WidthMismatch byte

-- a real value of some inputs
abbrev pub reals : ℕ → List (List ℕ) → List Fault
reals byte list = flat_map (λ nets. fault Syntax byte ∷ []) list

-- a step, if it sets a net
abbrev pub step_of : ℕ → List (ℕ × Value) → List Step
step_of ticks [] = []
step_of ticks (c ∷ cs) = record { time = ticks; sets = c ∷ cs } ∷ []

abbrev pub pairs : List Given → List (ℕ × Value)
pairs gs = map (λ g. (g.net, g.value)) gs

abbrev pub Each : {A : Type 0} → (A → Type 0) → List A → Type 0
Each P [] = Unit {0}
Each P (x ∷ xs) = P x × Each P xs

-- the steps of some given values, those of the last time open
pub record HasSteps (scale : Scale) (nets : ℕ) (gs : List Given) (now : ℕ) (s : Steps) : Type 0 where
  pub closed : List Given
  pub opened : List Given
  pub split : gs ≡ closed ++ opened
  pub past : Each (λ g. g.time < now) closed
  pub present : Each (λ g. g.time ≡ now) opened
  pub moment : IsMoment scale now s.moment
  pub open_is : s.open_sets.entries ≡ put_all [] (pairs opened)
  pub closed_is : map (λ x. step_seen x) s.closed.items ≡ steps_of scale nets closed

-- the time behind an item
abbrev pub time_behind : ℕ → Item → ℕ
time_behind now (instant byte digits) = number_from 0 digits
time_behind now nothing = now
time_behind now (value byte code_byte bits code) = now
time_behind now (real byte code_byte code) = now

-- a table of a header in which no fault stands
pub record IsTableOf (h : Header) (table : List ℕ → Option (List (List ℕ))) : Type 0 where
  pub table_is : (code : List ℕ) → table code ≡ indexed h.circuit h.all h.own code
  pub faultless : flat_map (λ d. variable_faults d (input_of h.circuit d)) h.own ≡ []
