-- SDF files as they are meant (IEEE 1497-2001): what is written, with its numbers read.
use Rattle.std.specs.Prelude.{ℕ, ℤ, pos, neg_ℤ, Bool, true, false, nat_lt, ◌^◌, length, List, [], ◌∷◌, map, Option, Some, None, Result, Ok, Err, if◌then◌else◌}
use Rattle.std.specs.List.{flat_map}
use Rattle.std.specs.Option.{option_map}
use Rattle.sg_text.specs.declared.places.Place.{Place}
use Rattle.sg_time.specs.declared.decimal.TimeError.{TimeError}
use Rattle.sg_time.specs.declared.decimal.TimeError.TheVariants as error
use Rattle.sg_time.specs.Reading.{parts_of, said_of}
use Rattle.sg_time.specs.Spelling as time
use Rattle.sdf_tree.specs.declared.tree.PairCheck.{PairCheck}
use Rattle.sdf_tree.specs.declared.tree.SingleCheck.{SingleCheck}
use Rattle.sdf_tree.specs.declared.tree.Skipped.{Skipped}
use Rattle.sdf_tree.specs.declared.tree.Skipped.TheVariants as skipped
use Rattle.sdf_tree.specs.declared.tree.WindowCheck.{WindowCheck}
use Rattle.sdf_tree.specs.declared.words.Divider.{Divider}
use Rattle.sdf_tree.specs.declared.words.Divider.TheVariants.{Point}
use Rattle.sdf_tree.specs.Written as written
use Rattle.sdf_tree.specs.Written.{Port, Terminal, PathCondition, Instance}

-- ---- numbers

-- What a word is as a decimal. No file has a word of 2^30 bytes, which would have too many digits.
abbrev pub decimal_of : List ℕ → Result time.Number TimeError
decimal_of text = if nat_lt (length text) (2 ^ 30) then said_of (parts_of text) else Err error.TooManyDigits

abbrev pub no_number : time.Number
no_number = record { negative = false; digits = 0; exponent = pos 0 }

abbrev pub number_or_zero : Result time.Number TimeError → time.Number
number_or_zero (Ok n) = n
number_or_zero (Err e) = no_number

-- the number that a word is, where it is one
abbrev pub number_of : written.Number → time.Number
number_of n = number_or_zero (decimal_of n.text)

-- a value for each corner, or none
pub record Triple : Type 0 where
  pub min : Option time.Number
  pub typ : Option time.Number
  pub max : Option time.Number

abbrev pub triple_of : written.Value → Triple
triple_of v = record { min = option_map number_of v.min; typ = option_map number_of v.typ; max = option_map number_of v.max }

-- the limits of pulses
pub record LimitPair : Type 0 where
  pub reject : Triple
  pub error : Triple

pub record DelayValue : Type 0 where
  pub delay : Triple
  pub limits : Option LimitPair

-- a single limit is both
abbrev pub limits_from : Triple → Option Triple → LimitPair
limits_from reject None = record { reject = reject; error = reject }
limits_from reject (Some error) = record { reject = reject; error = error }

abbrev pub limit_pair_of : written.Limits → LimitPair
limit_pair_of l = limits_from (triple_of l.reject) (option_map triple_of l.error)

abbrev pub delay_value_of : written.Delay → DelayValue
delay_value_of d = record { delay = triple_of d.delay; limits = option_map limit_pair_of d.limits }

-- ---- entries

pub data CellCheck : Type 0 where
  pair_check : PairCheck → (first second : Terminal) → (limit : Triple) → CellCheck
  window_check : WindowCheck → (first second : Terminal) → (first_limit second_limit : Triple) → CellCheck
  single_check : SingleCheck → Terminal → (limit : Triple) → CellCheck

pub data EntryKind : Type 0 where
  io_path : PathCondition → (from : Terminal) → (to : Port) → List DelayValue → EntryKind
  device : (output : Option Port) → List DelayValue → EntryKind
  port_delay : Port → List DelayValue → EntryKind
  interconnect : (from to : Port) → List DelayValue → EntryKind
  path_pulse : (percent : Bool) → Option (Port × Port) → (reject : Triple) → (error : Option Triple) → EntryKind
  a_check : CellCheck → EntryKind
  skipped_entry : Skipped → EntryKind

pub record Entry : Type 0 where
  pub place : Place
  pub increment : Bool
  pub kind : EntryKind

-- RETAIN is passed over, and NETDELAY annotates nothing
abbrev pub kind_of_body : written.Body → EntryKind
kind_of_body (written.io_path c f t rs ds) = io_path c f t (map delay_value_of ds)
kind_of_body (written.port_delay p ds) = port_delay p (map delay_value_of ds)
kind_of_body (written.interconnect f t ds) = interconnect f t (map delay_value_of ds)
kind_of_body (written.device o ds) = device o (map delay_value_of ds)
kind_of_body (written.net_delay p ds) = skipped_entry skipped.NetDelay

abbrev pub entry_of : Bool → written.Entry → Entry
entry_of increment e = record { place = e.place; increment = increment; kind = kind_of_body e.body }

abbrev pub entries_of_group : written.Group → List Entry
entries_of_group (written.absolute es) = map (entry_of false) es
entries_of_group (written.increment es) = map (entry_of true) es
entries_of_group (written.path_pulse p percent ports reject error) = record { place = p; increment = false; kind = path_pulse percent ports (triple_of reject) (option_map triple_of error) } ∷ []

abbrev pub kind_of_check : written.CheckBody → EntryKind
kind_of_check (written.pair_check c f s l) = a_check (pair_check c f s (triple_of l))
kind_of_check (written.window_check c f s l m) = a_check (window_check c f s (triple_of l) (triple_of m))
kind_of_check (written.single_check c t l) = a_check (single_check c t (triple_of l))
kind_of_check (written.skipped_check s) = skipped_entry s

abbrev pub entry_of_check : written.Check → Entry
entry_of_check c = record { place = c.place; increment = false; kind = kind_of_check c.body }

abbrev pub entries_of_part : written.Part → List Entry
entries_of_part (written.delays gs) = flat_map entries_of_group gs
entries_of_part (written.checks cs) = map entry_of_check cs
entries_of_part (written.skipped_part p s) = record { place = p; increment = false; kind = skipped_entry s } ∷ []

-- ---- cells and files

pub record Cell : Type 0 where
  pub cell_type : List ℕ
  pub instance : Instance
  pub entries : List Entry

pub record Sdf : Type 0 where
  pub unit : ℤ
  pub divider : Divider
  pub cells : List Cell

abbrev pub cell_of : written.Cell → Cell
cell_of c = record { cell_type = c.cell_type; instance = c.instance; entries = flat_map entries_of_part c.parts }

-- what a part of a file is of each: a unit, a divider, a cell
abbrev pub units_in : written.FilePart → List ℤ
units_in (written.a_head (written.unit_head u)) = u ∷ []
units_in _ = []

abbrev pub dividers_in : written.FilePart → List Divider
dividers_in (written.a_head (written.divider_head d)) = d ∷ []
dividers_in _ = []

abbrev pub cells_in : written.FilePart → List Cell
cells_in (written.a_cell c) = cell_of c ∷ []
cells_in _ = []

-- the last of a list, or what is said where it has none
abbrev pub last_or : {A : Type 0} → A → List A → A
last_or a [] = a
last_or a (x ∷ xs) = last_or x xs

-- Of several units, and of several dividers, the last holds; without one the unit is 1 ns and the divider a point.
abbrev pub sdf_of : List written.FilePart → Sdf
sdf_of ps = record {
  unit = last_or (neg_ℤ (pos 9)) (flat_map units_in ps);
  divider = last_or Point (flat_map dividers_in ps);
  cells = flat_map cells_in ps;
}
