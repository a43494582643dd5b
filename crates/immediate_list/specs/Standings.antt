-- What is pending of drivers, by where it stands.
use Rattle.std.specs.Prelude.{◌≡◌, ℕ, ◌+◌, ◌<◌, ◌≤◌, Bool, true, false, min, List, [], ◌∷◌, length, map, slice_index_or, slice_set}
use Rattle.std.specs.declared.option.Option.{Option}
use Rattle.std.specs.declared.option.Option.TheVariants.{Some, None}
use Rattle.sg_logic.specs.declared.values.Value.{Value}
use Rattle.sg_model.specs.Agenda.{list_at}
use Rattle.fan_round.specs.Work.{AreMarked}
use Rattle.immediate_list.specs.declared.standings.Standing.{Standing}
use Rattle.immediate_list.specs.declared.standings.Standing.TheVariants.{Nothing, Listed, OnAgenda}

-- where a driver's transitions stand
abbrev pub standing_at : List Standing → ℕ → Standing
standing_at standings driver = slice_index_or standings driver OnAgenda

abbrev pub is_nothing : Standing → Bool
is_nothing Nothing = true
is_nothing (Listed value) = false
is_nothing OnAgenda = false

abbrev pub is_listed : Standing → Bool
is_listed Nothing = false
is_listed (Listed value) = true
is_listed OnAgenda = false

-- these drivers are listed, each once
abbrev pub AreListed : List Standing → List ℕ → Type 0
AreListed standings drivers = AreMarked (map (λ s. is_listed s) standings) drivers

-- a listed driver and its value were taken from the list, and the driver's transitions stand elsewhere
pub record IsUnlisted (old new : List Standing) (listed rest : List ℕ) (after : Standing) (answer : ℕ × Value) : Type 0 where
  pub driver : answer.0 < length old
  pub was : standing_at old answer.0 ≡ Listed answer.1
  pub standings : new ≡ slice_set old answer.0 after
  pub fewer : length rest + 1 ≡ length listed

-- what is pending of a driver, where the list has a time and the agenda this
abbrev pub list_of : ℕ → Standing → List (ℕ × Value) → List (ℕ × Value)
list_of time Nothing list = []
list_of time (Listed value) list = (time, value) ∷ []
list_of time OnAgenda list = list

-- what is pending of all
abbrev pub lists_of : ℕ → List Standing → List (List (ℕ × Value)) → List (List (ℕ × Value))
lists_of time [] lists = []
lists_of time (s ∷ ss) [] = []
lists_of time (s ∷ ss) (list ∷ lists) = list_of time s list ∷ lists_of time ss lists

-- the agenda has nothing of a driver whose transitions stand elsewhere
abbrev pub IsBare : Standing → List (ℕ × Value) → Type 0
IsBare Nothing list = list ≡ []
IsBare (Listed value) list = list ≡ []
IsBare OnAgenda list = Unit {0}

-- a list in front of an agenda with these lists and so much room, which has room for what is listed
pub record IsImmediate (standings : List Standing) (drivers : List ℕ) (capacity space : ℕ) (lists : List (List (ℕ × Value))) : Type 0 where
  pub many : length standings ≡ length lists
  pub listed : AreListed standings drivers
  pub bare : (driver : ℕ) → driver < length lists → IsBare (standing_at standings driver) (list_at lists driver)
  pub room : length standings ≤ capacity
  pub spare : length drivers ≤ space

-- the earlier of a time and another, if there is one
abbrev pub least_of : ℕ → Option ℕ → ℕ
least_of time None = time
least_of time (Some other) = min time other
