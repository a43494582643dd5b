-- Who drives a net, where nets are known by numbers, and the table of first drivers.
use Rattle.std.specs.Prelude.{◌≡◌, ℕ, ◌+◌, ◌<◌, ◌≤◌, ◌==◌, List, [], ◌∷◌, ◌++◌, Bool, true, false, if◌then◌else◌, length, map, slice_index_or}
use Rattle.std.specs.List.{AllByRecursion}
use Rattle.sg_circuit.specs.declared.nets.Driver.{Driver}
use Rattle.sg_circuit.specs.declared.nets.Driver.TheVariants.{Nobody, Stimulus, Element, Notifier}

-- something drives a net
pub record NumberedDrive : Type 0 where
  pub driver : Driver
  pub net : ℕ

abbrev pub by_stimulus : ℕ → NumberedDrive
by_stimulus n = record { driver = Stimulus; net = n }

abbrev pub by_checks : ℕ → NumberedDrive
by_checks n = record { driver = Notifier; net = n }

-- elements from the number i on drive their outputs
abbrev pub by_elements : ℕ → List ℕ → List NumberedDrive
by_elements i [] = []
by_elements i (n ∷ ns) = record { driver = Element i; net = n } ∷ by_elements (i + 1) ns

-- the drivers of the net k, in order, and the first
abbrev pub drivers_at : ℕ → List NumberedDrive → List Driver
drivers_at k [] = []
drivers_at k (d ∷ ds) = if d.net == k then d.driver ∷ drivers_at k ds else drivers_at k ds

abbrev pub first_or_nobody : List Driver → Driver
first_or_nobody [] = Nobody
first_or_nobody (d ∷ ds) = d

abbrev pub says_nobody : Driver → Bool
says_nobody Nobody = true
says_nobody Stimulus = false
says_nobody (Element e) = false
says_nobody Notifier = false

-- the stimulus or an element
abbrev pub IsOutside : Driver → Type 0
IsOutside Nobody = ⊥
IsOutside Stimulus = Unit {0}
IsOutside (Element e) = Unit {0}
IsOutside Notifier = ⊥

abbrev pub HasFirst : List Driver → List NumberedDrive → Type 0
HasFirst table ds = (k : ℕ) → k < length table → slice_index_or table k Nobody ≡ first_or_nobody (drivers_at k ds)

-- the table has the driver of each net, and no net has two
pub record StandsFor (table : List Driver) (ds : List NumberedDrive) : Type 0 where
  pub first_is : HasFirst table ds
  pub alone : (k : ℕ) → length (drivers_at k ds) ≤ 1
  pub outside : AllByRecursion (λ d. IsOutside d.driver) ds

-- the net has a driver already
abbrev pub IsTaken : ℕ → List NumberedDrive → Type 0
IsTaken net ds = (d : Driver) × (drivers_at net ds ≡ d ∷ [])

-- one drive more, or the net is taken
abbrev pub Notes : List NumberedDrive → NumberedDrive → List Driver → Bool → Type 0
Notes ds d table true = StandsFor table (ds ++ d ∷ [])
Notes ds d table false = IsTaken d.net ds

-- the element j is the second driver of a net
pub record IsSecond (ds : List NumberedDrive) (outputs : List ℕ) (j : ℕ) : Type 0 where
  pub net : ℕ
  pub first : Driver
  pub rest : List Driver
  pub drivers : drivers_at net (ds ++ by_elements 0 outputs) ≡ first ∷ Element j ∷ rest

-- timing checks drive these nets, and nothing else does
pub record DrivesRegs (table : List Driver) (ds : List NumberedDrive) (regs : List ℕ) : Type 0 where
  pub first_is : HasFirst table (ds ++ map by_checks regs)
  pub free : AllByRecursion (λ n. drivers_at n ds ≡ []) regs
