-- What the text of a saved moment is read as.
use Rattle.std.specs.Prelude.{ℕ, ◌≡◌, ◌≢◌, ◌++◌, ◌<◌, ◌≤◌, ◌^◌, List, ◌∷◌, Result, Ok, Err, length, slice_set}
use Rattle.sg_text.specs.declared.refusals.Refused.{Refused}
use Rattle.sg_text.specs.declared.refusals.Refused.TheVariants as refused
use Rattle.sg_circuit.specs.Circuit.{Circuit}
use Rattle.sim_rounds.specs.Moments.{Fits, Moment}
use Rattle.sim_rounds.specs.MomentsSeen.{moment_seen}
use Rattle.sim_rounds.specs.declared.moments.Moment as code_moment
use Rattle.sim_save.specs.Lines.{save_text}
use Rattle.sim_save.specs.Faults.{AreNumbers, FaultStands, most_bytes}
use Rattle.sim_save.specs.declared.kinds.SaveKind.{SaveKind}

-- it is the text of a moment that fits the circuit and is before the end, with a number of evaluations in 64 bits
pub record IsTextOf (bytes : List ℕ) (circuit : Circuit) (end : ℕ) (m : Moment) : Type 0 where
  pub small : length bytes ≤ most_bytes
  pub text : bytes ≡ save_text circuit m
  pub fits : Fits circuit m
  pub before : m.time < end
  pub evaluations : m.evaluations < 2 ^ 64

-- and each of its numbers is in its type, as in every circuit that is made
pub record IsRead (bytes : List ℕ) (circuit : Circuit) (end : ℕ) (m : Moment) : Type 0 where
  pub small : length bytes ≤ most_bytes
  pub text : bytes ≡ save_text circuit m
  pub fits : Fits circuit m
  pub before : m.time < end
  pub numbers : AreNumbers circuit.tick (length circuit.elements) m

-- the fault of a refusal is the first that stands
abbrev pub RefusalStands : List ℕ → Circuit → ℕ → Refused SaveKind → Type 0
RefusalStands bytes circuit end (refused.Fault kind place) = FaultStands bytes circuit end kind place.byte × (place.file ≡ 0)
RefusalStands bytes circuit end refused.NoMemory = Unit {0}

-- this moment, or want of memory
abbrev pub GivesBack : Moment → Result code_moment.Moment (Refused SaveKind) → Type 0
GivesBack m (Ok read) = moment_seen read ≡ m
GivesBack m (Err (refused.Fault kind place)) = ⊥
GivesBack m (Err refused.NoMemory) = Unit {0}

-- a text in which one byte was changed, or that was cut
pub data IsDamaged (text : List ℕ) : List ℕ → Type 0 where
  changed : (at byte : ℕ) → at < length text → slice_set text at byte ≢ text → IsDamaged text (slice_set text at byte)
  cut : (front : List ℕ) (b : ℕ) (rest : List ℕ) → text ≡ front ++ b ∷ rest → IsDamaged text front

-- no moment is read
abbrev pub IsRefused : Result code_moment.Moment (Refused SaveKind) → Type 0
IsRefused (Ok read) = ⊥
IsRefused (Err e) = Unit {0}
