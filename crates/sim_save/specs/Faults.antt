-- What is wrong with a text that is to be a saved moment.
use Rattle.std.specs.Prelude.{ℕ, ℤ, suc, pos, negsuc, ◌≡◌, ◌++◌, ◌==◌, ◌<◌, ◌≤◌, ◌^◌, All, List, [], ◌∷◌, if◌then◌else◌, length}
use Rattle.std.specs.declared.option.Option.{Option}
use Rattle.std.specs.declared.option.Option.TheVariants.{Some, None}
use Rattle.sg_logic.specs.declared.values.Value.{Value}
use Rattle.sg_model.specs.Machine.{Stamp}
use Rattle.sg_circuit.specs.Circuit.{Circuit, Element}
use Rattle.sim_rounds.specs.Moments.{Fits, Moment, is_udp}
use Rattle.sim_save.specs.Lines.{body, joined, save_lines}
use Rattle.sim_save.specs.declared.kinds.SaveKind.{SaveKind}
use Rattle.sim_save.specs.declared.kinds.SaveKind.TheVariants as kind

-- the most bytes that a saved moment may have
abbrev pub most_bytes : ℕ
most_bytes = 2 ^ 30

-- Numbers in their types: the tick's power in 8 bits, counts and drivers in 32, times and the number of evaluations in 64. A net's last change ends with its value.

abbrev pub IsPower : ℤ → Type 0
IsPower (pos n) = n < 128
IsPower (negsuc n) = n < 128

abbrev pub IsTime : Option ℕ → Type 0
IsTime None = Unit {0}
IsTime (Some time) = time < 2 ^ 64

abbrev pub AreChanges : List Value → List (Option Stamp) → Type 0
AreChanges [] [] = Unit {0}
AreChanges [] (s ∷ ss) = ⊥
AreChanges (v ∷ vs) [] = ⊥
AreChanges (v ∷ vs) (None ∷ ss) = AreChanges vs ss
AreChanges (v ∷ vs) (Some s ∷ ss) = (s.time < 2 ^ 64) × (s.after ≡ v) × AreChanges vs ss

pub record AreNumbers (power : ℤ) (count : ℕ) (m : Moment) : Type 0 where
  pub tick : IsPower power
  pub elements : count < 2 ^ 32
  pub nets : length m.nets < 2 ^ 32
  pub udps : length m.udps < 2 ^ 32
  pub checks : length m.latest < 2 ^ 32
  pub time : m.time < 2 ^ 64
  pub changes : AreChanges m.nets m.stamps
  pub pending : All (λ p. (p.driver < 2 ^ 32) × (p.time < 2 ^ 64)) m.pending
  pub latest : All (λ l. IsTime l.refer × IsTime l.datum) m.latest
  pub last : m.last < 2 ^ 64
  pub evaluations : m.evaluations < 2 ^ 64

-- a half of the text is the body of a moment
pub record IsBodyOf (half : List ℕ) (tick : ℤ) (elements : ℕ) (m : Moment) : Type 0 where
  pub text : half ≡ body tick elements m
  pub numbers : AreNumbers tick elements m

-- some body begins with these lines
pub record BeginBody (lines : List (List ℕ)) : Type 0 where
  pub tick : ℤ
  pub elements : ℕ
  pub moment : Moment
  pub numbers : AreNumbers tick elements moment
  pub rest : List (List ℕ)
  pub is : save_lines tick elements moment ≡ lines ++ rest

-- the lines of a text, each with its LF (10) at the end; behind the last of these may stand one without
abbrev pub with_byte : ℕ → List (List ℕ) → List (List ℕ)
with_byte b [] = (b ∷ []) ∷ []
with_byte b (l ∷ ls) = (b ∷ l) ∷ ls

abbrev pub lines_in : List ℕ → List (List ℕ)
lines_in [] = []
lines_in (b ∷ bs) = if b == 10 then ((b ∷ []) ∷ lines_in bs) else with_byte b (lines_in bs)

-- a half is no body of any moment: the first line that doesn't go on with one, or the end of the half where all do
pub data IsNoBody (half : List ℕ) : ℕ → Type 0 where
  at_line : (before : List (List ℕ)) (line : List ℕ) (after : List (List ℕ)) → lines_in half ≡ before ++ line ∷ after → BeginBody before → (BeginBody (before ++ line ∷ []) → ⊥) → IsNoBody half (length (joined before))
  at_end : BeginBody (lines_in half) → ((tick : ℤ) (elements : ℕ) (m : Moment) → IsBodyOf half tick elements m → ⊥) → IsNoBody half (length half)

abbrev pub count_udps : List Element → ℕ
count_udps [] = 0
count_udps (e ∷ es) = if is_udp e.kind then suc (count_udps es) else count_udps es

-- tick and counts are the circuit's
pub record IsOfCircuit (circuit : Circuit) (power : ℤ) (count : ℕ) (m : Moment) : Type 0 where
  pub tick : power ≡ circuit.tick
  pub elements : count ≡ length circuit.elements
  pub nets : length m.nets ≡ length circuit.nets
  pub udps : length m.udps ≡ count_udps circuit.elements
  pub checks : length m.latest ≡ length circuit.checks

-- the first fault of a text, for a circuit and a run with this end; the places of all but the first and the third are byte 0
pub data FaultStands (bytes : List ℕ) (circuit : Circuit) (end : ℕ) : SaveKind → ℕ → Type 0 where
  too_large : most_bytes < length bytes → FaultStands bytes circuit end kind.TooLarge most_bytes
  damaged : length bytes ≤ most_bytes → ((half : List ℕ) → bytes ≡ half ++ half → ⊥) → FaultStands bytes circuit end kind.Damaged 0
  syntax : length bytes ≤ most_bytes → (half : List ℕ) → bytes ≡ half ++ half → (byte : ℕ) → IsNoBody half byte → FaultStands bytes circuit end kind.Syntax byte
  other : length bytes ≤ most_bytes → (half : List ℕ) → bytes ≡ half ++ half → (tick : ℤ) (elements : ℕ) (m : Moment) → IsBodyOf half tick elements m
      → (IsOfCircuit circuit tick elements m → ⊥) → FaultStands bytes circuit end kind.OtherCircuit 0
  bad : length bytes ≤ most_bytes → (half : List ℕ) → bytes ≡ half ++ half → (tick : ℤ) (elements : ℕ) (m : Moment) → IsBodyOf half tick elements m
      → IsOfCircuit circuit tick elements m → (Fits circuit m → ⊥) → FaultStands bytes circuit end kind.BadMoment 0
  past : length bytes ≤ most_bytes → (half : List ℕ) → bytes ≡ half ++ half → (tick : ℤ) (elements : ℕ) (m : Moment) → IsBodyOf half tick elements m
      → IsOfCircuit circuit tick elements m → Fits circuit m → end ≤ m.time → FaultStands bytes circuit end kind.PastEnd 0
