-- What is so of each value that phases give.
use Rattle.std.specs.Prelude.{Result, Ok, Err}
use Rattle.signoff_phases.specs.Phases.{Refusal, Then, stops, goes_on}

abbrev pub OfValue : {A : Type 0} → (A → Type 0) → Result A Refusal → Type 0
OfValue P (Ok a) = P a
OfValue P (Err r) = Unit {0}

-- what is so of all that follows the values that come first
pub then_value : {A B : Type 0} (P : B → Type 0) (first : Result A Refusal → Type 0) (next : A → Result B Refusal → Type 0) → ((a : A) → first (Ok a) → (p : Result B Refusal) → next a p → OfValue P p)
    → (p : Result B Refusal) → Then first next p → OfValue P p
then_value P first next f _ (stops r h) = tt
then_value P first next f _ (goes_on a p h k) = f a h p k
