-- Pairs of a key and a value, read one after another into a look-up that keeps the first value of each key.
use Rattle.std.specs.Prelude.{◌≡◌, ℕ, Bool, true, false, List, ◌++◌, Option, Some, slice_get}
use Rattle.written_model.specs.Faults.{Disagree}

-- two pairs have one key, and different values
abbrev pub Differ : {K V : Type 0} → List (K × V) → Type 0
Differ {K} {V} pairs = Disagree (λ (p : K × V). p.0) (λ (p : K × V). p.1) pairs

-- the look-up has the value of each pair, and no other
pub record AreRead {K V : Type 0} (seen : List (K × V)) (lookup : K → Option V) : Type 0 where
  pub each : (i : ℕ) (p : K × V) → slice_get seen i ≡ Some p → lookup p.0 ≡ Some p.1
  pub only : (k : K) (v : V) → lookup k ≡ Some v → (i : ℕ) × (slice_get seen i ≡ Some (k, v))

-- what reading comes to, by whether two of the pairs differ
abbrev pub ComesTo : {K V : Type 0} → Bool → List (K × V) → (K → Option V) → Type 0
ComesTo true seen lookup = Differ seen
ComesTo false seen lookup = AreRead seen lookup

-- Whatever was read before, with these pairs more it comes to this.
abbrev pub Reads : {K V : Type 0} → List (K × V) → (old new : K → Option V) → Bool → Type 0
Reads {K} {V} more old new differ = (seen : List (K × V)) → AreRead seen old → ComesTo differ (seen ++ more) new
