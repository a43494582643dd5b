-- What the number in a link stands for.
use Rattle.std.specs.Prelude.{◌≡◌, ℕ, ◌==◌, if◌then◌else◌}
use Rattle.std.specs.declared.option.Option.{Option}
use Rattle.std.specs.declared.option.Option.TheVariants.{Some, None}
use Rattle.std.proofs.Common.{Bool, true, false, refl, sym, eqb-true}

-- the greatest number of eight bytes, which is no key
abbrev pub no_key : ℕ
no_key = 18446744073709551615

-- the key that a number stands for
abbrev pub key_of : ℕ → Option ℕ
key_of n = if n == no_key then None else Some n

-- the number that stands for a key
abbrev pub number_of : Option ℕ → ℕ
number_of None = no_key
number_of (Some key) = key

-- a number is got back from what it stands for
pub number_of-key_of : (n : ℕ) → number_of (key_of n) ≡ n
number_of-key_of n = by (n == no_key) refl
  where
    by : (b : Bool) → (n == no_key) ≡ b → number_of (if b then None else Some n) ≡ n
    by true e = sym (eqb-true n no_key e)
    by false e = refl
