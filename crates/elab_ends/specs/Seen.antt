-- Places in the row of bits, as the definitions see them.
use Rattle.std.specs.Prelude.{◌≡◌, ℕ, ◌<◌, ◌==◌, All, List, length, map}
use Rattle.elab_bits.specs.Seen.{bit_at}
use Rattle.elab_laws.specs.Handing.{all_bits}
use Rattle.elab_model.specs.Names.{Variable}
use Rattle.elab_model.specs.Terms.{NetBit, is_same_bit}

-- the bit at a place of the row of bits
abbrev pub bit_seen : List Variable → ℕ → NetBit
bit_seen vs i = record { name = (bit_at vs i).0.name; position = (bit_at vs i).1 }

abbrev pub bits_seen : List Variable → List ℕ → List NetBit
bits_seen vs is = map (bit_seen vs) is

abbrev pub AreInRow : List Variable → List ℕ → Type 0
AreInRow vs is = All (λ i. i < length (all_bits vs)) is

-- different places of the row are different bits
abbrev pub AreApart : List Variable → Type 0
AreApart vs = (i j : ℕ) → i < length (all_bits vs) → j < length (all_bits vs) → is_same_bit (bit_seen vs i) (bit_seen vs j) ≡ (i == j)
