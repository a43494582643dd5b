-- A constant has as many bits as its width.
use Rattle.std.proofs.Common.{◌≡◌, ℕ, ◌-◌, List, [], ◌∷◌, length, None, refl, arith, length-append}
use Rattle.std.proofs.lemmas.List.{length-drop, length-replicate}
use Rattle.std.specs.Prelude.{replicate, drop}
use Rattle.sg_logic.specs.declared.values.Value.{Value}
use Rattle.sg_logic.specs.declared.values.Value.TheVariants.{Zero, One, X, Z}
use Rattle.vl_token.specs.Constants.{to_width, extension}
use Rattle.vl_terms.specs.Bits.{initial_bit}

pub length-to_width : (width : ℕ) (bits : List Value) → length (to_width width bits) ≡ width
length-to_width width bits =
    omega (arith, length-append (replicate (width - length bits) (extension bits)) (drop (length bits - width) bits), length-replicate (width - length bits) (extension bits), length-drop (length bits - width) bits)

-- no other number of bits is one bit
pub no_bit : (bits : List Value) → (length bits ≡ 1 → ⊥) → None ≡ initial_bit bits
no_bit [] h = refl
no_bit (Zero ∷ []) h = absurd (h refl)
no_bit (One ∷ []) h = absurd (h refl)
no_bit (X ∷ []) h = absurd (h refl)
no_bit (Z ∷ []) h = absurd (h refl)
no_bit (v ∷ w ∷ vs) h = refl
