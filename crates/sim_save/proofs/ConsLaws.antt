-- The first and the rest of a list.
use Rattle.std.proofs.Common.{◌≡◌, ℕ, List, ◌∷◌}

pub head_of : {A : Type 0} (a b : A) (as' bs : List A) → a ∷ as' ≡ b ∷ bs → a ≡ b
head_of a b as' bs e = cc

pub tail_of : {A : Type 0} (a b : A) (as' bs : List A) → a ∷ as' ≡ b ∷ bs → as' ≡ bs
tail_of a b as' bs e = cc

-- the same of texts
pub first_byte : (a b : ℕ) (as' bs : List ℕ) → a ∷ as' ≡ b ∷ bs → a ≡ b
first_byte a b as' bs e = cc

pub other_bytes : (a b : ℕ) (as' bs : List ℕ) → a ∷ as' ≡ b ∷ bs → as' ≡ bs
other_bytes a b as' bs e = cc
