-- Small cases, worked.
use Rattle.std.proofs.Common.{◌≡◌, ℕ, List, [], ◌∷◌, ◌==◌, true, false, Some, None, refl}
use Rattle.std.specs.Prelude.{codes, bytes_eq}
use Rattle.fit_parts.specs.Below.{only_top}
use Rattle.fit_parts.specs.Parts.{Heading, cut_behind}

-- behind each 0, and what is left
pub some_parts : cut_behind (λ n. n == 0) (1 ∷ 0 ∷ 0 ∷ 2 ∷ 3 ∷ []) ≡ (1 ∷ 0 ∷ []) ∷ (0 ∷ []) ∷ (2 ∷ 3 ∷ []) ∷ []
some_parts = refl

pub ended_parts : cut_behind (λ n. n == 0) (1 ∷ 0 ∷ 2 ∷ 0 ∷ []) ≡ (1 ∷ 0 ∷ []) ∷ (2 ∷ 0 ∷ []) ∷ []
ended_parts = refl

abbrev chip : Heading
chip = record { name = Some (codes "chip"); outer = true }

abbrev cell : Heading
cell = record { name = Some (codes "INVX1"); outer = false }

abbrev half : Heading
half = record { name = Some (codes "half"); outer = true }

-- a module that no other uses, beside a cell and one that is used
pub one_top : only_top (λ n. bytes_eq n (codes "half")) (cell ∷ chip ∷ half ∷ []) ≡ Some (codes "chip")
one_top = refl

pub two_tops : only_top (λ n. false) (cell ∷ chip ∷ half ∷ []) ≡ None
two_tops = refl

pub no_top : only_top (λ n. false) (cell ∷ []) ≡ None
no_top = refl
