-- One number more.
use Rattle.std.specs.Prelude.{◌≡◌, ℕ, suc, ◌<◌, List, ◌∷◌, Option, None, length, slice_index_or}
use Rattle.std.proofs.Common.{◌∙◌, ap, drop, drop-cons}
use Rattle.elab_laws.specs.Handing.{new_count}

-- a bit that is given none takes one
pub takes-one : (given : List (Option ℕ)) (i : ℕ) → i < length given → slice_index_or given i None ≡ None → new_count (drop i given) ≡ suc (new_count (drop (suc i) given))
takes-one given i lt e = ap new_count (drop-cons given i None lt) ∙ ap (λ o. new_count (o ∷ drop (suc i) given)) e
