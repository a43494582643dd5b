-- A set of names, when one more is put in.
use Rattle.std.specs.Prelude.{◌≡◌, ℕ, List, [], ◌∷◌, ◌++◌, Bool, true, false, ◌||◌, bytes_eq, if◌then◌else◌, refl}
use Rattle.std.specs.Borrow.{Bor}
use Rattle.std.proofs.Common.{◌∙◌, ap}
use Rattle.std.proofs.lemmas.List.Folds.{list_any-append}
use Rattle.std.proofs.lemmas.Slice.Eq.{bytes_eq-Decides}
use Rattle.fit_inside.specs.Seen.{is_kept}

or-again : (a b : Bool) → (b ≡ true → a ≡ true) → a ≡ (a || (b || false))
or-again true b h = refl
or-again false true h = let e = h refl in cc
or-again false false h = refl

pub put-in : (n : List ℕ) (keys after : List (Bor (List ℕ))) (k : Bor (List ℕ)) → after ≡ (if is_kept k.now keys then keys else keys ++ k ∷ []) → is_kept n after ≡ (is_kept n keys || (bytes_eq n k.now || false))
put-in n keys after k e = by (is_kept k.now keys) refl
  where
    same : is_kept k.now keys ≡ true → bytes_eq n k.now ≡ true → is_kept n keys ≡ true
    same t h = let is : n ≡ k.now = (bytes_eq-Decides n k.now).0 h in ap (λ m. is_kept m keys) is ∙ t

    by : (b : Bool) → is_kept k.now keys ≡ b → is_kept n after ≡ (is_kept n keys || (bytes_eq n k.now || false))
    by true t = ap (is_kept n) (e ∙ ap (λ b. if b then keys else keys ++ k ∷ []) t) ∙ or-again (is_kept n keys) (bytes_eq n k.now) (same t)
    by false t = ap (is_kept n) (e ∙ ap (λ b. if b then keys else keys ++ k ∷ []) t) ∙ list_any-append (λ y. bytes_eq n y.now) keys (k ∷ [])
