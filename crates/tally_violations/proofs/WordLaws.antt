-- Words that were kept.
use Rattle.std.proofs.Common.{inl, inr, ℕ, ◌≡◌, ◌+◌, Bool, cond, List, [], ◌∷◌, length, map, nat_lt, refl, ap, sym, take, ◌∙◌}
use Rattle.std.proofs.lemmas.List.{take-map}
use Rattle.std.specs.Prelude.{filter, not}
use Rattle.std.specs.List.{before_first, position_or_len, prefix_len, slice_split}
use Rattle.std.specs.Borrow.{Bor}
use Rattle.std.proofs.lemmas.Bool.{cases_Bool}
use Rattle.tally_violations.specs.Rows.{is_blank, words}

some-parts : (parts : List (Bor (List ℕ))) → map (λ w. w.now) (filter (λ w. nat_lt 0 (length w.now)) parts) ≡ filter (λ w. nat_lt 0 (length w)) (map (λ w. w.now) parts)
some-parts [] = refl
some-parts (w ∷ ws) = elim (cases_Bool (nat_lt 0 (length w.now))) [
  | inl y ↦ rw y (ap (λ x. w.now ∷ x) (some-parts ws))
  | inr n ↦ rw n (some-parts ws)
]

pub words-kept : (row : List ℕ) (new old : List (Bor (List ℕ))) → new ≡ filter (λ w. nat_lt 0 (length w.now)) old → map (λ w. w.now) old ≡ slice_split is_blank row → map (λ w. w.now) new ≡ words row
unfolding words
words-kept row new old e is = ap (map (λ w. w.now)) e ∙ some-parts old ∙ ap (filter (λ w. nat_lt 0 (length w))) is

same_front : (p : List ℕ → Bool) (ws : List (Bor (List ℕ))) → prefix_len (λ w. not (p w.now)) ws ≡ position_or_len p (map (λ w. w.now) ws)
same_front p [] = refl
same_front p (w ∷ ws) = ap (λ n. cond (not (p w.now)) (1 + n) 0) (same_front p ws)

-- the words before the first that passes a test
pub plain_words : (p : List ℕ → Bool) (ws : List (Bor (List ℕ))) (n : ℕ) → n ≡ prefix_len (λ w. not (p w.now)) ws → map (λ w. w.now) (take n ws) ≡ before_first p (map (λ w. w.now) ws)
plain_words p ws n e = sym (take-map (λ (w : Bor (List ℕ)). w.now) n ws) ∙ ap (λ k. take k (map (λ (w : Bor (List ℕ)). w.now) ws)) (e ∙ same_front p ws)
