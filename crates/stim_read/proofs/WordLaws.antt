-- Words that were kept.
use Rattle.std.proofs.Common.{inl, inr, ℕ, ◌≡◌, List, [], ◌∷◌, length, map, nat_lt, refl, ap, ◌∙◌}
use Rattle.std.specs.Prelude.{filter}
use Rattle.std.specs.List.{slice_split}
use Rattle.std.specs.Borrow.{Bor}
use Rattle.std.proofs.lemmas.Bool.{cases_Bool}
use Rattle.stim_read.specs.Lines.{is_blank, words}

some-parts : (parts : List (Bor (List ℕ))) → map (λ w. w.now) (filter (λ w. nat_lt 0 (length w.now)) parts) ≡ filter (λ w. nat_lt 0 (length w)) (map (λ w. w.now) parts)
some-parts [] = refl
some-parts (w ∷ ws) = elim (cases_Bool (nat_lt 0 (length w.now))) [
  | inl y ↦ rw y (ap (λ x. w.now ∷ x) (some-parts ws))
  | inr n ↦ rw n (some-parts ws)
]

pub words-kept : (line : List ℕ) (new old : List (Bor (List ℕ))) → new ≡ filter (λ w. nat_lt 0 (length w.now)) old → map (λ w. w.now) old ≡ slice_split is_blank line → map (λ w. w.now) new ≡ words line
unfolding words
words-kept line new old e is = ap (map (λ w. w.now)) e ∙ some-parts old ∙ ap (filter (λ w. nat_lt 0 (length w))) is
