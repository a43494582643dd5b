-- The numbers of the things in a list that pass a test.
use Rattle.std.proofs.Common.{◌≡◌, ◌∙◌, sym, ap, refl, ℕ, zero, suc, ◌+◌, ◌<◌, List, [], ◌∷◌, ◌++◌, length, get_or, map, arith, add-zero}
use Rattle.std.specs.Prelude.{Bool, true, false, ◌||◌, if◌then◌else◌, All, flat_map, replicate}
use Rattle.std.specs.List.{list_any}
use Rattle.std.proofs.lemmas.List.Elements.{All-head, All-tail}
use Rattle.wave_out.specs.Marks.{trues}
use Rattle.wave_out.specs.Texts.{by_number}

-- the numbers of the things that pass a test, of things numbered from k
abbrev pub kept : (List ℕ → Bool) → ℕ → List (List ℕ) → List ℕ
kept t k [] = []
kept t k (b ∷ bs) = if t b then (k ∷ kept t (suc k) bs) else kept t (suc k) bs

-- they are the marks of these things, and of empty ones behind them, which don't pass
none_kept : (t : List ℕ → Bool) (k n : ℕ) → t [] ≡ false → trues k (map t (replicate n [])) ≡ []
none_kept t k zero none = refl
none_kept t k (suc n) none = ap (λ b. if b then (k ∷ trues (suc k) (map t (replicate n []))) else trues (suc k) (map t (replicate n []))) none ∙ none_kept t (suc k) n none

pub marks_kept : (t : List ℕ → Bool) (k n : ℕ) (bs : List (List ℕ)) → t [] ≡ false → trues k (map t (bs ++ replicate n [])) ≡ kept t k bs
marks_kept t k n [] none = none_kept t k n none
marks_kept t k n (b ∷ bs) none = ap (λ ks. if t b then (k ∷ ks) else ks) (marks_kept t (suc k) n bs none)

-- two tests that agree
pub kept_same : (t u : List ℕ → Bool) (k : ℕ) (bs : List (List ℕ)) → All (λ b. t b ≡ u b) bs → kept t k bs ≡ kept u k bs
kept_same t u k [] h = refl
kept_same t u k (b ∷ bs) h =
    ap (λ c. if c then (k ∷ kept t (suc k) bs) else kept t (suc k) bs) (All-head (λ c. t c ≡ u c) b bs h)
    ∙ ap (λ ks. if u b then (k ∷ ks) else ks) (kept_same t u (suc k) bs (All-tail (λ c. t c ≡ u c) b bs h))

-- their texts
pub kept_texts : (f : ℕ → List ℕ → List ℕ) (t : List ℕ → Bool) (all : List (List ℕ)) (k : ℕ) (bs : List (List ℕ)) → ((i : ℕ) → i < length bs → get_or all (k + i) [] ≡ get_or bs i [])
    → flat_map (λ j. f j (get_or all j [])) (kept t k bs) ≡ by_number (λ j b. if t b then f j b else []) k bs
kept_texts f t all k [] h = refl
kept_texts f t all k (b ∷ bs) h =
    let one : get_or all k [] ≡ b = ap (λ n. get_or all n []) (sym (add-zero k)) ∙ h 0 (omega arith) in
    let rest : flat_map (λ j. f j (get_or all j [])) (kept t (suc k) bs) ≡ by_number (λ j c. if t c then f j c else []) (suc k) bs = kept_texts f t all (suc k) bs
    (λ i l. ap (λ n. get_or all n []) (let e : suc k + i ≡ k + suc i = omega arith in e) ∙ h (suc i) (omega arith)) in
    elim (t b) as (λ c. flat_map (λ j. f j (get_or all j [])) (if c then (k ∷ kept t (suc k) bs) else kept t (suc k) bs) ≡ (if c then f k b else []) ++ by_number (λ j d. if t d then f j d else []) (suc k) bs) [
      | true ↦ ap (λ x. f k x ++ flat_map (λ j. f j (get_or all j [])) (kept t (suc k) bs)) one ∙ ap (λ ys. f k b ++ ys) rest
      | false ↦ rest
    ]

-- whether there are any
pub kept_some : (t : List ℕ → Bool) (k : ℕ) (bs : List (List ℕ)) (x : ℕ) (xs : List ℕ) → kept t k bs ≡ x ∷ xs → list_any t bs ≡ true
kept_some t k [] x xs e = absurd (cc)
kept_some t k (b ∷ bs) x xs e = (elim (t b) as (λ c. (if c then (k ∷ kept t (suc k) bs) else kept t (suc k) bs) ≡ x ∷ xs → c || list_any t bs ≡ true) [
  | true ↦ λ h. refl
  | false ↦ λ h. kept_some t (suc k) bs x xs h
]) e

pub kept_nothing : (t : List ℕ → Bool) (k : ℕ) (bs : List (List ℕ)) → kept t k bs ≡ [] → list_any t bs ≡ false
kept_nothing t k [] e = refl
kept_nothing t k (b ∷ bs) e = (elim (t b) as (λ c. (if c then (k ∷ kept t (suc k) bs) else kept t (suc k) bs) ≡ [] → c || list_any t bs ≡ false) [
  | true ↦ λ h. absurd (cc)
  | false ↦ λ h. kept_nothing t (suc k) bs h
]) e
