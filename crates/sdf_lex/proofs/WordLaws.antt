-- The longest word that a text begins with is its letters'.
use Rattle.std.proofs.Common.{◌≡◌, ℕ, ◌+◌, ◌<◌, List, [], ◌∷◌, ◌++◌, length, true, false, refl, sym, ap, ◌∙◌, subst, arith, inl, inr}
use Rattle.std.specs.Prelude.{Option, Some, None, ◌==◌}
use Rattle.std.proofs.lemmas.Bool.{cases_Bool, eqb-true}
use Rattle.std.proofs.lemmas.List.{length-append, append_assoc}
use Rattle.sdf_lex.specs.declared.letters.Letter.{Letter}
use Rattle.sdf_lex.specs.declared.letters.Letter.TheVariants.{Plain, Escaped}
use Rattle.sdf_lex.specs.declared.letters.Ends.{Ends}
use Rattle.sdf_lex.specs.Bytes.{class_of, is_good}
use Rattle.sdf_lex.specs.Words.{written, spelled, is_bracket, may_be, with_last, Fits, Cut, cut_with, last_cut}
use Rattle.sdf_lex.specs.PieceBridge.{run_of, bracket_with, measured, bracket_at}
use Rattle.sdf_lex.proofs.RunLaws.{run_plain, run_escaped}

-- ---- the letters that go on a word spell a front of the text

pub record IsRun (ends : Option Ends) (ls : List Letter) (text : List ℕ) : Type 0 where
  pub after : List ℕ
  pub spells : spelled ls ++ after ≡ text
  pub fits : Fits ends ls after

no_more : (ends : Option Ends) (text : List ℕ) → IsRun ends [] text
no_more ends text = record { after = text; spells = refl; fits = tt }

plain_more : (ends : Option Ends) (b : ℕ) (ls : List Letter) (xs : List ℕ) → may_be (class_of b) ends b xs ≡ true
    → IsRun (Some (with_last ends (Plain b))) ls xs → IsRun ends (Plain b ∷ ls) (b ∷ xs)
plain_more ends b ls xs h r = record {
  after = r.after;
  spells = ap (λ ys. b ∷ ys) r.spells;
  fits = (subst (λ ys. may_be (class_of b) ends b ys ≡ true) (sym r.spells) h, r.fits);
}

escaped_more : (ends : Option Ends) (c : ℕ) (ls : List Letter) (xs : List ℕ) → is_good (class_of c) ≡ true
    → IsRun (Some (with_last ends (Escaped c))) ls xs → IsRun ends (Escaped c ∷ ls) (92 ∷ c ∷ xs)
escaped_more ends c ls xs h r = record {
  after = r.after;
  spells = ap (λ ys. 92 ∷ c ∷ ys) r.spells;
  fits = (h, r.fits);
}

pub run_stands : (ends : Option Ends) (text : List ℕ) → IsRun ends (run_of ends text) text
run_stands ends [] = no_more ends []
run_stands ends (b ∷ []) = elim (cases_Bool (b == 92)) [
  | inl y ↦ rw y (no_more ends (b ∷ []))
  | inr n ↦ elim (cases_Bool (may_be (class_of b) ends b [])) [
    | inl m ↦ rw (n, m) (plain_more ends b [] [] m (no_more (Some (with_last ends (Plain b))) []))
    | inr m ↦ rw (n, m) (no_more ends (b ∷ []))
  ]
]
run_stands ends (b ∷ c ∷ cs) = elim (cases_Bool (b == 92)) [
  | inl y ↦ elim (cases_Bool (is_good (class_of c))) [
    | inl g ↦
        let r = escaped_more ends c (run_of (Some (with_last ends (Escaped c))) cs) cs g (run_stands (Some (with_last ends (Escaped c))) cs) in
        let moved : IsRun ends (Escaped c ∷ run_of (Some (with_last ends (Escaped c))) cs) (b ∷ c ∷ cs) = subst (λ x. IsRun ends (Escaped c ∷ run_of (Some (with_last ends (Escaped c))) cs) (x ∷ c ∷ cs)) (sym (eqb-true b 92 y)) r in
        rw (y, g) moved
    | inr g ↦ rw (y, g) (no_more ends (b ∷ c ∷ cs))
  ]
  | inr n ↦ elim (cases_Bool (may_be (class_of b) ends b (c ∷ cs))) [
    | inl m ↦ rw (n, m) (plain_more ends b (run_of (Some (with_last ends (Plain b))) (c ∷ cs)) (c ∷ cs) m (run_stands (Some (with_last ends (Plain b))) (c ∷ cs)))
    | inr m ↦ rw (n, m) (no_more ends (b ∷ c ∷ cs))
  ]
]

-- ---- and no word is longer

pub run_front : (ends : Option Ends) (ls : List Letter) (after : List ℕ) → Fits ends ls after → (more : List Letter) × (run_of ends (spelled ls ++ after) ≡ ls ++ more)
run_front ends [] after f = (run_of ends after, refl)
run_front ends (Plain b ∷ ls) after f =
    let r = run_front (Some (with_last ends (Plain b))) ls after f.1 in
    (r.0, run_plain ends b (spelled ls ++ after) f.0 ∙ ap (λ ms. Plain b ∷ ms) r.1)
run_front ends (Escaped c ∷ ls) after f =
    let r = run_front (Some (with_last ends (Escaped c))) ls after f.1 in
    (r.0, run_escaped ends c (spelled ls ++ after) f.0 ∙ ap (λ ms. Escaped c ∷ ms) r.1)

pub spelled-append : (ls ms : List Letter) → spelled (ls ++ ms) ≡ spelled ls ++ spelled ms
spelled-append [] ms = refl
spelled-append (Plain b ∷ ls) ms = ap (λ xs. b ∷ xs) (spelled-append ls ms)
spelled-append (Escaped b ∷ ls) ms = ap (λ xs. 92 ∷ b ∷ xs) (spelled-append ls ms)

pub some_bytes : (l : Letter) (ls : List Letter) → 0 < length (spelled (l ∷ ls))
some_bytes (Plain b) ls = omega arith
some_bytes (Escaped b) ls = omega arith

-- ---- its size, and its last bracket

-- where the cut's bracket stands behind n bytes, or else the bracket before
abbrev pub bracket_behind : ℕ → Option ℕ → Option Cut → Option ℕ
bracket_behind n before None = before
bracket_behind n before (Some c) = Some (n + length (spelled c.name))

bracket_step : (n : ℕ) (before : Option ℕ) (l : Letter) (ls : List Letter) (o : Option Cut)
    → bracket_behind (n + length (written l)) (bracket_with l n before) o ≡ bracket_behind n before (cut_with l ls o)
bracket_step n before l ls (Some c) = ap (λ k. Some k) (omega (arith, length-append (written l) (spelled c.name)))
bracket_step n before l ls None = elim (cases_Bool (is_bracket l)) [
  | inl y ↦ rw y (ap (λ k. Some k) (omega arith))
  | inr m ↦ rw m refl
]

pub measured_is : (n : ℕ) (before : Option ℕ) (ls : List Letter) → measured n before ls ≡ (n + length (spelled ls), bracket_behind n before (last_cut ls))
measured_is n before [] = ap (λ (k : ℕ). (k, before)) (omega arith)
measured_is n before (l ∷ ls) =
    let size : (n + length (written l)) + length (spelled ls) ≡ n + length (written l ++ spelled ls) = omega (arith, length-append (written l) (spelled ls)) in
    measured_is (n + length (written l)) (bracket_with l n before) ls ∙ rw (size, bracket_step n before l ls (last_cut ls)) refl

first_bracket : (o : Option Cut) → bracket_behind 0 None o ≡ bracket_at o
first_bracket None = refl
first_bracket (Some c) = ap (λ k. Some k) (omega arith)

pub word_is : (ls : List Letter) → measured 0 None ls ≡ (length (spelled ls), bracket_at (last_cut ls))
word_is ls =
    let size : 0 + length (spelled ls) ≡ length (spelled ls) = omega arith in
    measured_is 0 None ls ∙ rw (size, first_bracket (last_cut ls)) refl

-- the bytes of a cut word
bracket_spelled : (l : Letter) → is_bracket l ≡ true → written l ≡ 91 ∷ []
bracket_spelled (Plain b) h = ap (λ x. x ∷ []) (eqb-true b 91 h)
bracket_spelled (Escaped b) h = absurd (no_bracket h)
  where
    no_bracket : false ≡ true → ⊥
    no_bracket e = cc

some_cut : {x y : Cut} → Some x ≡ Some y → x ≡ y
some_cut h = cc

no_cut : {x : Cut} → None ≡ Some x → ⊥
no_cut h = cc

abbrev pub Parts : Letter → List Letter → Cut → Type 0
Parts l ls d = written l ++ spelled ls ≡ spelled d.name ++ 91 ∷ spelled d.behind

pub cut_spelled : (ls : List Letter) (c : Cut) → last_cut ls ≡ Some c → spelled ls ≡ spelled c.name ++ 91 ∷ spelled c.behind
cut_spelled [] c h = absurd (no_cut h)
cut_spelled (l ∷ ls) c h = by (last_cut ls) refl (λ d e. cut_spelled ls d e)
  where
    further : (d : Cut) → spelled ls ≡ spelled d.name ++ 91 ∷ spelled d.behind → Parts l ls (record { name = l ∷ d.name; behind = d.behind })
    further d e = ap (λ xs. written l ++ xs) e ∙ sym (append_assoc (written l) (spelled d.name) (91 ∷ spelled d.behind))

    here : is_bracket l ≡ true → Parts l ls (record { name = []; behind = ls })
    here y = ap (λ xs. xs ++ spelled ls) (bracket_spelled l y)

    by : (o : Option Cut) → last_cut ls ≡ o → ((d : Cut) → last_cut ls ≡ Some d → spelled ls ≡ spelled d.name ++ 91 ∷ spelled d.behind) → Parts l ls c
    by (Some d) e below = subst (λ x. Parts l ls x) (some_cut (rw e at h)) (further d (below d e))
    by None e below = elim (cases_Bool (is_bracket l)) [
      | inl y ↦ subst (λ x. Parts l ls x) (some_cut (rw (e, y) at h)) (here y)
      | inr n ↦ absurd (no_cut (rw (e, n) at h))
    ]
