-- The letters of the longest word that a text begins with.
use Rattle.std.proofs.Common.{◌≡◌, ℕ, ◌+◌, ◌≤◌, List, [], ◌∷◌, length, drop, true, false, refl, sym, ap, ◌∙◌, subst, arith, ◌⊎◌, inl, inr}
use Rattle.std.specs.Prelude.{Option, Some, None, ◌==◌}
use Rattle.std.proofs.lemmas.Bool.{cases_Bool, eqb-true, ne_eqb}
use Rattle.sdf_lex.specs.declared.letters.Letter.{Letter}
use Rattle.sdf_lex.specs.declared.letters.Letter.TheVariants.{Plain, Escaped}
use Rattle.sdf_lex.specs.declared.letters.Ends.{Ends}
use Rattle.sdf_lex.specs.Bytes.{class_of, is_good}
use Rattle.sdf_lex.specs.Words.{written, may_be, with_last}
use Rattle.sdf_lex.specs.PieceBridge.{escaped_letter, next_letter, run_of, bracket_with, measured}

some_same : {A : Type 0} {x y : A} → Some x ≡ Some y → x ≡ y
some_same h = cc

none_some : {A : Type 0} {x : A} → None ≡ Some x → ⊥
none_some h = cc

-- a backslash is no letter of its own
plain_is : (ends : Option Ends) (b : ℕ) (xs : List ℕ) → may_be (class_of b) ends b xs ≡ true → (b == 92) ≡ false
unfolding class_of
plain_is ends b xs h = ne_eqb b 92 (λ e. absurd (impossible (subst (λ c. may_be (class_of c) ends c xs ≡ true) e h)))
  where
    impossible : false ≡ true → ⊥
    impossible e = cc

pub run_plain : (ends : Option Ends) (b : ℕ) (xs : List ℕ) → may_be (class_of b) ends b xs ≡ true
    → run_of ends (b ∷ xs) ≡ Plain b ∷ run_of (Some (with_last ends (Plain b))) xs
run_plain ends b [] h = rw (plain_is ends b [] h, h) refl
run_plain ends b (c ∷ cs) h = rw (plain_is ends b (c ∷ cs) h, h) refl

pub run_escaped : (ends : Option Ends) (c : ℕ) (cs : List ℕ) → is_good (class_of c) ≡ true
    → run_of ends (92 ∷ c ∷ cs) ≡ Escaped c ∷ run_of (Some (with_last ends (Escaped c))) cs
run_escaped ends c cs h = rw h refl

-- ---- step by step

pub escaped_end : (ends : Option Ends) (xs : List ℕ) → escaped_letter xs ≡ None → run_of ends (92 ∷ xs) ≡ []
escaped_end ends [] h = refl
escaped_end ends (c ∷ cs) h = elim (cases_Bool (is_good (class_of c))) [
  | inl y ↦ absurd (none_some (sym (rw y at h)))
  | inr n ↦ rw n refl
]

pub plain_end : (ends : Option Ends) (b : ℕ) (xs : List ℕ) → (b == 92) ≡ false → may_be (class_of b) ends b xs ≡ false → run_of ends (b ∷ xs) ≡ []
plain_end ends b [] e h = rw (e, h) refl
plain_end ends b (c ∷ cs) e h = rw (e, h) refl

pub run_end : (ends : Option Ends) (text : List ℕ) → next_letter ends text ≡ None → run_of ends text ≡ []
run_end ends [] h = refl
run_end ends (b ∷ bs) h = elim (cases_Bool (b == 92)) [
  | inl y ↦ subst (λ c. run_of ends (c ∷ bs) ≡ []) (sym (eqb-true b 92 y)) (escaped_end ends bs (rw y at h))
  | inr n ↦ by n (cases_Bool (may_be (class_of b) ends b bs))
]
  where
    by : (b == 92) ≡ false → (may_be (class_of b) ends b bs ≡ true) ⊎ (may_be (class_of b) ends b bs ≡ false) → run_of ends (b ∷ bs) ≡ []
    by n (inl y) = absurd (none_some (sym (rw (n, y) at h)))
    by n (inr m) = plain_end ends b bs n m

abbrev pub Step : Option Ends → List ℕ → Letter → Type 0
Step ends text l = (run_of ends text ≡ l ∷ run_of (Some (with_last ends l)) (drop (length (written l)) text)) × (length (written l) ≤ length text)

good_step : (ends : Option Ends) (c : ℕ) (cs : List ℕ) (l : Letter) → escaped_letter (c ∷ cs) ≡ Some l → Step ends (92 ∷ c ∷ cs) l
good_step ends c cs l k = elim (cases_Bool (is_good (class_of c))) [
  | inl g ↦
      let same : Escaped c ≡ l = some_same (rw g at k) in
      subst (λ m. Step ends (92 ∷ c ∷ cs) m) same (run_escaped ends c cs g, omega arith)
  | inr n ↦ absurd (none_some (rw n at k))
]

escaped_step : (ends : Option Ends) (xs : List ℕ) (l : Letter) → escaped_letter xs ≡ Some l → Step ends (92 ∷ xs) l
escaped_step ends [] l k = absurd (none_some k)
escaped_step ends (c ∷ cs) l k = good_step ends c cs l k

pub run_step : (ends : Option Ends) (text : List ℕ) (l : Letter) → next_letter ends text ≡ Some l → Step ends text l
run_step ends [] l h = absurd (none_some h)
run_step ends (b ∷ bs) l h = elim (cases_Bool (b == 92)) [
  | inl y ↦ subst (λ x. Step ends (x ∷ bs) l) (sym (eqb-true b 92 y)) (escaped_step ends bs l (rw y at h))
  | inr n ↦ elim (cases_Bool (may_be (class_of b) ends b bs)) [
    | inl y ↦
        let same : Plain b ≡ l = some_same (rw (n, y) at h) in
        subst (λ m. Step ends (b ∷ bs) m) same (run_plain ends b bs y, omega arith)
    | inr m ↦ absurd (none_some (rw (n, m) at h))
  ]
]

-- what is left of a word after a letter
pub step_on : (n : ℕ) (bracket : Option ℕ) (ends : Option Ends) (text rest : List ℕ) (l : Letter) (whole : ℕ × Option ℕ) → next_letter ends text ≡ Some l → rest ≡ drop (length (written l)) text
    → measured n bracket (run_of ends text) ≡ whole → measured (n + length (written l)) (bracket_with l n bracket) (run_of (Some (with_last ends l)) rest) ≡ whole
step_on n bracket ends text rest l whole h e same =
    let s = run_step ends text l h in
    rw e (sym (ap (λ ls. measured n bracket ls) s.0) ∙ same)

pub step_end : (n : ℕ) (bracket : Option ℕ) (ends : Option Ends) (text : List ℕ) (whole : ℕ × Option ℕ) → next_letter ends text ≡ None → measured n bracket (run_of ends text) ≡ whole → whole ≡ (n, bracket)
step_end n bracket ends text whole h same = sym same ∙ ap (λ ls. measured n bracket ls) (run_end ends text h)
