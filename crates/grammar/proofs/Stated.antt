-- Alternatives are read exactly as a grammar states them.
use Rattle.std.proofs.Common.{◌≡◌, ℕ, Bool, false, List, [], ◌∷◌, Option, Some, None, refl, sym, subst, ap, ◌∙◌, arith, inl, inr}
use Rattle.std.specs.Prelude.{◌||◌}
use Rattle.std.proofs.lemmas.Bool.{or_cases}
use Rattle.grammar.specs.Exact.{Apart, Exact}
use Rattle.grammar.specs.Rule.{Rule, ◌∙∙◌, ◌▸◌, mapped, either, optional, many, quoted, kinds_or}
use Rattle.grammar.specs.Stated.{joined_with, forked, separated_options}
use Rattle.grammar.proofs.Choice.{either-exact}
use Rattle.grammar.proofs.Extents.{Spells-le, starts_so}
use Rattle.grammar.proofs.Many.{many-exact}
use Rattle.grammar.proofs.Mapped.{mapped-exact, quoted-exact}
use Rattle.grammar.proofs.Named.{alike-exact}
use Rattle.grammar.proofs.Optional.{optional-exact}
use Rattle.grammar.proofs.Sequence.{seq-exact}

module _ {T K A B C D : Type 0} (kind : T → K) (f : A × B → D) (g : A × C → D) (a : Rule T K A) (b : Rule T K B) (c : Rule T K C)
    (ea : Exact kind a) (eb : Exact kind b) (ec : Exact kind c) (full_a : a.empty ≡ false) (full_b : b.empty ≡ false) (full_c : c.empty ≡ false)
    (apart : Apart b.starts c.starts) (behind : Apart a.continues (λ k. b.starts k || c.starts k)) where
  abbrev factored : Rule T K D
  factored = mapped (λ x. joined_with f g x.0 x.1) (a ∙∙ either kind (mapped inl b) (mapped inr c))

  factored-exact : Exact kind factored
  factored-exact = mapped-exact kind _ _ (seq-exact kind _ _ ea (either-exact kind _ _ (mapped-exact kind _ _ eb) (mapped-exact kind _ _ ec) full_b full_c apart) behind)

  to_factored : (ts : List T) (i : ℕ) (x : D) (j : ℕ) → (forked kind f g a b c).language.Spells ts i x j → factored.language.Spells ts i x j
  to_factored ts i x j (inl (y, e, (m, s, t))) = ((y.0, inl y.1), e, (m, s, inl (y.1, refl, t)))
  to_factored ts i x j (inr (y, e, (m, s, t))) = ((y.0, inr y.1), e, (m, s, inr (y.1, refl, t)))

  from_factored : (ts : List T) (i : ℕ) (x : D) (j : ℕ) → factored.language.Spells ts i x j → (forked kind f g a b c).language.Spells ts i x j
  from_factored ts i x j (y, e, (m, s, inl (z, is, t))) = inl ((y.0, z), ap (joined_with f g y.0) is ∙ e, (m, s, t))
  from_factored ts i x j (y, e, (m, s, inr (z, is, t))) = inr ((y.0, z), ap (joined_with f g y.0) is ∙ e, (m, s, t))

  begins_factored : (ts : List T) (i j : ℕ) → (forked kind f g a b c).language.Begins ts i j → factored.language.Begins ts i j
  begins_factored ts i j (inl (inl u)) = inl u
  begins_factored ts i j (inl (inr (x, m, s, t))) = inr (x, m, s, inl t)
  begins_factored ts i j (inr (inl u)) = inl u
  begins_factored ts i j (inr (inr (x, m, s, t))) = inr (x, m, s, inr t)

  begun_factored : (ts : List T) (i j : ℕ) → factored.language.Begins ts i j → (forked kind f g a b c).language.Begins ts i j
  begun_factored ts i j (inl u) = inl (inl u)
  begun_factored ts i j (inr (x, m, s, inl t)) = inl (inr (x, m, s, t))
  begun_factored ts i j (inr (x, m, s, inr t)) = inr (inr (x, m, s, t))

  not_empty : factored.empty ≡ false
  not_empty = rw full_a refl

  pub forked-exact : Exact kind (forked kind f g a b c)
  forked-exact = alike-exact kind factored (forked kind f g a b c) factored-exact (λ ts i. refl) to_factored from_factored begins_factored begun_factored not_empty (λ k p. p) (λ k p. p)

module _ {T K A : Type 0} (kind : T → K) (a : Rule T K A) (comma : K → Bool) (ea : Exact kind a) (full : a.empty ≡ false) (apart : Apart a.starts comma) (behind : Apart a.continues comma) where
  abbrev pub part : Rule T K (Option A)
  part = quoted kind comma ▸ optional kind a

  abbrev pub some_first : Rule T K (List (Option A))
  some_first = mapped (λ x. Some x.0 ∷ x.1) (a ∙∙ many kind part)

  abbrev pub none_first : Rule T K (List (Option A))
  none_first = mapped (λ x. None ∷ x.0 ∷ x.1) (part ∙∙ many kind part)

  abbrev pub by_first : Rule T K (List (Option A))
  by_first = either kind some_first none_first

  pub part-exact : Exact kind part
  part-exact = mapped-exact kind _ _ (seq-exact kind _ _ (quoted-exact kind comma) (optional-exact kind a ea full) (λ k p q. absurd cc))

  parts-apart : Apart (λ k. a.continues k || a.starts k) comma
  parts-apart k p q = elim (or_cases (a.continues k) (a.starts k) p) [ inl u ↦ behind k u q | inr u ↦ apart k u q ]

  part-apart : Apart part.continues comma
  part-apart k p q = elim (or_cases (a.continues k || a.starts k) false p) [ inl u ↦ parts-apart k u q | inr u ↦ absurd cc ]

  pub rest-exact : Exact kind (many kind part)
  rest-exact = many-exact kind part part-exact refl part-apart

  starts-apart : Apart some_first.starts comma
  starts-apart = subst (λ (e : Bool). Apart (kinds_or a.starts e part.starts) comma) (sym full) apart

  some_first-full : some_first.empty ≡ false
  some_first-full = rw full refl

  by_first-exact : Exact kind by_first
  by_first-exact =
      either-exact kind some_first none_first (mapped-exact kind _ _ (seq-exact kind _ _ ea rest-exact behind)) (mapped-exact kind _ _ (seq-exact kind _ _ part-exact rest-exact part-apart)) some_first-full refl starts-apart

  abbrev pub listed : Rule T K (List (Option A))
  listed = separated_options kind a comma

  pub to_first : (ts : List T) (i : ℕ) (x : List (Option A)) (j : ℕ) → listed.language.Spells ts i x j → by_first.language.Spells ts i x j
  to_first ts i x j (lt, ((Some y, ys), e, (m, s, t))) = inl ((y, ys), e, (m, s, t))
  to_first ts i x j (lt, ((None, []), e, (m, s, t))) = absurd (omega (arith, lt, s, t))
  to_first ts i x j (lt, ((None, y ∷ ys), e, (m, s, (n, t, u)))) = inr ((y, ys), e, (n, subst (λ (k : ℕ). part.language.Spells ts k y n) s t, u))

  pub from_first : (ts : List T) (i : ℕ) (x : List (Option A)) (j : ℕ) → by_first.language.Spells ts i x j → listed.language.Spells ts i x j
  from_first ts i x j (inl ((y, ys), e, (m, s, t))) =
      let lt = (starts_so kind a ea full ts i y m s).0 in
      let le = Spells-le kind (many kind part) rest-exact ts m ys j t in
      (omega arith, ((Some y, ys), e, (m, s, t)))
  from_first ts i x j (inr ((y, ys), e, (n, s, t))) =
      let lt = (starts_so kind part part-exact refl ts i y n s).0 in
      let le = Spells-le kind (many kind part) rest-exact ts n ys j t in
      (omega arith, ((None, y ∷ ys), e, (i, refl, (n, s, t))))

  begins_first : (ts : List T) (i j : ℕ) → listed.language.Begins ts i j → by_first.language.Begins ts i j
  begins_first ts i j (inl u) = inl (inl u)
  begins_first ts i j (inr (Some y, m, s, t)) = inl (inr (y, m, s, t))
  begins_first ts i j (inr (None, m, s, ([], n, t, u))) = inr (inl (subst (λ (k : ℕ). part.language.Begins ts k j) (t ∙ s) u))
  begins_first ts i j (inr (None, m, s, (y ∷ ys, n, (k, t, v), u))) = inr (inr (y, k, subst (λ (k' : ℕ). part.language.Spells ts k' y k) s t, (ys, n, v, u)))

  begun_first : (ts : List T) (i j : ℕ) → by_first.language.Begins ts i j → listed.language.Begins ts i j
  begun_first ts i j (inl (inl u)) = inl u
  begun_first ts i j (inl (inr (y, m, s, t))) = inr (Some y, m, s, t)
  begun_first ts i j (inr (inl u)) = inr (None, i, refl, ([], i, refl, u))
  begun_first ts i j (inr (inr (y, m, s, (ys, n, t, u)))) = inr (None, i, refl, (y ∷ ys, n, (m, s, t), u))

  pub separated_options-exact : Exact kind listed
  separated_options-exact = alike-exact kind by_first listed by_first-exact (λ ts i. refl) to_first from_first begins_first begun_first refl (λ k p. p) (λ k p. p)
