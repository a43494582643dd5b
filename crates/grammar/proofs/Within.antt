-- What one rule says of a few tokens another says too: this passes through each way of building.
use Rattle.std.proofs.Common.{◌≡◌, ℕ, suc, ◌+◌, ◌≤◌, Bool, false, List, [], ◌∷◌, length, Option, Some, None, refl, subst, arith, inl, inr}
use Rattle.std.proofs.lemmas.Bool.{cases_lt, both_ways}
use Rattle.std.proofs.lemmas.Option.{slice_get_past}
use Rattle.grammar.specs.Exact.{Exact}
use Rattle.grammar.specs.Language.{SpellsMany, SpellsOptional}
use Rattle.grammar.specs.Rule.{Rule, stands, ◌∙∙◌, mapped, located, either, optional, many, named}
use Rattle.grammar.specs.Depth.{Within}
use Rattle.grammar.proofs.Extents.{Begins-le, Spells-le, SpellsMany-le, starts_so}

pub same_within : {T K A : Type 0} (few : ℕ) (r : Rule T K A) → Within few r r
same_within few r = record { spells = λ ts i x j le s. s; begins = λ ts i j le b. b }

pub mapped_within : {T K A B : Type 0} (few : ℕ) (f : A → B) (a b : Rule T K A) → Within few a b → Within few (mapped f a) (mapped f b)
mapped_within few f a b w = record { spells = λ ts i y j le s. (s.0, s.1, w.spells ts i s.0 j le s.2); begins = w.begins }

pub located_within : {T K A : Type 0} (few : ℕ) (a b : Rule T K A) → Within few a b → Within few (located a) (located b)
located_within few a b w = record { spells = λ ts i y j le s. (s.0, w.spells ts i y.1 j le s.1); begins = w.begins }

pub named_within : {T K A : Type 0} (few : ℕ) (S C S' C' : K → Bool) (a b : Rule T K A) → Within few a b → Within few (named S C a) (named S' C' b)
named_within few S C S' C' a b w = record { spells = w.spells; begins = w.begins }

pub optional_within : {T K A : Type 0} (kind : T → K) (few : ℕ) (a b : Rule T K A) → Within few a b → Within few (optional kind a) (optional kind b)
optional_within {T} {K} {A} kind few a b w = record { spells = go; begins = w.begins }
  where
    go : (ts : List T) (i : ℕ) (o : Option A) (j : ℕ) → j ≤ i + few → SpellsOptional a.language ts i o j → SpellsOptional b.language ts i o j
    go ts i None j le s = s
    go ts i (Some x) j le s = w.spells ts i x j le s

pub either_within : {T K A : Type 0} (kind : T → K) (few : ℕ) (a a' b b' : Rule T K A) → Within few a a' → Within few b b' → Within few (either kind a b) (either kind a' b')
either_within kind few a a' b b' v w = record {
  spells = λ ts i x j le s. elim s [ inl u ↦ inl (v.spells ts i x j le u) | inr u ↦ inr (w.spells ts i x j le u) ];
  begins = λ ts i j le g. elim g [ inl u ↦ inl (v.begins ts i j le u) | inr u ↦ inr (w.begins ts i j le u) ];
}

pub seq_within : {T K A B : Type 0} (kind : T → K) (few : ℕ) (a a' : Rule T K A) (b b' : Rule T K B) → Exact kind a → Exact kind b → Within few a a' → Within few b b' → Within few (a ∙∙ b) (a' ∙∙ b')
seq_within kind few a a' b b' ea eb v w = record {
  spells = λ ts i x j le s.
      let lo = Spells-le kind a ea ts i x.0 s.0 s.1 in
      let hi = Spells-le kind b eb ts s.0 x.1 j s.2 in
      (s.0, v.spells ts i x.0 s.0 (omega arith) s.1, w.spells ts s.0 x.1 j (omega arith) s.2);
  begins = λ ts i j le g. elim g [
    | inl u ↦ inl (v.begins ts i j le u)
    | inr u ↦
        let lo = Spells-le kind a ea ts i u.0 u.1 u.2 in
        let hi = Begins-le kind b eb ts u.1 j u.3 in
        inr (u.0, u.1, v.spells ts i u.0 u.1 (omega arith) u.2, w.begins ts u.1 j (omega arith) u.3)
  ];
}

-- behind a part that has a token one token less is left
pub behind_within : {T K A B : Type 0} (kind : T → K) (few : ℕ) (a : Rule T K A) (b b' : Rule T K B) → Exact kind a → a.empty ≡ false → Within few b b' → Within (suc few) (a ∙∙ b) (a ∙∙ b')
behind_within kind few a b b' ea full w = record {
  spells = λ ts i x j le s.
      let lt = (starts_so kind a ea full ts i x.0 s.0 s.1).0 in
      (s.0, s.1, w.spells ts s.0 x.1 j (omega arith) s.2);
  begins = λ ts i j le g. elim g [
    | inl u ↦ inl u
    | inr u ↦
        let lt = (starts_so kind a ea full ts i u.0 u.1 u.2).0 in
        inr (u.0, u.1, u.2, w.begins ts u.1 j (omega arith) u.3)
  ];
}

module _ {T K A : Type 0} (kind : T → K) (few : ℕ) (a b : Rule T K A) (ea : Exact kind a) (w : Within few a b) where
  parts : (ts : List T) (i : ℕ) (xs : List A) (j : ℕ) → j ≤ i + few → SpellsMany a.language ts i xs j → SpellsMany b.language ts i xs j
  parts ts i [] j le s = s
  parts ts i (x ∷ xs) j le s =
      let lo = Spells-le kind a ea ts i x s.0 s.1 in
      let hi = SpellsMany-le kind a ea ts s.0 xs j s.2 in
      (s.0, w.spells ts i x s.0 (omega arith) s.1, parts ts s.0 xs j (omega arith) s.2)

  pub many_within : Within few (many kind a) (many kind b)
  many_within = record {
    spells = parts;
    begins = λ ts i j le g.
        let lo = SpellsMany-le kind a ea ts i g.0 g.1 g.2 in
        let hi = Begins-le kind a ea ts g.1 j g.3 in
        (g.0, g.1, parts ts i g.0 g.1 (omega arith) g.2, w.begins ts g.1 j (omega arith) g.3);
  }

-- of no token rules that aren't empty say the same
pub none_within : {T K A : Type 0} (kind : T → K) (r q : Rule T K A) → Exact kind r → Exact kind q → r.empty ≡ false → Within 0 r q
none_within kind r q er eq full = record {
  spells = λ ts i x j le s. absurd (omega (arith, le, (starts_so kind r er full ts i x j s).0));
  begins = λ ts i j le b. subst (λ (m : ℕ). q.language.Begins ts i m) (let e : i ≡ j = omega (arith, le, Begins-le kind r er ts i j b) in e) (q_begins ts i);
}
  where
    q_begins : (ts : List _) (i : ℕ) → q.language.Begins ts i i
    q_begins ts i = eq.nothing ts i

-- what begins a rule takes no more tokens than there are
pub Begins-few : {T K A : Type 0} (kind : T → K) (r : Rule T K A) → Exact kind r → (ts : List T) (i j : ℕ) → r.language.Begins ts i j → j ≤ i + length ts
Begins-few kind r er ts i j b = elim (cases_lt (length ts) i) [
  | inl past ↦ elim (er.first ts i j b) [
    | inl e ↦ omega (arith, e)
    | inr p ↦ absurd (both_ways (stands kind r.starts ts i) (rw (slice_get_past ts i (omega arith)) refl) p.1)
  ]
  | inr le ↦ omega (arith, er.within ts i j b (omega arith))
]
