-- How deep the parentheses of a written file nest.
use Rattle.std.specs.Prelude.{◌≡◌, ℕ, zero, suc, ◌+◌, ◌-◌, ◌≤◌, ◌==◌, ◌⊎◌, ℤ, Bool, true, false, List, [], ◌∷◌, ◌++◌, flat_map, Option, Some, None, if◌then◌else◌}
use Rattle.std.specs.List.{AllByRecursion}
use Rattle.std.proofs.Common.{refl, sym, ap, subst, ◌∙◌, inl, inr, arith}
use Rattle.std.proofs.Math.Nat.{le-max_left, le-max_right}
use Rattle.cond_expr.specs.declared.scan.Phase.{Phase}
use Rattle.cond_expr.specs.declared.scan.Phase.TheVariants.{Operand, Name, Whole}
use Rattle.cond_expr.specs.declared.tokens.Tok.TheVariants as tok
use Rattle.cond_expr.specs.Grammar.{IsCondition}
use Rattle.cond_expr.specs.Kinds.{Kind, name_kind, index_kind, constant_kind, left_kind, right_kind, operator_kind, kind_of, is_left, is_right, is_prefix, precedence}
use Rattle.cond_expr.specs.ScanSteps.{Next, step}
use Rattle.cond_expr.specs.Token.{Tok}
use Rattle.cond_expr.proofs.AnyDepth.{verdict_is}
use Rattle.cond_expr.proofs.Scanning.{scan, at_end, go_on}
use Rattle.sdf_lex.specs.Tokens.{Meaning, select_token, operator_token, left_token, right_token}
use Rattle.sdf_read.specs.Depth.{depth_behind}
use Rattle.written_model.specs.Faults.{depth_from}
use Rattle.written_model.specs.Names.{name_text}
use Rattle.written_reading.specs.Meanings.{index_in_front, name_meaning, token_meaning, words_meanings}
use Rattle.written_reading.proofs.EntryTokens.{IsGoodWords}

-- ---- tokens that open no parenthesis too many

-- 32 are open at the most, where so many are open before
abbrev pub AreShallow : ℕ → List Meaning → Type 0
AreShallow depth [] = Unit {0}
AreShallow depth (m ∷ ms) = (depth_behind depth m ≤ 32) × AreShallow (depth_behind depth m) ms

abbrev pub open_behind : ℕ → List Meaning → ℕ
open_behind depth [] = depth
open_behind depth (m ∷ ms) = open_behind (depth_behind depth m) ms

shallow_append : (d : ℕ) (ms ns : List Meaning) → AreShallow d ms → AreShallow (open_behind d ms) ns → AreShallow d (ms ++ ns)
shallow_append d [] ns h k = k
shallow_append d (m ∷ ms) ns h k = (h.0, shallow_append (depth_behind d m) ms ns h.1 k)

behind_append : (d : ℕ) (ms ns : List Meaning) → open_behind d (ms ++ ns) ≡ open_behind (open_behind d ms) ns
behind_append d [] ns = refl
behind_append d (m ∷ ms) ns = behind_append (depth_behind d m) ms ns

-- So many are opened at the most, and all that are opened are closed.
pub record Nests (n : ℕ) (ms : List Meaning) : Type 0 where
  pub shallow : (d : ℕ) → d + n ≤ 32 → AreShallow d ms
  pub closed : (d : ℕ) → d + n ≤ 32 → open_behind d ms ≡ d

pub none_nest : (n : ℕ) → Nests n []
none_nest n = record { shallow = λ d l. tt; closed = λ d l. refl }

pub nest_both : (n : ℕ) (ms ns : List Meaning) → Nests n ms → Nests n ns → Nests n (ms ++ ns)
nest_both n ms ns h k = record {
  shallow = λ d l. shallow_append d ms ns (h.shallow d l) (subst (λ (e : ℕ). AreShallow e ns) (sym (h.closed d l)) (k.shallow d l));
  closed = λ d l. behind_append d ms ns ∙ (ap (λ (e : ℕ). open_behind e ns) (h.closed d l) ∙ k.closed d l);
}

pub nest_deeper : (n k : ℕ) (ms : List Meaning) → n ≤ k → Nests n ms → Nests k ms
nest_deeper n k ms le h = record { shallow = λ d l. h.shallow d (omega (arith, l, le)); closed = λ d l. h.closed d (omega (arith, l, le)) }

pub nest_plain : (n : ℕ) (m : Meaning) (ms : List Meaning) → ((d : ℕ) → depth_behind d m ≡ d) → Nests n ms → Nests n (m ∷ ms)
nest_plain n m ms e h = record {
  shallow = λ d l. ((let f = e d in omega (arith, f, l)), subst (λ (k : ℕ). AreShallow k ms) (sym (e d)) (h.shallow d l));
  closed = λ d l. ap (λ (k : ℕ). open_behind k ms) (e d) ∙ h.closed d l;
}

-- in parentheses
pub nest_in : (n : ℕ) (ms : List Meaning) → Nests n ms → Nests (suc n) (left_token ∷ (ms ++ right_token ∷ []))
nest_in n ms h = record {
  shallow = λ d l.
      let inside : suc d + n ≤ 32 = omega (arith, l) in
      ((let k : suc d ≤ 32 = omega (arith, l) in k), shallow_append (suc d) ms (right_token ∷ []) (h.shallow (suc d) inside) (subst (λ (k : ℕ). AreShallow k (right_token ∷ [])) (sym (h.closed (suc d) inside)) ((let k : suc d - 1 ≤ 32 = omega (arith, l) in k), tt)));
  closed = λ d l.
      let inside : suc d + n ≤ 32 = omega (arith, l) in
      behind_append (suc d) ms (right_token ∷ []) ∙ (ap (λ (k : ℕ). k - 1) (h.closed (suc d) inside) ∙ (let k : suc d - 1 ≡ d = omega arith in k));
}

pub nest_each : {A : Type 0} (n : ℕ) (piece : A → List Meaning) (xs : List A) → AllByRecursion (λ x. Nests n (piece x)) xs → Nests n (flat_map piece xs)
nest_each n piece [] h = none_nest n
nest_each n piece (x ∷ xs) h = nest_both n (piece x) (flat_map piece xs) h.0 (nest_each n piece xs h.1)

pub nest_all : {A : Type 0} (n : ℕ) (piece : A → List Meaning) → ((x : A) → Nests n (piece x)) → (xs : List A) → Nests n (flat_map piece xs)
nest_all n piece h [] = none_nest n
nest_all n piece h (x ∷ xs) = nest_both n (piece x) (flat_map piece xs) (h x) (nest_all n piece h xs)

-- ---- conditions

depth_least : (u : ℕ) (ts : List Tok) → u ≤ depth_from u ts
depth_least u [] = omega arith
depth_least u (tok.Left ∷ ts) = let h = depth_least (suc u) ts in omega (arith, h)
depth_least u (tok.Right ∷ ts) = le-max_left u (depth_from (u - 1) ts)
depth_least u (tok.Name n ∷ ts) = depth_least u ts
depth_least u (tok.Index i ∷ ts) = depth_least u ts
depth_least u (tok.Const v ∷ ts) = depth_least u ts
depth_least u (tok.Op o ∷ ts) = depth_least u ts

-- so many parentheses stay open behind a token that is none
abbrev Stays : ℕ → Next → Type 0
Stays u n = (n ≡ None) ⊎ ((q : Phase) × (n ≡ Some (u, q)))

by_test : (u : ℕ) (b : Bool) (p : Phase) → Stays u (if b then Some (u, p) else None)
by_test u true p = inr (p, refl)
by_test u false p = inl refl

by_other : (u : ℕ) (b : Bool) (p : Phase) → Stays u (if b then None else Some (u, p))
by_other u true p = inl refl
by_other u false p = inr (p, refl)

stays : (u : ℕ) (p : Phase) (k : Kind) → is_left k ≡ false → is_right k ≡ false → Stays u (step u p k)
stays u p left_kind l r = absurd cc
stays u p right_kind l r = absurd cc
stays u Operand name_kind l r = inr (Name, refl)
stays u Operand index_kind l r = inl refl
stays u Operand constant_kind l r = inr (Whole, refl)
stays u Operand (operator_kind o) l r = by_test u (is_prefix o) Operand
stays u Name name_kind l r = inl refl
stays u Name index_kind l r = inr (Whole, refl)
stays u Name constant_kind l r = inl refl
stays u Name (operator_kind o) l r = by_other u (precedence o == 0) Operand
stays u Whole name_kind l r = inl refl
stays u Whole index_kind l r = inl refl
stays u Whole constant_kind l r = inl refl
stays u Whole (operator_kind o) l r = by_other u (precedence o == 0) Operand

none_some : (i : ℕ) → ◌≡◌ {A = Option ℕ} (Some i) None → ⊥
none_some i e = cc

all_closed : (u i : ℕ) (p : Phase) → at_end u p i ≡ None → u ≡ 0
all_closed zero i p e = refl
all_closed (suc u) i Operand e = absurd (none_some i e)
all_closed (suc u) i Name e = absurd (none_some i e)
all_closed (suc u) i Whole e = absurd (none_some i e)

-- so many are open below the condition, and so many more in it
record WordsNest (d u : ℕ) (ms : List Meaning) : Type 0 where
  shallow : AreShallow (d + u) ms
  closed : open_behind (d + u) ms ≡ d

pub plain_name : (name : List ℕ) (o : Option ℤ) (d : ℕ) → depth_behind d (name_meaning name o) ≡ d
plain_name name None d = refl
plain_name name (Some i) d = refl

module _ (d : ℕ) where
  -- one token that is no parenthesis, and those behind it
  plain_nests : (u i : ℕ) (p : Phase) (t : Tok) (ts : List Tok) (m : Meaning) → is_left (kind_of t) ≡ false → is_right (kind_of t) ≡ false → depth_behind (d + u) m ≡ d + u → d + depth_from u ts ≤ 32
      → ((q : Phase) → scan ts (i + 1) u q ≡ None → WordsNest d u (words_meanings ts)) → scan (t ∷ ts) i u p ≡ None → WordsNest d u (m ∷ words_meanings ts)
  plain_nests u i p t ts m l r e few more h = by (step u p (kind_of t)) (stays u p (kind_of t) l r) h
    where
      by : (n : Next) → Stays u n → go_on n (λ o q. scan ts (i + 1) o q) i ≡ None → WordsNest d u (m ∷ words_meanings ts)
      by n (inl none) g = absurd (none_some i (ap (λ (x : Next). go_on x (λ o q. scan ts (i + 1) o q) i) (sym none) ∙ g))
      by n (inr some) g =
          let rest = more some.0 (ap (λ (x : Next). go_on x (λ o q. scan ts (i + 1) o q) i) (sym some.1) ∙ g) in
          let least = depth_least u ts in
          record { shallow = ((omega (arith, few, least, e)), subst (λ (k : ℕ). AreShallow k (words_meanings ts)) (sym e) rest.shallow); closed = ap (λ (k : ℕ). open_behind k (words_meanings ts)) e ∙ rest.closed }

  left_nests : (u : ℕ) (ts : List Tok) → d + depth_from (suc u) ts ≤ 32 → WordsNest d (suc u) (words_meanings ts) → WordsNest d u (left_token ∷ words_meanings ts)
  left_nests u ts few rest =
      let least = depth_least (suc u) ts in
      let e : d + suc u ≡ suc (d + u) = omega arith in
      record { shallow = ((let k : suc (d + u) ≤ 32 = omega (arith, few, least) in k), subst (λ (k : ℕ). AreShallow k (words_meanings ts)) e rest.shallow); closed = ap (λ (k : ℕ). open_behind k (words_meanings ts)) (sym e) ∙ rest.closed }

  fewer : (u : ℕ) (ts : List Tok) → d + depth_from (suc u) (tok.Right ∷ ts) ≤ 32 → d + depth_from u ts ≤ 32
  fewer u ts few =
      let e : suc u - 1 ≡ u = omega arith in
      let most = le-max_right (suc u) (depth_from (suc u - 1) ts) in
      let less : d + depth_from (suc u - 1) ts ≤ 32 = omega (arith, few, most) in
      subst (λ (k : ℕ). d + depth_from k ts ≤ 32) e less

  right_nests : (u : ℕ) (ts : List Tok) → d + depth_from u ts ≤ 32 → WordsNest d u (words_meanings ts) → WordsNest d (suc u) (right_token ∷ words_meanings ts)
  right_nests u ts few rest =
      let least = depth_least u ts in
      let f : d + u ≡ d + suc u - 1 = omega arith in
      record { shallow = ((let k : d + suc u - 1 ≤ 32 = omega (arith, few, least) in k), subst (λ (k : ℕ). AreShallow k (words_meanings ts)) f rest.shallow); closed = ap (λ (k : ℕ). open_behind k (words_meanings ts)) (sym f) ∙ rest.closed }

  words_nest : (u i : ℕ) (p : Phase) (ts : List Tok) → d + depth_from u ts ≤ 32 → scan ts i u p ≡ None → WordsNest d u (words_meanings ts)
  words_nest u i p [] few h = let z = all_closed u i p h in record { shallow = tt; closed = (let e : d + u ≡ d = omega (arith, z) in e) }
  words_nest u i p (tok.Name n ∷ ts) few h = plain_nests u i p (tok.Name n) ts (name_meaning (name_text n) (index_in_front ts)) refl refl (plain_name (name_text n) (index_in_front ts) (d + u)) few (λ q g. words_nest u (i + 1) q ts few g) h
  words_nest u i p (tok.Index x ∷ ts) few h = plain_nests u i p (tok.Index x) ts (select_token x) refl refl refl few (λ q g. words_nest u (i + 1) q ts few g) h
  words_nest u i p (tok.Const v ∷ ts) few h = plain_nests u i p (tok.Const v) ts (token_meaning (tok.Const v) (index_in_front ts)) refl refl refl few (λ q g. words_nest u (i + 1) q ts few g) h
  words_nest u i p (tok.Op o ∷ ts) few h = plain_nests u i p (tok.Op o) ts (operator_token o) refl refl refl few (λ q g. words_nest u (i + 1) q ts few g) h
  words_nest u i Operand (tok.Left ∷ ts) few h = left_nests u ts few (words_nest (suc u) (i + 1) Operand ts few h)
  words_nest u i Name (tok.Left ∷ ts) few h = absurd (none_some i h)
  words_nest u i Whole (tok.Left ∷ ts) few h = absurd (none_some i h)
  words_nest u i Operand (tok.Right ∷ ts) few h = absurd (none_some i h)
  words_nest zero i Name (tok.Right ∷ ts) few h = absurd (none_some i h)
  words_nest zero i Whole (tok.Right ∷ ts) few h = absurd (none_some i h)
  words_nest (suc u) i Name (tok.Right ∷ ts) few h = right_nests u ts (fewer u ts few) (words_nest u (i + 1) Whole ts (fewer u ts few) h)
  words_nest (suc u) i Whole (tok.Right ∷ ts) few h = right_nests u ts (fewer u ts few) (words_nest u (i + 1) Whole ts (fewer u ts few) h)

no_fault : (ts : List Tok) → IsCondition ts → scan ts 0 0 Operand ≡ None
no_fault ts c = by (scan ts 0 0 Operand) refl
  where
    by : (v : Option ℕ) → scan ts 0 0 Operand ≡ v → v ≡ None
    by None e = refl
    by (Some at) e = absurd ((verdict_is ts (Some at) e).none c.0 c.1)

pub condition_nests : (ts : List Tok) → IsGoodWords ts → Nests 27 (words_meanings ts)
condition_nests ts good = record {
  shallow = λ d l. let z : d + 0 ≡ d = omega arith in subst (λ (k : ℕ). AreShallow k (words_meanings ts)) z (all d l).shallow;
  closed = λ d l. let z : d ≡ d + 0 = omega arith in ap (λ (k : ℕ). open_behind k (words_meanings ts)) z ∙ (all d l).closed;
}
  where
    all : (d : ℕ) → d + 27 ≤ 32 → WordsNest d 0 (words_meanings ts)
    all d l = words_nest d 0 0 Operand ts (let s = good.shallow in omega (arith, s, l)) (no_fault ts good.written.condition)
