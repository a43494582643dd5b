-- The source of an INTERCONNECT entry stands in a scope to which its names lead.
use Rattle.std.specs.Prelude.{◌≡◌, refl, ℕ, zero, suc, ◌+◌, ◌<◌, ◌≤◌, ◌==◌, ◌&&◌, ◌||◌, nat_lt, Bool, true, false, if◌then◌else◌, List, [], ◌∷◌, reverse, length, Option, Some, None, ℤ}
use Rattle.std.specs.List.{list_any, range_with_len}
use Rattle.std.proofs.Common.{ap, sym, ◌∙◌, arith}
use Rattle.std.proofs.Math.Bool.{and-false, or-false, or-true}
use Rattle.std.proofs.lemmas.Bool.{or_from}
use Rattle.std.proofs.lemmas.Bool.Decides.{nat_tests}
use Rattle.std.proofs.lemmas.List.{reverse-reverse, get_or_past}
use Rattle.sg_circuit.specs.Circuit.{Circuit, Scope, scope_at}
use Rattle.sdf_tree.specs.declared.words.Divider.{Divider}
use Rattle.sdf_tree.specs.Written.{Port}
use Rattle.annotation_model.specs.Scopes.{names_back, climb, is_scope}
use Rattle.annotation_model.specs.Ports.{has, is_input, is_output, nets_named}
use Rattle.annotation_model.specs.Matching.{named_from, is_source}
use Rattle.annotation_model.proofs.EntryLaws.{any-same}
use Rattle.annotation_index.specs.Candidates.{Lookups, AreOf, descend, is_source_at, is_source_down}
use Rattle.annotation_index.proofs.ScopeLaws.{descended}

-- ---- lists

any_in : (q : ℕ → Bool) (xs : List ℕ) (k : ℕ) → has k xs ≡ true → q k ≡ true → list_any q xs ≡ true
any_in q [] k h e = absurd cc
any_in q (x ∷ xs) k h e = by (x == k) refl h (λ g. any_in q xs k g e)
  where
    same : (x == k) ≡ true → x ≡ k
    same s = grind (arith, nat_tests)

    by : (b : Bool) → (x == k) ≡ b → (b || has k xs) ≡ true → (has k xs ≡ true → list_any q xs ≡ true) → (q x || list_any q xs) ≡ true
    by true s g rec = ap (λ b. b || list_any q xs) (ap q (same s) ∙ e)
    by false s g rec = ap (λ b. q x || b) (rec g) ∙ or-true (q x)

any_found : (q : ℕ → Bool) (xs : List ℕ) → list_any q xs ≡ true → (k : ℕ) × (has k xs ≡ true) × (q k ≡ true)
any_found q [] e = absurd cc
any_found q (x ∷ xs) e = by (q x) refl e (λ h. any_found q xs h)
  where
    itself : (x == x) ≡ true
    itself = grind (arith, nat_tests)

    by : (b : Bool) → q x ≡ b → (b || list_any q xs) ≡ true → (list_any q xs ≡ true → (k : ℕ) × (has k xs ≡ true) × (q k ≡ true)) → (k : ℕ) × (has k (x ∷ xs) ≡ true) × (q k ≡ true)
    by true p h rec = (x, ap (λ b. b || has x xs) itself, p)
    by false p h rec = let r = rec h in (r.0, ap (λ b. (x == r.0) || b) r.1 ∙ or-true (x == r.0), r.2)

none_in : (q : ℕ → Bool) (xs : List ℕ) → ((k : ℕ) → q k ≡ false) → list_any q xs ≡ false
none_in q [] h = refl
none_in q (x ∷ xs) h = or_from (q x) (list_any q xs) (h x) (none_in q xs h)

pub has_range : (a n k : ℕ) → a ≤ k → k < a + n → has k (range_with_len a n) ≡ true
has_range a zero k l m = absurd (omega (arith, l, m))
has_range a (suc n) k l m = by (a == k) refl (λ h. has_range (a + 1) n k h (omega (arith, m)))
  where
    other : (a == k) ≡ false → a + 1 ≤ k
    other s = grind (arith, nat_tests)

    by : (b : Bool) → (a == k) ≡ b → (a + 1 ≤ k → has k (range_with_len (a + 1) n) ≡ true) → (b || has k (range_with_len (a + 1) n)) ≡ true
    by true s rest = refl
    by false s rest = rest (other s)

-- of all numbers below a bound those in a list are tested, where no other passes
any_below : (n : ℕ) (p : ℕ → Bool) (xs : List ℕ) → ((k : ℕ) → p k ≡ true → k < n) → list_any (λ k. p k && has k xs) (range_with_len 0 n) ≡ list_any p xs
any_below n p xs within = by (list_any p xs) refl
  where
    by : (b : Bool) → list_any p xs ≡ b → list_any (λ k. p k && has k xs) (range_with_len 0 n) ≡ b
    by true e =
        let f = any_found p xs e in
        let m : f.0 < n = within f.0 f.2 in
        any_in (λ k. p k && has k xs) (range_with_len 0 n) f.0 (has_range 0 n f.0 (omega arith) (omega (arith, m))) (ap (λ b. b && has f.0 xs) f.2 ∙ f.1)
    by false e = none_in (λ k. p k && has k xs) (range_with_len 0 n) none
      where
        both : (k : ℕ) (b d : Bool) → p k ≡ b → has k xs ≡ d → (b && d) ≡ false
        both k true true f h = absurd (let g : list_any p xs ≡ true = any_in p xs k h f in cc)
        both k true false f h = refl
        both k false d f h = refl

        none : (k : ℕ) → (p k && has k xs) ≡ false
        none k = both k (p k) (has k xs) refl refl

-- ---- sources

module _ (c : Circuit) (l : Lookups) (of_circuit : AreOf c l) where
  -- the scopes past the end have no port
  blank_past : (s : ℕ) → length c.scopes ≤ s → (name : List ℕ) (bit : Option ℤ) (net : ℕ) → is_source_at c name bit net s ≡ false
  blank_past s past name bit net = ap at (get_or_past c.scopes s _ past) ∙ and-false (s == 0)
    where
      at : Scope → Bool
      at t = (t.is_leaf && has net (nets_named is_output t.variables name bit)) || ((s == 0) && has net (nets_named is_input t.variables name bit))

  is_within : (name : List ℕ) (bit : Option ℤ) (net s : ℕ) → is_source_at c name bit net s ≡ true → s < length c.scopes
  is_within name bit net s e = by (nat_lt s (length c.scopes)) refl
    where
      below : nat_lt s (length c.scopes) ≡ true → s < length c.scopes
      below t = grind (arith, nat_tests)

      past : nat_lt s (length c.scopes) ≡ false → length c.scopes ≤ s
      past t = grind (arith, nat_tests)

      by : (b : Bool) → nat_lt s (length c.scopes) ≡ b → s < length c.scopes
      by true t = below t
      by false t = absurd (let f : is_source_at c name bit net s ≡ false = blank_past s (past t) name bit net in cc)

  is_down : (path : List (List ℕ)) (s below : ℕ) → is_scope below (climb c path (Some s)) ≡ has s (descend l.inside (reverse path) below)
  is_down path s below = ap (λ names. is_scope below (climb c names (Some s))) (sym (reverse-reverse path)) ∙ sym (descended c l of_circuit (reverse path) s below)

  split : (leaf out top inn down : Bool) → ((leaf && (out && down)) || (top && (inn && down))) ≡ (((leaf && out) || (top && inn)) && down)
  split true true true inn down = by inn down
    where
      by : (i d : Bool) → (d || (i && d)) ≡ d
      by i true = refl
      by true false = refl
      by false false = refl
  split true true false inn down = or-false down
  split true false true inn down = refl
  split true false false inn down = refl
  split false out true inn down = refl
  split false out false inn down = refl

  if_scope : (b : Bool) (up : Option ℕ) (below : ℕ) → is_scope below (if b then up else None) ≡ (b && is_scope below up)
  if_scope true up below = refl
  if_scope false up below = refl

  pub source_down : (divider : Divider) (from : Port) (net below : ℕ) → is_source c divider from net (Some below) ≡ is_source_down c l (names_back divider from.path) from.bit net below
  source_down divider from net below = by (names_back divider from.path)
    where
      test : List (List ℕ) → ℕ → Bool
      test names s = ((scope_at c s).is_leaf && is_scope below (named_from c is_output s names net from)) || ((s == 0) && is_scope below (named_from c is_input s names net from))

      nowhere : (s : ℕ) → test [] s ≡ false
      nowhere s = or_from ((scope_at c s).is_leaf && false) ((s == 0) && false) (and-false (scope_at c s).is_leaf) (and-false (s == 0))

      here : (name : List ℕ) (path : List (List ℕ)) (s : ℕ) → test (name ∷ path) s ≡ (is_source_at c name from.bit net s && has s (descend l.inside (reverse path) below))
      here name path s =
          ap (λ b. ((scope_at c s).is_leaf && b) || ((s == 0) && is_scope below (named_from c is_input s (name ∷ path) net from))) (if_scope out (climb c path (Some s)) below)
          ∙ (ap (λ b. ((scope_at c s).is_leaf && (out && is_scope below (climb c path (Some s)))) || ((s == 0) && b)) (if_scope inn (climb c path (Some s)) below)
          ∙ (split (scope_at c s).is_leaf out (s == 0) inn (is_scope below (climb c path (Some s)))
          ∙ ap (λ b. is_source_at c name from.bit net s && b) (is_down path s below)))
        where
          out : Bool
          out = has net (nets_named is_output (scope_at c s).variables name from.bit)

          inn : Bool
          inn = has net (nets_named is_input (scope_at c s).variables name from.bit)

      by : (names : List (List ℕ)) → list_any (test names) (range_with_len 0 (length c.scopes)) ≡ is_source_down c l names from.bit net below
      by [] = none_in (test []) (range_with_len 0 (length c.scopes)) nowhere
      by (name ∷ path) =
          any-same (test (name ∷ path)) (λ s. is_source_at c name from.bit net s && has s (descend l.inside (reverse path) below)) (range_with_len 0 (length c.scopes)) (here name path)
          ∙ any_below (length c.scopes) (is_source_at c name from.bit net) (descend l.inside (reverse path) below) (is_within name from.bit net)
