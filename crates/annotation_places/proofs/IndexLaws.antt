-- An index that grows by a number at a time, and what it has in the end.
use Rattle.std.specs.Prelude.{◌≡◌, ◌≢◌, refl, ℕ, zero, suc, ◌+◌, ◌<◌, ◌≤◌, ◌==◌, ◌&&◌, ◌||◌, nat_eq, nat_lt, bytes_eq, Bool, true, false, cond, if◌then◌else◌, All, List, [], ◌∷◌, ◌++◌, length, slice_index_or}
use Rattle.std.specs.List.{filter, range_with_len}
use Rattle.std.proofs.Common.{ap, sym, ◌∙◌, subst, arith, inl, inr}
use Rattle.std.proofs.Math.Bool.{and-false}
use Rattle.std.proofs.lemmas.Bool.{cases_eq}
use Rattle.std.proofs.lemmas.Bool.Decides.{nat_tests}
use Rattle.std.proofs.lemmas.List.{append-nil, append_assoc}
use Rattle.std.proofs.lemmas.List.Elements.{All-filter, All-from_get_or}
use Rattle.std.proofs.lemmas.List.FromFn.{length-range_with_len, get_or-range_with_len}
use Rattle.sg_circuit.specs.Circuit.{Circuit, scope_at}
use Rattle.annotation_model.specs.Ports.{has}
use Rattle.annotation_model.proofs.ListedLaws.{test_other}
use Rattle.annotation_index.specs.declared.index.Index.{Index}
use Rattle.annotation_index.specs.Index.{list_at, one_if, AreNamed}
use Rattle.annotation_index.proofs.SourceLaws.{has_range}
use Rattle.annotation_places.specs.Places.{no_variable, variables_of}
use Rattle.annotation_places.specs.Indexes.{HasMore, nothing, Holds, is_called, HoldsVariables}

-- ---- numbers from 0 on that pass a test

past : (p : ℕ → Bool) (a n j : ℕ) → a + n ≡ j → filter p (range_with_len a (suc n)) ≡ filter p (range_with_len a n) ++ one_if (p j) j
past p a zero j e = subst (λ k. cond (p a) (a ∷ []) [] ≡ one_if (p k) k) (let f : a ≡ j = omega (arith, e) in f) (by (p a))
  where
    by : (b : Bool) → cond b (a ∷ []) [] ≡ one_if b a
    by true = refl
    by false = refl
past p a (suc n) j e = by (p a) (past p (a + 1) n j (omega (arith, e)))
  where
    by : (b : Bool) → filter p (range_with_len (a + 1) (suc n)) ≡ filter p (range_with_len (a + 1) n) ++ one_if (p j) j
        → cond b (a ∷ filter p (range_with_len (a + 1) (suc n))) (filter p (range_with_len (a + 1) (suc n)))
        ≡ cond b (a ∷ filter p (range_with_len (a + 1) n)) (filter p (range_with_len (a + 1) n)) ++ one_if (p j) j
    by true f = ap (λ ks. a ∷ ks) f
    by false f = f

-- the next number
pub one_past : (p : ℕ → Bool) (n : ℕ) → filter p (range_with_len 0 (n + 1)) ≡ filter p (range_with_len 0 n) ++ one_if (p n) n
one_past p n = ap (λ m. filter p (range_with_len 0 m)) (let f : n + 1 ≡ suc n = omega arith in f) ∙ past p 0 n n (let f : 0 + n ≡ n = omega arith in f)

has_passed : (p : ℕ → Bool) (xs : List ℕ) (k : ℕ) → has k (filter p xs) ≡ (has k xs && p k)
has_passed p [] k = refl
has_passed p (x ∷ xs) k = split (p x) ∙ by (p x) (x == k) (λ e. ap p (sym (same e))) (has_passed p xs k)
  where
    same : (x == k) ≡ true → x ≡ k
    same e = grind (arith, nat_tests)

    split : (b : Bool) → has k (cond b (x ∷ filter p xs) (filter p xs)) ≡ cond b ((x == k) || has k (filter p xs)) (has k (filter p xs))
    split true = refl
    split false = refl

    by : (b d : Bool) → (d ≡ true → p k ≡ b) → has k (filter p xs) ≡ (has k xs && p k) → cond b (d || has k (filter p xs)) (has k (filter p xs)) ≡ ((d || has k xs) && p k)
    by true true at rec = sym (at refl)
    by true false at rec = rec
    by false true at rec = rec ∙ (ap (λ b. has k xs && b) (at refl) ∙ (and-false (has k xs) ∙ sym (at refl)))
    by false false at rec = rec

none_past : (a n k : ℕ) → a + n ≤ k → has k (range_with_len a n) ≡ false
none_past a zero k l = refl
none_past a (suc n) k l =
    ap (λ b. b || has k (range_with_len (a + 1) n)) (test_other a k (λ e. absurd (omega (arith, l, e)))) ∙ none_past (a + 1) n k (omega (arith, l))

filter_if : (b : Bool) (q : ℕ → Bool) (xs : List ℕ) → filter (λ k. b && q k) xs ≡ cond b (filter q xs) []
filter_if true q xs = refl
filter_if false q [] = refl
filter_if false q (x ∷ xs) = filter_if false q xs

all_in : (n : ℕ) → All (λ k. k < n) (range_with_len 0 n)
all_in n = All-from_get_or (λ k. k < n) (range_with_len 0 n) 0 (λ i l.
    let long : length (range_with_len 0 n) ≡ n = length-range_with_len 0 n in
    let m : i < n = omega (arith, l, long) in
    let at : slice_index_or (range_with_len 0 n) i 0 ≡ 0 + i = get_or-range_with_len 0 n i 0 m in
    omega (arith, at, m))

-- ---- an index that grows

pub holds_none : (before : ℕ → List ℕ → List ℕ) (index : Index) (test : ℕ → ℕ → List ℕ → Bool) → AreNamed index → ((o : ℕ) (name : List ℕ) → list_at index o name ≡ before o name)
    → Holds before index test 0
holds_none before index test named same = record { named = named; items = λ o name. same o name ∙ sym (append-nil (before o name)) }

pub holds_more : (before : ℕ → List ℕ → List ℕ) (old new : Index) (test : ℕ → ℕ → List ℕ → Bool) (n : ℕ) → Holds before old test n → HasMore old new (test n) n → Holds before new test (n + 1)
holds_more before old new test n h more = record {
  named = more.named;
  items = λ o name.
      more.items o name
      ∙ (ap (λ xs. xs ++ one_if (test n o name) n) (h.items o name)
      ∙ (append_assoc (before o name) (filter (λ k. test k o name) (range_with_len 0 n)) (one_if (test n o name) n)
      ∙ ap (λ xs. before o name ++ xs) (sym (one_past (λ k. test k o name) n))));
}

module _ (index : Index) (test : ℕ → ℕ → List ℕ → Bool) (n : ℕ) (h : Holds nothing index test n) where
  -- a number is there where its key passes
  pub has_key : (k o : ℕ) (name : List ℕ) → k < n → has k (list_at index o name) ≡ test k o name
  has_key k o name l =
      ap (has k) (h.items o name)
      ∙ (has_passed (λ j. test j o name) (range_with_len 0 n) k ∙ ap (λ b. b && test k o name) (has_range 0 n k (omega arith) (omega (arith, l))))

  pub has_no_key : (k o : ℕ) (name : List ℕ) → n ≤ k → has k (list_at index o name) ≡ false
  has_no_key k o name l =
      ap (has k) (h.items o name)
      ∙ (has_passed (λ j. test j o name) (range_with_len 0 n) k ∙ ap (λ b. b && test k o name) (none_past 0 n k (omega (arith, l))))

  pub all_below : (o : ℕ) (name : List ℕ) → All (λ k. k < n) (list_at index o name)
  all_below o name =
      subst (λ xs. All (λ k. k < n) xs) (sym (h.items o name)) (All-filter (λ k. test k o name) (λ k. k < n) (range_with_len 0 n) (all_in n))

-- ---- variables

module _ (c : Circuit) where
  pub no_variables : (index : Index) → AreNamed index → ((o : ℕ) (name : List ℕ) → list_at index o name ≡ []) → HoldsVariables c index 0
  no_variables index named empty = record { named = named; items = λ o name. empty o name ∙ ap (λ b. if b then variables_of c o name else []) (sym (below o)) }
    where
      below : (o : ℕ) → nat_lt o 0 ≡ false
      below o = grind (arith, nat_tests)

  -- those of a scope more
  pub more_variables : (old new : Index) (s : ℕ) → HoldsVariables c old s → Holds (list_at old) new (is_called s (scope_at c s).variables) (length (scope_at c s).variables) → HoldsVariables c new (s + 1)
  more_variables old new s h more = record { named = more.named; items = λ o name. more.items o name ∙ at o name }
    where
      split : (o : ℕ) (name : List ℕ) → filter (λ k. is_called s (scope_at c s).variables k o name) (range_with_len 0 (length (scope_at c s).variables)) ≡ cond (nat_eq s o) (variables_of c s name) []
      split o name = filter_if (nat_eq s o) (λ k. bytes_eq (slice_index_or (scope_at c s).variables k no_variable).name name) (range_with_len 0 (length (scope_at c s).variables))

      before : (o : ℕ) → o ≡ s → nat_lt o s ≡ false
      before o e = grind (arith, nat_tests)

      here : (o : ℕ) → o ≡ s → nat_lt o (s + 1) ≡ true
      here o e = grind (arith, nat_tests)

      itself : (o : ℕ) → o ≡ s → nat_eq s o ≡ true
      itself o e = grind (arith, nat_tests)

      other : (o : ℕ) → o ≢ s → nat_eq s o ≡ false
      other o e = grind (arith, nat_tests)

      same : (o : ℕ) → o ≢ s → nat_lt o s ≡ nat_lt o (s + 1)
      same o e = grind (arith, nat_tests)

      at : (o : ℕ) (name : List ℕ) → list_at old o name ++ filter (λ k. is_called s (scope_at c s).variables k o name) (range_with_len 0 (length (scope_at c s).variables))
          ≡ (if nat_lt o (s + 1) then variables_of c o name else [])
      at o name = elim (cases_eq o s) [
        | inl e ↦ ap (λ xs. xs ++ filter (λ k. is_called s (scope_at c s).variables k o name) (range_with_len 0 (length (scope_at c s).variables)))
            (h.items o name ∙ ap (λ b. if b then variables_of c o name else []) (before o e))
            ∙ (split o name ∙ (ap (λ b. cond b (variables_of c s name) []) (itself o e)
            ∙ (ap (λ t. variables_of c t name) (sym e) ∙ ap (λ b. if b then variables_of c o name else []) (sym (here o e)))))
        | inr e ↦ ap (λ xs. list_at old o name ++ xs) (split o name ∙ ap (λ b. cond b (variables_of c s name) []) (other o e))
            ∙ (append-nil (list_at old o name) ∙ (h.items o name ∙ ap (λ b. if b then variables_of c o name else []) (same o e)))
      ]
