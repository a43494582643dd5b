-- Reading one word of a condition among other tokens: an index or a token that is a word, which a state allows or not; or none.
use Rattle.std.proofs.Common.{◌≡◌, ℕ, ◌+◌, Bool, true, false, List, Option, Some, None, Ok, Err, refl, ap, ◌∙◌, inl, inr}
use Rattle.std.specs.Prelude.{slice_get, ◌&&◌, not}
use Rattle.std.specs.Option.{option_map}
use Rattle.std.proofs.lemmas.Bool.{and_right, both_ways, cases_Bool}
use Rattle.grammar.specs.Reading.{Fails}
use Rattle.grammar.specs.Rule.{holds, is_of, stands}
use Rattle.grammar.specs.declared.ReadFault.{ReadFault}
use Rattle.grammar.specs.declared.ReadFault.TheVariants as faults
use Rattle.cond_expr.specs.declared.scan.Phase.{Phase}
use Rattle.cond_expr.specs.declared.scan.Phase.TheVariants.{Operand, Name, Whole}
use Rattle.cond_expr.specs.Kinds.{Kind, index_kind, is_index}
use Rattle.cond_expr.specs.Kinds.{kind_of as word_kind}
use Rattle.cond_expr.specs.ScanSteps.{Next, step}
use Rattle.cond_expr.specs.Vocabulary.{Vocabulary, is_word}
use Rattle.cond_expr.specs.WordReading.{WordRead}
use Rattle.cond_expr.specs.WordStates.{IsVocabulary, allows, is_allowed}

no_word : (s : Next) (o : Option Kind) → holds (λ c. not (is_index c)) o ≡ false → holds (λ c. not (is_index c) && allows s c) o ≡ false
no_word s None h = refl
no_word s (Some c) h = rw h refl

a_class : (o : Option Kind) → holds (λ c. not (is_index c)) o ≡ true → (c : Kind) × (o ≡ Some c) × (is_index c ≡ false)
a_class None h = absurd cc
a_class (Some c) h = (c, refl, go (is_index c) h)
  where
    go : (b : Bool) → not b ≡ true → b ≡ false
    go true h = absurd cc
    go false h = refl

-- behind an index no index may stand
after_index : (u : ℕ) (p : Phase) → allows (Some (u, p)) index_kind ≡ true → step u p index_kind ≡ Some (u, Whole)
after_index u Operand h = absurd cc
after_index u Name h = refl
after_index u Whole h = absurd cc

module _ {T K W X : Type 0} (v : Vocabulary T K W) (iv : IsVocabulary v) (view : X → W) where
  -- what begins an index is no word alone
  no_index_alone : (s : Next) (k : K) → v.index.starts k ≡ true → is_allowed v s k ≡ false
  no_index_alone s k h = rw (iv.index_starts k h) refl

  word_no_index : (k : K) → is_word v k ≡ true → v.index.starts k ≡ false
  word_no_index k h = elim (cases_Bool (v.index.starts k)) [
    | inl does ↦ absurd (both_ways (is_word v k) (rw (iv.index_starts k does) refl) h)
    | inr none ↦ none
  ]

  module _ (ts : List T) (i : ℕ) where
    there : (is : K → Bool) → stands v.kind is ts i ≡ true → (t : T) × (slice_get ts i ≡ Some t) × (is (v.kind t) ≡ true)
    there is h = go (slice_get ts i) refl h
      where
        go : (o : Option T) → slice_get ts i ≡ o → is_of v.kind is o ≡ true → (t : T) × (slice_get ts i ≡ Some t) × (is (v.kind t) ≡ true)
        go None e h = absurd cc
        go (Some t) e h = (t, e, h)

    none_stands : (t : T) → slice_get ts i ≡ Some t → (s : Next) → is_allowed v s (v.kind t) ≡ false → (allows s index_kind && v.index.starts (v.kind t)) ≡ false → WordRead v view ts i s (Ok None)
    none_stands t at s p q = rw (at, p, q) refl

    -- an index that may not come
    pub index_refused : (s : Next) → stands v.kind v.index.starts ts i ≡ true → allows s index_kind ≡ false → WordRead v view ts i s (Ok None)
    index_refused s h p = let t = there v.index.starts h in none_stands t.0 t.1 s (no_index_alone s (v.kind t.0) t.2) (rw p refl)

    -- an index that may come, and its fault
    pub index_taken : (u : ℕ) (p : Phase) (x : X) (j : ℕ) → stands v.kind v.index.starts ts i ≡ true → allows (Some (u, p)) index_kind ≡ true → v.index.read ts i ≡ Ok (view x, j) → WordRead v view ts i (Some (u, p)) (Ok (Some (x, j, u, Whole)))
    index_taken u p x j h may r =
        let t = there v.index.starts h in
        let a = no_index_alone (Some (u, p)) (v.kind t.0) t.2 in
        let is = iv.class_of_index ts i (view x) j (iv.index_exact.found ts i (view x) j r).0 in
        (rw (t.1, a, may, t.2) refl, rw (t.1, a, may) r, rw is (after_index u p may))

    pub index_fails : (s : Next) (fault : ReadFault) → stands v.kind v.index.starts ts i ≡ true → allows s index_kind ≡ true → Fails fault (v.index.read ts i) → WordRead v view ts i s (Err fault)
    index_fails s faults.Memory h may f = tt
    index_fails s (faults.At e) h may f =
        let t = there v.index.starts h in
        let a = no_index_alone s (v.kind t.0) t.2 in
        (rw (t.1, a, may, t.2) refl, rw (t.1, a, may) f)

    -- a token that is no word
    pub no_word_stands : (s : Next) → stands v.kind (is_word v) ts i ≡ false → stands v.kind v.index.starts ts i ≡ false → WordRead v view ts i s (Ok None)
    no_word_stands s h p = go (slice_get ts i) refl h p
      where
        go : (o : Option T) → slice_get ts i ≡ o → is_of v.kind (is_word v) o ≡ false → is_of v.kind v.index.starts o ≡ false → WordRead v view ts i s (Ok None)
        go None e h p = rw e refl
        go (Some t) e h p = none_stands t e s (no_word s (v.class (v.kind t)) h) (rw p (and_right (allows s index_kind) false refl))

    the_word : (t : T) (w : W) → slice_get ts i ≡ Some t → option_map v.word (slice_get ts i) ≡ Some w → w ≡ v.word t
    the_word t w e h = let f : Some (v.word t) ≡ Some w = rw e at h in cc

    -- a word that may not come
    pub word_refused : (u : ℕ) (p : Phase) (w : X) → stands v.kind (is_word v) ts i ≡ true → option_map v.word (slice_get ts i) ≡ Some (view w) → step u p (word_kind (v.tok (view w))) ≡ None → WordRead v view ts i (Some (u, p)) (Ok None)
    word_refused u p w h is n =
        let t = there (is_word v) h in
        let c = a_class (v.class (v.kind t.0)) t.2 in
        let same : word_kind (v.tok (view w)) ≡ c.0 = ap (λ (y : W). word_kind (v.tok y)) (the_word t.0 (view w) t.1 is) ∙ iv.class_of_word t.0 c.0 c.1 c.2 in
        let none : step u p c.0 ≡ None = rw (← same) n in
        none_stands t.0 t.1 (Some (u, p)) (rw (c.1, none) (and_right (not (is_index c.0)) false refl)) (rw (word_no_index (v.kind t.0) t.2) (and_right (allows (Some (u, p)) index_kind) false refl))

    -- a word that may come
    pub word_taken : (u : ℕ) (p : Phase) (w : X) (next : ℕ × Phase) → stands v.kind (is_word v) ts i ≡ true → option_map v.word (slice_get ts i) ≡ Some (view w) → step u p (word_kind (v.tok (view w))) ≡ Some next
        → WordRead v view ts i (Some (u, p)) (Ok (Some (w, i + 1, next.0, next.1)))
    word_taken u p w next h is n =
        let t = there (is_word v) h in
        let c = a_class (v.class (v.kind t.0)) t.2 in
        let word = the_word t.0 (view w) t.1 is in
        let same : word_kind (v.tok (view w)) ≡ c.0 = ap (λ (y : W). word_kind (v.tok y)) word ∙ iv.class_of_word t.0 c.0 c.1 c.2 in
        let some : step u p c.0 ≡ Some next = rw (← same) n in
        let does : is_allowed v (Some (u, p)) (v.kind t.0) ≡ true = rw (c.1, c.2, some) refl in
        (rw (t.1, does) refl, rw (t.1, does, word) refl, n)
