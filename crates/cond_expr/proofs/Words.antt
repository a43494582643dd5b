-- A condition among other tokens is read exactly, by one look at each word.
use Rattle.std.proofs.Common.{◌≡◌, ℕ, zero, suc, ◌+◌, ◌<◌, Bool, true, false, List, [], ◌∷◌, ◌++◌, length, Option, Some, None, refl, sym, ap, subst, ◌∙◌, arith, inl, inr, append_assoc}
use Rattle.std.proofs.lemmas.List.{length-append, map-append, map-id}
use Rattle.std.proofs.lemmas.Option.{slice_get_within}
use Rattle.std.specs.Prelude.{◌⊎◌, ◌&&◌, not, is_some, slice_get, pos}
use Rattle.std.proofs.lemmas.Bool.{cases_Bool, both_ways, and_parts, or_cases, or_right}
use Rattle.grammar.specs.Exact.{Exact, IsWithin}
use Rattle.grammar.specs.Language.{SpellsMany, guarded}
use Rattle.grammar.specs.Rule.{holds}
use Rattle.grammar.specs.States.{state_after, SpellsBy}
use Rattle.grammar.proofs.Choice.{either-exact, only_if-exact}
use Rattle.grammar.proofs.ManyBy.{many_by-exact}
use Rattle.grammar.proofs.Mapped.{mapped-exact}
use Rattle.grammar.proofs.Named.{alike-exact}
use Rattle.grammar.proofs.One.{one-exact}
use Rattle.grammar.proofs.Printing.{SpellsMany-push}
use Rattle.cond_expr.specs.declared.scan.Phase.{Phase}
use Rattle.cond_expr.specs.declared.scan.Phase.TheVariants.{Operand, Name, Whole}
use Rattle.cond_expr.specs.Token.{Tok}
use Rattle.cond_expr.specs.declared.tokens.Tok.TheVariants as tok
use Rattle.cond_expr.specs.Kinds.{Kind, name_kind, index_kind, constant_kind, left_kind, right_kind, operator_kind, kind_of, is_index, is_binary_up_to}
use Rattle.cond_expr.specs.AllKinds.{is_within}
use Rattle.cond_expr.specs.ScanSteps.{Next, step}
use Rattle.cond_expr.specs.Grammar.{IsCondition}
use Rattle.cond_expr.specs.Laws.{OwnWords}
use Rattle.cond_expr.specs.Vocabulary.{Vocabulary, any_word, toks, BeginsCondition, words_of_condition, own_words}
use Rattle.cond_expr.specs.WordStates.{IsVocabulary, is_allowed, allows, next_state, next_by, ends_at, may_end, word_in, goes_on_with, start, words_by_state, worded}
use Rattle.cond_expr.proofs.Scanning.{scan, at_end, go_on}
use Rattle.cond_expr.proofs.AnyDepth.{condition-exact, verdict_is}

-- ---- the state after some words, and the scan of them

abbrev after : Next → List Tok → Next
after s xs = state_after next_state s xs

none_stays : (xs : List Tok) → after None xs ≡ None
none_stays [] = refl
none_stays (x ∷ xs) = none_stays xs

-- what the scan finds among words up to the position n where this state is reached
Seen : Next → Option ℕ → ℕ → Type 0
Seen None found n = (e : ℕ) × (found ≡ Some e) × (e < n)
Seen (Some s) found n = found ≡ at_end s.0 s.1 n

seen : (xs : List Tok) (i u : ℕ) (p : Phase) → Seen (after (Some (u, p)) xs) (scan xs i u p) (i + length xs)
unfolding Seen
seen [] i u p = ap (λ (n : ℕ). at_end u p n) (let e : i ≡ i + 0 = omega arith in e)
seen (x ∷ xs) i u p = go (step u p (kind_of x)) (λ o q. seen xs (i + 1) o q)
  where
    go : (n : Next) → ((o : ℕ) (q : Phase) → Seen (after (Some (o, q)) xs) (scan xs (i + 1) o q) (i + 1 + length xs)) → Seen (after n xs) (go_on n (λ o q. scan xs (i + 1) o q) i) (i + length (x ∷ xs))
    go None rest = subst (λ (s : Next). Seen s (Some i) (i + length (x ∷ xs))) (sym (none_stays xs)) (i, refl, omega arith)
    go (Some s) rest = subst (λ (n : ℕ). Seen (after (Some s) xs) (scan xs (i + 1) s.0 s.1) n) (let e : i + 1 + length xs ≡ i + length (x ∷ xs) = omega arith in e) (rest s.0 s.1)

at_end_cases : (u : ℕ) (p : Phase) (n : ℕ) → ((ends_at u p ≡ true) × (at_end u p n ≡ None)) ⊎ ((ends_at u p ≡ false) × (at_end u p n ≡ Some n))
at_end_cases zero Operand n = inr (refl, refl)
at_end_cases zero Name n = inl (refl, refl)
at_end_cases zero Whole n = inl (refl, refl)
at_end_cases (suc u) Operand n = inr (refl, refl)
at_end_cases (suc u) Name n = inr (refl, refl)
at_end_cases (suc u) Whole n = inr (refl, refl)

module _ (xs : List Tok) where
  abbrev found : Option ℕ
  found = scan xs 0 0 Operand

  seen_all : Seen (after start xs) found (length xs)
  seen_all = subst (λ (n : ℕ). Seen (after start xs) found n) (let e : 0 + length xs ≡ length xs = omega arith in e) (seen xs 0 0 Operand)

  none_begun : after start xs ≡ None → BeginsCondition xs → ⊥
  unfolding Seen
  none_begun is b =
      let p = subst (λ (s : Next). Seen s found (length xs)) is seen_all in
      (verdict_is xs (Some p.0) p.1).fails (condition-exact.front xs 0 (length xs) (p.0 + 1) b (omega arith) (omega (arith, p.2)))

  some_begun : (u : ℕ) (p : Phase) → after start xs ≡ Some (u, p) → BeginsCondition xs
  unfolding Seen
  some_begun u p is =
      let f = subst (λ (s : Next). Seen s found (length xs)) is seen_all in
      elim (at_end_cases u p (length xs)) [
        | inl c ↦ let w = verdict_is xs None (f ∙ c.1) in condition-exact.whole xs 0 w.0 (length xs) w.1
        | inr c ↦ (verdict_is xs (Some (length xs)) (f ∙ c.1)).begins
      ]

  begun_state : BeginsCondition xs → (s : ℕ × Phase) × (after start xs ≡ Some s)
  begun_state b = go (after start xs) refl
    where
      go : (n : Next) → after start xs ≡ n → (s : ℕ × Phase) × (after start xs ≡ Some s)
      go None e = absurd (none_begun e b)
      go (Some s) e = (s, e)

  ended_is : may_end (after start xs) ≡ true → IsCondition xs
  unfolding Seen
  ended_is h = go (after start xs) refl
    where
      go : (n : Next) → after start xs ≡ n → IsCondition xs
      go None e = absurd (both_ways (may_end (after start xs)) (rw e refl) h)
      go (Some s) e =
          let f = subst (λ (z : Next). Seen z found (length xs)) e seen_all in
          elim (at_end_cases s.0 s.1 (length xs)) [
            | inl c ↦ verdict_is xs None (f ∙ c.1)
            | inr c ↦ absurd (both_ways (may_end (after start xs)) (rw e c.0) h)
          ]

  is_ended : IsCondition xs → may_end (after start xs) ≡ true
  unfolding Seen
  is_ended w = go (after start xs) refl
    where
      go : (n : Next) → after start xs ≡ n → may_end (after start xs) ≡ true
      go None e = absurd (none_begun e (condition-exact.whole xs 0 w.0 (length xs) w.1))
      go (Some s) e =
          let f = subst (λ (z : Next). Seen z found (length xs)) e seen_all in
          elim (at_end_cases s.0 s.1 (length xs)) [
            | inl c ↦ rw e c.0
            | inr c ↦ absurd ((verdict_is xs (Some (length xs)) (f ∙ c.1)).none w.0 w.1)
          ]

after_more : (s : Next) (xs : List Tok) (w : Tok) → after s (xs ++ w ∷ []) ≡ next_state (after s xs) w
after_more s [] w = refl
after_more s (x ∷ xs) w = after_more (next_state s x) xs w

some_if_allowed : (s : Next) (w : Tok) → allows s (kind_of w) ≡ true → (z : ℕ × Phase) × (next_state s w ≡ Some z)
some_if_allowed None w h = absurd cc
some_if_allowed (Some s) w h = go (step s.0 s.1 (kind_of w)) h
  where
    go : (n : Next) → is_some n ≡ true → (z : ℕ × Phase) × (n ≡ Some z)
    go None h = absurd cc
    go (Some z) h = (z, refl)

allowed_if_some : (s : Next) (w : Tok) (z : ℕ × Phase) → next_state s w ≡ Some z → allows s (kind_of w) ≡ true
allowed_if_some None w z h = absurd (let f : None ≡ Some z = h in cc)
allowed_if_some (Some s) w z h = rw h refl

-- ---- words

and_none : (b c : Bool) → c ≡ false → (b && c) ≡ false
and_none true c h = h
and_none false c h = refl

holds_is : {K : Type 0} (is : K → Bool) (o : Option K) → holds is o ≡ true → (k : K) × (o ≡ Some k) × (is k ≡ true)
holds_is is None h = absurd cc
holds_is is (Some k) h = (k, refl, h)

not_true : (b : Bool) → not b ≡ true → b ≡ false
not_true true h = absurd cc
not_true false h = refl

-- what a state in which a condition may end allows
goes_on_from : (p : Phase) (c : Kind) → ends_at 0 p ≡ true → (not (is_index c) && allows (Some (0, p)) c) ≡ true → is_binary_up_to 6 c ≡ true
goes_on_from Operand c e h = absurd cc
goes_on_from Name c e h = is_within (λ k. not (is_index k) && allows (Some (0, Name)) k) (is_binary_up_to 6) refl c h
goes_on_from Whole c e h = is_within (λ k. not (is_index k) && allows (Some (0, Whole)) k) (is_binary_up_to 6) refl c h

module _ {T K W : Type 0} (v : Vocabulary T K W) (iv : IsVocabulary v) where
  no_continues : (s : Next) (k : K) → (word_in v s).continues k ≡ true → ⊥
  no_continues s k p = both_ways (v.index.continues k) (iv.index_closed k) (and_parts (allows s index_kind) (v.index.continues k) p).1

  pub word_in-exact : (s : Next) → Exact v.kind (word_in v s)
  word_in-exact s = either-exact v.kind _ _ (mapped-exact v.kind v.word _ (one-exact v.kind (is_allowed v s))) (only_if-exact v.kind (allows s index_kind) v.index iv.index_exact) refl (and_none (allows s index_kind) v.index.empty iv.index_full)
      (λ k p q.
      let is = iv.index_starts k (and_parts (allows s index_kind) (v.index.starts k) q).1 in
      let h : (not (is_index index_kind) && allows s index_kind) ≡ true = rw is at p in
      absurd cc)

  ends_in : (s : Next) → may_end s ≡ true → IsWithin (word_in v s).starts (goes_on_with v)
  ends_in None e k p = absurd cc
  ends_in (Some (suc u, Operand)) e k p = absurd cc
  ends_in (Some (suc u, Name)) e k p = absurd cc
  ends_in (Some (suc u, Whole)) e k p = absurd cc
  ends_in (Some (zero, ph)) e k p = elim (or_cases (is_allowed v (Some (0, ph)) k) (allows (Some (0, ph)) index_kind && v.index.starts k) p) [
    | inl h ↦
        let c = holds_is _ (v.class k) h in
        rw c.1 (or_right (is_index c.0) (is_binary_up_to 6 c.0) (goes_on_from ph c.0 e c.2))
    | inr h ↦ rw (iv.index_starts k (and_parts (allows (Some (0, ph)) index_kind) (v.index.starts k) h).1) refl
  ]

  pub words_by_state-exact : (s : Next) → Exact v.kind (words_by_state v s)
  words_by_state-exact s = many_by-exact v.kind (goes_on_with v) (word_in v) (next_by v) may_end word_in-exact (λ s. refl) (λ s x k p q. no_continues s k p) ends_in (λ s k p. absurd (no_continues s k p)) s

  -- ---- the same language, by words and by states

  abbrev Parts : List T → Next → ℕ → List W → ℕ → Type 0
  Parts ts s i xs j = SpellsBy (λ s. (word_in v s).language) (next_by v) ts s i xs j

  abbrev Words : List T → ℕ → List W → ℕ → Type 0
  Words ts i xs j = SpellsMany (any_word v).language ts i xs j

  guarded_spells : (b : Bool) (ts : List T) (i : ℕ) (x : W) (j : ℕ) → (guarded b v.index.language).Spells ts i x j → (b ≡ true) × v.index.language.Spells ts i x j
  guarded_spells true ts i x j s = (refl, s)
  guarded_spells false ts i x j s = absurd s

  guarded_begins : (b : Bool) (ts : List T) (i j : ℕ) → (guarded b v.index.language).Begins ts i j → (j ≡ i) ⊎ ((b ≡ true) × v.index.language.Begins ts i j)
  guarded_begins true ts i j s = inr (refl, s)
  guarded_begins false ts i j s = inl s

  -- a word that a state allows is a word, and the state allows its class
  a_word : (s : Next) (ts : List T) (i : ℕ) (x : W) (j : ℕ) → (word_in v s).language.Spells ts i x j → (any_word v).language.Spells ts i x j × (allows s (kind_of (v.tok x)) ≡ true)
  a_word s ts i x j p = elim p [
    | inl u ↦
        let c = holds_is _ (v.class (v.kind u.0)) u.2.1 in
        let q = and_parts (not (is_index c.0)) (allows s c.0) c.2 in
        let is : kind_of (v.tok x) ≡ c.0 = ap (λ (y : W). kind_of (v.tok y)) (sym u.1) ∙ iv.class_of_word u.0 c.0 c.1 (not_true (is_index c.0) q.0) in
        (inl (u.0, u.1, (u.2.0, rw c.1 q.0, u.2.2)), rw is q.1)
    | inr u ↦
        let g = guarded_spells (allows s index_kind) ts i x j u in
        (inr g.1, rw (iv.class_of_index ts i x j g.1) g.0)
  ]

  word_allowed : (s : Next) (ts : List T) (i : ℕ) (x : W) (j : ℕ) → allows s (kind_of (v.tok x)) ≡ true → (any_word v).language.Spells ts i x j → (word_in v s).language.Spells ts i x j
  word_allowed s ts i x j h p = elim p [
    | inl u ↦
        let c = holds_is _ (v.class (v.kind u.0)) u.2.1 in
        let is : kind_of (v.tok x) ≡ c.0 = ap (λ (y : W). kind_of (v.tok y)) (sym u.1) ∙ iv.class_of_word u.0 c.0 c.1 (not_true (is_index c.0) c.2) in
        inl (u.0, u.1, (u.2.0, rw (c.1, c.2) (rw is at h), u.2.2))
    | inr u ↦ inr (rw (rw (iv.class_of_index ts i x j u) at h) u)
  ]

  -- the words that states allow are words, and lead to a state
  by_words : (s : Next) (z : ℕ × Phase) → s ≡ Some z → (ts : List T) (i : ℕ) (xs : List W) (j : ℕ) → Parts ts s i xs j → Words ts i xs j × (z : ℕ × Phase) × (after s (toks v xs) ≡ Some z)
  by_words s z e ts i [] j p = (p, z, e)
  by_words s z e ts i (x ∷ xs) j p =
      let w = a_word s ts i x p.0 p.1 in
      let n = some_if_allowed s (v.tok x) w.1 in
      let r = by_words (next_by v s x) n.0 n.1 ts p.0 xs j p.2 in
      ((p.0, w.0, r.0), r.1, r.2)

  first_state : (s : Next) (x : Tok) (xs : List Tok) (z : ℕ × Phase) → after (next_state s x) xs ≡ Some z → (y : ℕ × Phase) × (next_state s x ≡ Some y)
  first_state s x xs z e = go (next_state s x) refl
    where
      go : (n : Next) → next_state s x ≡ n → (y : ℕ × Phase) × (next_state s x ≡ Some y)
      go None h = absurd (let f : None ≡ Some z = sym (none_stays xs) ∙ (ap (λ (m : Next). after m xs) (sym h) ∙ e) in cc)
      go (Some y) h = (y, h)

  words_by : (s : Next) (z : ℕ × Phase) (ts : List T) (i : ℕ) (xs : List W) (j : ℕ) → after s (toks v xs) ≡ Some z → Words ts i xs j → Parts ts s i xs j
  words_by s z ts i [] j e p = p
  words_by s z ts i (x ∷ xs) j e p =
      let y = first_state s (v.tok x) (toks v xs) z e in
      (p.0, word_allowed s ts i x p.0 (allowed_if_some s (v.tok x) y.0 y.1) p.1, words_by (next_by v s x) z ts p.0 xs j e p.2)

  state_of : (xs : List Tok) → may_end (after start xs) ≡ true → (z : ℕ × Phase) × (after start xs ≡ Some z)
  state_of xs h = go (after start xs) refl
    where
      go : (n : Next) → after start xs ≡ n → (z : ℕ × Phase) × (after start xs ≡ Some z)
      go None e = absurd (both_ways (may_end (after start xs)) (rw e refl) h)
      go (Some z) e = (z, e)

  abbrev Begun : List T → ℕ → ℕ → Type 0
  Begun ts i j = (words_of_condition v).Begins ts i j

  -- the state after words is that after their tokens
  after_words : (s : Next) (xs : List W) → state_after (next_by v) s xs ≡ after s (toks v xs)
  after_words s [] = refl
  after_words s (x ∷ xs) = after_words (next_by v s x) xs

  begun_by : (ts : List T) (i : ℕ) (xs : List W) (m j : ℕ) → Parts ts start i xs m → (word_in v (after start (toks v xs))).language.Begins ts m j → Begun ts i j
  begun_by ts i xs m j p g =
      let w = by_words start (0, Operand) refl ts i xs m p in
      let b = some_begun (toks v xs) w.1.0 w.1.1 w.2 in
      elim g [
        | inl u ↦ elim u [
          | inl e ↦ (xs, m, w.0, b, inl e)
          | inr t ↦
              let a = a_word (after start (toks v xs)) ts m (v.word t.0) j (inl (t.0, refl, t.1)) in
              let n = some_if_allowed (after start (toks v xs)) (v.tok (v.word t.0)) a.1 in
              let more = xs ++ v.word t.0 ∷ [] in
              (more, j, SpellsMany-push (any_word v).language ts i xs m (v.word t.0) j w.0 a.0, some_begun (toks v more) n.0.0 n.0.1 (ap (λ (ys : List Tok). after start ys) (map-append v.tok xs (v.word t.0 ∷ [])) ∙ (after_more start (toks v xs) (v.tok (v.word t.0)) ∙ n.1)), inl refl)
        ]
        | inr u ↦ elim (guarded_begins (allows (after start (toks v xs)) index_kind) ts m j u) [
          | inl e ↦ (xs, m, w.0, b, inl e)
          | inr h ↦
              let n = some_if_allowed (after start (toks v xs)) (tok.Index (pos 0)) h.0 in
              (xs, m, w.0, b, inr (some_begun (toks v xs ++ tok.Index (pos 0) ∷ []) n.0.0 n.0.1 (after_more start (toks v xs) (tok.Index (pos 0)) ∙ n.1), h.1))
        ]
      ]

  by_begun : (ts : List T) (i j : ℕ) → Begun ts i j → (words_by_state v start).language.Begins ts i j
  by_begun ts i j g =
      let z = begun_state (toks v g.0) g.3 in
      let p = words_by start z.0 ts i g.0 g.1 z.1 g.2 in
      let last = after start (toks v g.0) in
      let begins : (word_in v last).language.Begins ts g.1 j = elim g.4 [
        | inl e ↦ subst (λ (m : ℕ). (word_in v last).language.Begins ts g.1 m) (sym e) ((word_in-exact last).nothing ts g.1)
        | inr h ↦
            let y = begun_state (toks v g.0 ++ tok.Index (pos 0) ∷ []) h.0 in
            let may = allowed_if_some last (tok.Index (pos 0)) y.0 (sym (after_more start (toks v g.0) (tok.Index (pos 0))) ∙ y.1) in
            inr (rw may h.1)
      ] in
      (g.0, g.1, p, subst (λ (s : Next). (word_in v s).language.Begins ts g.1 j) (sym (after_words start g.0)) begins)

  pub worded-exact : Exact v.kind (worded v)
  worded-exact = alike-exact v.kind (words_by_state v start) (worded v) (words_by_state-exact start) (λ ts i. refl)
      (λ ts i xs j s. let h = is_ended (toks v xs) s.1 in let z = state_of (toks v xs) h in (words_by start z.0 ts i xs j z.1 s.0, ap may_end (after_words start xs) ∙ h))
      (λ ts i xs j s. ((by_words start (0, Operand) refl ts i xs j s.0).0, ended_is (toks v xs) (ap may_end (sym (after_words start xs)) ∙ s.1)))
      (λ ts i j g. by_begun ts i j g) (λ ts i j g. begun_by ts i g.0 g.1 j g.2 (subst (λ (s : Next). (word_in v s).language.Begins ts g.1 j) (after_words start g.0) g.3))
      refl (λ k p. p) (λ k p. p)

-- ---- among a condition's own tokens

only_index : (k : Kind) → is_index k ≡ true → k ≡ index_kind
only_index index_kind h = refl
only_index name_kind h = absurd cc
only_index constant_kind h = absurd cc
only_index left_kind h = absurd cc
only_index right_kind h = absurd cc
only_index (operator_kind o) h = absurd cc

pub are_words : IsVocabulary own_words
are_words = record {
  class_of_word = λ t c e h. cc;
  class_of_index = λ ts i x j s. only_index (kind_of x) s.1;
  index_exact = one-exact kind_of is_index;
  index_full = refl;
  index_starts = λ k h. ap Some (only_index k h);
  index_closed = λ k. refl;
}

pub own_worded-exact : Exact kind_of (worded own_words)
own_worded-exact = worded-exact own_words are_words

-- each token of a condition is a word, so its own tokens spell it by words
spelled_by_words : (ts : List Tok) (i : ℕ) (x : Tok) → slice_get ts i ≡ Some x → (any_word own_words).language.Spells ts i x (i + 1)
spelled_by_words ts i x e = elim (cases_Bool (is_index (kind_of x))) [
  | inl does ↦ inr (e, does, refl)
  | inr not_one ↦ inl (x, refl, (e, rw not_one refl, refl))
]

get_there : (front xs : List Tok) (x : Tok) → slice_get (front ++ x ∷ xs) (length front) ≡ Some x
get_there [] xs x = refl
get_there (y ∷ front) xs x = get_there front xs x

abbrev Own : List Tok → ℕ → List Tok → ℕ → Type 0
Own ts i xs j = SpellsMany (any_word own_words).language ts i xs j

own_words_of : (front xs : List Tok) → Own (front ++ xs) (length front) xs (length (front ++ xs))
own_words_of front [] = omega (arith, length-append front [])
own_words_of front (x ∷ xs) =
    let rest = own_words_of (front ++ x ∷ []) xs in
    let same : (front ++ x ∷ []) ++ xs ≡ front ++ x ∷ xs = append_assoc front (x ∷ []) xs in
    let at : length (front ++ x ∷ []) ≡ length front + 1 = length-append front (x ∷ []) in (
      length front + 1,
      spelled_by_words (front ++ x ∷ xs) (length front) x (get_there front xs x),
      subst (λ (i : ℕ). Own (front ++ x ∷ xs) i xs (length (front ++ x ∷ xs))) at (subst (λ (ts : List Tok). Own ts (length (front ++ x ∷ [])) xs (length ts)) same rest),
    )

own_word_is : (ts : List Tok) (i : ℕ) (x : Tok) (j : ℕ) → (any_word own_words).language.Spells ts i x j → (slice_get ts i ≡ Some x) × (j ≡ i + 1)
own_word_is ts i x j s = elim s [ inl u ↦ (rw (← u.1) u.2.0, u.2.2) | inr u ↦ (u.0, u.2) ]

none_left : (front rest : List Tok) → length (front ++ rest) ≡ length front → rest ≡ []
none_left front [] e = refl
none_left front (x ∷ rest) e = absurd (omega (arith, e, length-append front (x ∷ rest)))

own_words_are : (front rest xs : List Tok) → Own (front ++ rest) (length front) xs (length (front ++ rest)) → xs ≡ rest
own_words_are front rest [] s = sym (none_left front rest s)
own_words_are front [] (x ∷ xs) s =
    let w = own_word_is (front ++ []) (length front) x s.0 s.1 in
    absurd (omega (arith, slice_get_within (front ++ []) (length front) x w.0, length-append front []))
own_words_are front (y ∷ rest) (x ∷ xs) s =
    let w = own_word_is (front ++ y ∷ rest) (length front) x s.0 s.1 in
    let f : Some x ≡ Some y = sym w.0 ∙ get_there front rest y in
    let one : x ≡ y = cc in
    let same : (front ++ y ∷ []) ++ rest ≡ front ++ y ∷ rest = append_assoc front (y ∷ []) rest in
    let at : s.0 ≡ length (front ++ y ∷ []) = w.1 ∙ sym (length-append front (y ∷ [])) in
    let moved : Own (front ++ y ∷ rest) (length (front ++ y ∷ [])) xs (length (front ++ y ∷ rest)) = subst (λ (i : ℕ). Own (front ++ y ∷ rest) i xs (length (front ++ y ∷ rest))) at s.2 in
    let more = own_words_are (front ++ y ∷ []) rest xs (subst (λ (ts : List Tok). Own ts (length (front ++ y ∷ [])) xs (length ts)) (sym same) moved) in
    rw (one, more) refl

-- a condition's own tokens spell by words themselves alone
pub own_words_spell : OwnWords
own_words_spell ts xs = (
  λ s. let is : xs ≡ ts = own_words_are [] ts xs s.0 in (is, subst (λ (ys : List Tok). IsCondition ys) (map-id xs ∙ is) s.1),
  λ p. subst (λ (ys : List Tok). (words_of_condition own_words).Spells ts 0 ys (length ts)) (sym p.0) (own_words_of [] ts, subst (λ (ys : List Tok). IsCondition ys) (sym (map-id ts)) p.1),
)
