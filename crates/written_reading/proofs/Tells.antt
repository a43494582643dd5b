-- What tokens of known meanings tell by a rule, by how the rule is built.
use Rattle.std.specs.Prelude.{◌≡◌, ℕ, Bool, true, List, [], ◌∷◌, ◌++◌, map, flat_map, Option, Some, None}
use Rattle.std.specs.List.{AllByRecursion}
use Rattle.std.proofs.Common.{refl, sym, ap, subst, ◌∙◌, inl, inr}
use Rattle.std.proofs.lemmas.List.{map-append}
use Rattle.grammar.specs.Language.{Language, image, sequence, choice, at_most_once, repetition, SpellsMany}
use Rattle.grammar.specs.Placed.{with_place}
use Rattle.sdf_lex.specs.Tokens.{Meaning, Lexeme}
use Rattle.sdf_tree.specs.Kinds.{Kind, kind_of_meaning}
use Rattle.sdf_tree.specs.Rules.{token, mark}
use Rattle.written_reading.proofs.Spans.{Spans, split}

abbrev pub Over : Type 0 → Type 1
Over A = Language Lexeme A

-- Wherever tokens mean these, they spell something of which this holds.
abbrev pub Tells : {A : Type 0} → Over A → (A → Type 0) → List Meaning → Type 0
Tells {A} l P ms = (ts : List Lexeme) (i j : ℕ) → Spans ts i ms j → (x : A) × l.Spells ts i x j × P x

-- what is spelled becomes this
abbrev pub Says : {A B : Type 0} → Over A → (A → B) → B → List Meaning → Type 0
Says l f b ms = Tells l (λ x. f x ≡ b) ms

-- ---- one token

module _ {A : Type 0} where
  pub tells_token : (f : Lexeme → A) (is : Kind → Bool) (P : A → Type 0) (m : Meaning) → is (kind_of_meaning m) ≡ true → ((t : Lexeme) → t.meaning ≡ m → P (f t)) → Tells (token f is).language P (m ∷ [])
  tells_token f is P m h p ts i j ((t, at, e), end) = (f t, (t, refl, (at, subst (λ (n : Meaning). is (kind_of_meaning n) ≡ true) (sym e) h, end)), p t e)

pub tells_mark : (is : Kind → Bool) (m : Meaning) → is (kind_of_meaning m) ≡ true → Tells (mark is).language (λ u. Unit {0}) (m ∷ [])
tells_mark is m h ts i j ((t, at, e), end) = (tt, (t, refl, (at, subst (λ (n : Meaning). is (kind_of_meaning n) ≡ true) (sym e) h, end)), tt)

-- ---- what is made of a part

module _ {A B : Type 0} (f : A → B) (a : Over A) where
  pub tells_image : (P : A → Type 0) (Q : B → Type 0) (ms : List Meaning) → Tells a P ms → ((x : A) → P x → Q (f x)) → Tells (image f a) Q ms
  tells_image P Q ms t g ts i j s = let r = t ts i j s in (f r.0, (r.0, refl, r.1), g r.0 r.2)

module _ {A : Type 0} (a : Over A) where
  pub tells_placed : (P : A → Type 0) (m : Meaning) (ms : List Meaning) → Tells a P (m ∷ ms) → Tells (with_place (λ (t : Lexeme). t.place) a) (λ x. P x.1) (m ∷ ms)
  tells_placed P m ms t ts i j s = let r = t ts i j s in ((s.0.0.place, r.0), (s.0.0, s.0.1, refl, r.1), r.2)

  pub tells_none : Tells (at_most_once a) (λ o. o ≡ None) []
  tells_none ts i j s = (None, s, refl)

  pub tells_some : (P : A → Type 0) (Q : Option A → Type 0) (ms : List Meaning) → Tells a P ms → ((x : A) → P x → Q (Some x)) → Tells (at_most_once a) Q ms
  tells_some P Q ms t g ts i j s = let r = t ts i j s in (Some r.0, r.1, g r.0 r.2)

-- ---- one of two

module _ {A : Type 0} (a b : Over A) (P : A → Type 0) (ms : List Meaning) where
  pub tells_left : Tells a P ms → Tells (choice a b) P ms
  tells_left t ts i j s = let r = t ts i j s in (r.0, inl r.1, r.2)

  pub tells_right : Tells b P ms → Tells (choice a b) P ms
  tells_right t ts i j s = let r = t ts i j s in (r.0, inr r.1, r.2)

-- ---- one after another

module _ {A B : Type 0} (a : Over A) (b : Over B) (P : A → Type 0) (Q : B → Type 0) (ms ns : List Meaning) where
  pub tells_both : Tells a P ms → Tells b Q ns → Tells (sequence a b) (λ x. P x.0 × Q x.1) (ms ++ ns)
  tells_both t u ts i j s =
      let d = split ts i ms ns j s in
      let r = t ts i d.middle d.front in
      let q = u ts d.middle j d.back in
      ((r.0, q.0), (d.middle, r.1, q.1), (r.2, q.2))

  -- where one of them leaves no trace
  pub tells_second : Tells a P ms → Tells b Q ns → Tells (image (λ x. x.1) (sequence a b)) Q (ms ++ ns)
  tells_second t u = tells_image (λ (x : A × B). x.1) (sequence a b) (λ x. P x.0 × Q x.1) Q (ms ++ ns) (tells_both t u) (λ x p. p.1)

  pub tells_first : Tells a P ms → Tells b Q ns → Tells (image (λ x. x.0) (sequence a b)) P (ms ++ ns)
  tells_first t u = tells_image (λ (x : A × B). x.0) (sequence a b) (λ x. P x.0 × Q x.1) P (ms ++ ns) (tells_both t u) (λ x p. p.0)

-- ---- any number of parts

module _ {A B C : Type 0} (a : Over A) (strip : A → B) (made : C → B) (piece : C → List Meaning) where
  abbrev pub EachSays : List C → Type 0
  EachSays cs = AllByRecursion (λ c. Says a strip (made c) (piece c)) cs

  pub says_many : (cs : List C) → EachSays cs → Says (repetition a) (map strip) (map made cs) (flat_map piece cs)
  says_many [] all ts i j s = ([], s, refl)
  says_many (c ∷ cs) all ts i j s =
      let d = split ts i (piece c) (flat_map piece cs) j s in
      let r = all.0 ts i d.middle d.front in
      let q = says_many cs all.1 ts d.middle j d.back in
      (r.0 ∷ q.0, (d.middle, r.1, q.1), (ap (λ x. x ∷ map strip q.0) r.2 ∙ ap (λ xs. made c ∷ xs) q.2))

-- ---- the same meanings, and what follows

module _ {A : Type 0} (a : Over A) (P : A → Type 0) where
  pub tells_same : (ms ns : List Meaning) → ms ≡ ns → Tells a P ms → Tells a P ns
  tells_same ms ns e t = subst (λ (xs : List Meaning). Tells a P xs) e t

  pub tells_more : (Q : A → Type 0) (ms : List Meaning) → Tells a P ms → ((x : A) → P x → Q x) → Tells a Q ms
  tells_more Q ms t g ts i j s = let r = t ts i j s in (r.0, r.1, g r.0 r.2)

-- ---- few parts, and more of them

module _ {A B : Type 0} (a : Over A) (strip : A → B) where
  pub says_none : Says (repetition a) (map strip) [] []
  says_none ts i j s = ([], s, refl)

  pub says_one : (b : B) (ms : List Meaning) → Says a strip b ms → Says (repetition a) (map strip) (b ∷ []) ms
  says_one b ms t ts i j s = let r = t ts i j s in (r.0 ∷ [], (j, r.1, refl), ap (λ x. x ∷ []) r.2)

  joined : (ts : List Lexeme) (i m j : ℕ) (xs ys : List A) → SpellsMany a ts i xs m → SpellsMany a ts m ys j → SpellsMany a ts i (xs ++ ys) j
  joined ts i m j [] ys s t = subst (λ (k : ℕ). SpellsMany a ts k ys j) s t
  joined ts i m j (x ∷ xs) ys s t = (s.0, s.1, joined ts s.0 m j xs ys s.2 t)

  pub says_joined : (xs ys : List B) (ms ns : List Meaning) → Says (repetition a) (map strip) xs ms → Says (repetition a) (map strip) ys ns → Says (repetition a) (map strip) (xs ++ ys) (ms ++ ns)
  says_joined xs ys ms ns t u ts i j s =
      let d = split ts i ms ns j s in
      let r = t ts i d.middle d.front in
      let q = u ts d.middle j d.back in
      (r.0 ++ q.0, joined ts i d.middle j r.0 q.0 r.1 q.1, map-append strip r.0 q.0 ∙ (ap (λ zs. zs ++ map strip q.0) r.2 ∙ ap (λ zs. xs ++ zs) q.2))
