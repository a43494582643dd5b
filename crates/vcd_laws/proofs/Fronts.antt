-- What the words of a dump begin with is a front of the dump.
use Rattle.std.specs.Prelude.{◌≡◌, ℕ, ◌⊎◌, true, false, List, [], ◌∷◌, ◌++◌, length, slice_get, Option, Some, None, Ok, Result, refl}
use Rattle.std.proofs.Common.{sym, ◌∙◌, ap, subst, inl, inr}
use Rattle.grammar.specs.Exact.{Exact}
use Rattle.grammar.specs.Language.{SpellsMany, SpellsOptional}
use Rattle.grammar.specs.Rule.{is_of, no_kind, stands}
use Rattle.grammar.specs.States.{SpellsBy}
use Rattle.grammar.proofs.Extents.{starts_so}
use Rattle.vcd_form.specs.Kinds.{Kind, definitions_kind, is_definitions, kind_of}
use Rattle.vcd_form.specs.Rules.{Came, body, body_parts, came_after, came_first, front, item, item_starts, section_of, section_starts, start}
use Rattle.vcd_form.specs.Words.{Word}
use Rattle.vcd_form.specs.Written.{Front, Item, Section}

abbrev IsSpelled : List Word → Came → ℕ → List Section → ℕ → Type 0
IsSpelled ws came i ss j = SpellsBy (λ (s : Came). (section_of s).language) came_after ws came i ss j

-- the grammar is read exactly
pub record AreExact : Type 0 where
  pub sections : (came : Came) → Exact kind_of (section_of came)
  pub items : Exact kind_of item
  pub starts : Exact kind_of start

-- ---- what is spelled at a place is spelled once

no_more : (ws : List Word) (j : ℕ) → stands kind_of no_kind ws j ≡ false
no_more ws j = elim (slice_get ws j) as (λ o. is_of kind_of no_kind o ≡ false) [ None ↦ refl | Some w ↦ refl ]

read_twice : {A : Type 0} (r : Result (A × ℕ) ℕ) (x y : A) (j k : ℕ) → r ≡ Ok (x, j) → r ≡ Ok (y, k) → (x ≡ y) × (j ≡ k)
read_twice {A} r x y j k e f = (ap (λ (p : A × ℕ). p.0) same, ap (λ (p : A × ℕ). p.1) same)
  where
    oks : (p q : A × ℕ) → ◌≡◌ {A = Result (A × ℕ) ℕ} (Ok p) (Ok q) → p ≡ q
    oks p q g = cc

    same : ◌≡◌ {A = A × ℕ} (x, j) (y, k)
    same = oks (x, j) (y, k) (sym e ∙ f)

one_section : AreExact → (ws : List Word) (came : Came) (i j k : ℕ) (x y : Section) → (section_of came).language.Spells ws i x j → (section_of came).language.Spells ws i y k → (x ≡ y) × (j ≡ k)
one_section ex ws came i j k x y p q = read_twice ((section_of came).read ws i) x y j k ((ex.sections came).again ws i x j p (no_more ws j)) ((ex.sections came).again ws i y k q (no_more ws k))

one_item : AreExact → (ws : List Word) (i j k : ℕ) (x y : Item) → item.language.Spells ws i x j → item.language.Spells ws i y k → (x ≡ y) × (j ≡ k)
one_item ex ws i j k x y p q = read_twice (item.read ws i) x y j k (ex.items.again ws i x j p (no_more ws j)) (ex.items.again ws i y k q (no_more ws k))

one_start : AreExact → (ws : List Word) (i j k : ℕ) (x y : ℕ) → start.language.Spells ws i x j → start.language.Spells ws i y k → (x ≡ y) × (j ≡ k)
one_start ex ws i j k x y p q = read_twice (start.read ws i) x y j k (ex.starts.again ws i x j p (no_more ws j)) (ex.starts.again ws i y k q (no_more ws k))

-- ---- sections

abbrev IsFrontOf : List Word → ℕ → ℕ → List Section → List Section → Type 0
IsFrontOf ws m n xs ys = ((ys ≡ xs) × (m ≡ n)) ⊎ ((rest : List Section) × (ys ≡ xs ++ rest) × (stands kind_of section_starts ws m ≡ true))

section_begins : AreExact → (ws : List Word) (came : Came) (i j : ℕ) (x : Section) → (section_of came).language.Spells ws i x j → stands kind_of section_starts ws i ≡ true
section_begins ex ws came i j x p = (starts_so kind_of (section_of came) (ex.sections came) refl ws i x j p).1

front_more : (ws : List Word) (m n : ℕ) (x y : Section) (xs ys : List Section) → x ≡ y → IsFrontOf ws m n xs ys → IsFrontOf ws m n (x ∷ xs) (y ∷ ys)
front_more ws m n x y xs ys e (inl h) = inl (ap (λ s. s ∷ ys) (sym e) ∙ ap (λ ss. x ∷ ss) h.0, h.1)
front_more ws m n x y xs ys e (inr h) = inr (h.0, ap (λ s. s ∷ ys) (sym e) ∙ ap (λ ss. x ∷ ss) h.1, h.2)

sections_front : AreExact → (ws : List Word) (xs ys : List Section) (came : Came) (i m n : ℕ) → IsSpelled ws came i xs m → IsSpelled ws came i ys n → stands kind_of section_starts ws n ≡ false → IsFrontOf ws m n xs ys
sections_front ex ws [] [] came i m n p q e = inl (refl, (let a : m ≡ i = p in let b : n ≡ i = q in a ∙ sym b))
sections_front ex ws [] (y ∷ ys) came i m n p q e = inr (y ∷ ys, refl, (let a : m ≡ i = p in ap (stands kind_of section_starts ws) a ∙ section_begins ex ws came i q.0 y q.1))
sections_front ex ws (x ∷ xs) [] came i m n p q e = absurd (let b : n ≡ i = q in let z : false ≡ true = sym e ∙ (ap (stands kind_of section_starts ws) b ∙ section_begins ex ws came i p.0 x p.1) in cc)
sections_front ex ws (x ∷ xs) (y ∷ ys) came i m n p q e =
    let one = one_section ex ws came i p.0 q.0 x y p.1 q.1 in
    front_more ws m n x y xs ys one.0
    (sections_front ex ws xs ys (came_after came x) p.0 m n p.2
    (subst (λ s. IsSpelled ws (came_after came s) p.0 ys n) (sym one.0) (subst (λ k. IsSpelled ws (came_after came y) k ys n) (sym one.1) q.2)) e)

-- ---- items

none_behind : (ws : List Word) → stands kind_of item_starts ws (length ws) ≡ false
none_behind ws = ap (λ o. is_of kind_of item_starts o) (past ws)
  where
    past : (us : List Word) → slice_get us (length us) ≡ None
    past [] = refl
    past (u ∷ us) = past us

items_front : AreExact → (ws : List Word) (xs ys : List Item) (i n : ℕ) → SpellsMany item.language ws i xs n → SpellsMany item.language ws i ys (length ws) → (rest : List Item) × (ys ≡ xs ++ rest)
items_front ex ws [] ys i n p q = (ys, refl)
items_front ex ws (x ∷ xs) [] i n p q =
    absurd (let b : length ws ≡ i = q in let z : false ≡ true = sym (none_behind ws) ∙ (ap (stands kind_of item_starts ws) b ∙ (starts_so kind_of item ex.items refl ws i x p.0 p.1).1) in cc)
items_front ex ws (x ∷ xs) (y ∷ ys) i n p q =
    let one = one_item ex ws i p.0 q.0 x y p.1 q.1 in
    let rest = items_front ex ws xs ys p.0 n p.2 (subst (λ k. SpellsMany item.language ws k ys (length ws)) (sym one.1) q.2) in
    (rest.0, ap (λ s. s ∷ ys) (sym one.0) ∙ ap (λ ss. x ∷ ss) rest.1)

-- ---- fronts

-- `$enddefinitions` begins no section
no_section : (k : Kind) → is_definitions k ≡ true → section_starts k ≡ false
no_section definitions_kind h = refl
no_section _ h = absurd cc

not_both : (ws : List Word) (i : ℕ) → stands kind_of is_definitions ws i ≡ true → stands kind_of section_starts ws i ≡ false
not_both ws i h = at (slice_get ws i) h
  where
    at : (o : Option Word) → is_of kind_of is_definitions o ≡ true → is_of kind_of section_starts o ≡ false
    at None e = refl
    at (Some w) e = no_section (kind_of w) e

pub data FrontIs (ss : List Section) (byte : ℕ) (items : List Item) (f : Front) : Type 0 where
  in_header : (rest : List Section) → ss ≡ f.sections ++ rest → f.body ≡ None → FrontIs ss byte items f
  in_body : (is rest : List Item) → f.sections ≡ ss → f.body ≡ Some (byte, is) → items ≡ is ++ rest → FrontIs ss byte items f

pub record IsWhole (ws : List Word) (ss : List Section) (byte : ℕ) (items : List Item) : Type 0 where
  pub at : ℕ
  pub behind : ℕ
  pub sections : SpellsBy (λ (s : Came). (section_of s).language) came_after ws came_first 0 ss at
  pub start_there : start.language.Spells ws at byte behind
  pub items_there : SpellsMany item.language ws behind items (length ws)

start_begins : AreExact → (ws : List Word) (i j : ℕ) (x : ℕ) → start.language.Spells ws i x j → stands kind_of is_definitions ws i ≡ true
start_begins ex ws i j x p = (starts_so kind_of start ex.starts refl ws i x j p).1

pub front_is : AreExact → (ws : List Word) (ss : List Section) (byte : ℕ) (items : List Item) (f : Front) (n : ℕ) → IsWhole ws ss byte items → front.language.Spells ws 0 f n → FrontIs ss byte items f
unfolding body_parts
front_is ex ws ss byte items f n whole spelled =
    subst (FrontIs ss byte items) spelled.1 (at spelled.0.0 spelled.0.1 spelled.2.0 spelled.2.1.0 spelled.2.2)
  where
    ours : stands kind_of section_starts ws whole.at ≡ false
    ours = not_both ws whole.at (start_begins ex ws whole.at whole.behind byte whole.start_there)

    with_body : (xs : List Section) (b : ℕ) (is : List Item) (m : ℕ) → IsFrontOf ws m whole.at xs ss → body.language.Spells ws m (b, is) n → FrontIs ss byte items (record { sections = xs; body = Some (b, is) })
    with_body xs b is m (inr h) p = absurd (let z : false ≡ true = sym (not_both ws m (start_begins ex ws m p.0 b p.1)) ∙ h.2 in cc)
    with_body xs b is m (inl h) p =
        let same = one_start ex ws whole.at p.0 whole.behind b byte (subst (λ k. start.language.Spells ws k b p.0) h.1 p.1) whole.start_there in
        let rest = items_front ex ws is items p.0 n p.2 (subst (λ k. SpellsMany item.language ws k items (length ws)) (sym same.1) whole.items_there) in
        in_body is rest.0 (sym h.0) (ap (λ c. Some (c, is)) same.0) rest.1

    without : (xs : List Section) (m : ℕ) → IsFrontOf ws m whole.at xs ss → FrontIs ss byte items (record { sections = xs; body = None })
    without xs m (inl h) = in_header [] (h.0 ∙ sym (nil_behind xs)) refl
      where
        nil_behind : (us : List Section) → us ++ [] ≡ us
        nil_behind [] = refl
        nil_behind (u ∷ us) = ap (λ vs. u ∷ vs) (nil_behind us)
    without xs m (inr h) = in_header h.0 h.1 refl

    at : (xs : List Section) (o : Option (ℕ × List Item)) (m : ℕ) → IsSpelled ws came_first 0 xs m → SpellsOptional body.language ws m o n → FrontIs ss byte items (record { sections = xs; body = o })
    at xs None m p q = without xs m (sections_front ex ws xs ss came_first 0 m whole.at p whole.sections ours)
    at xs (Some b) m p q = with_body xs b.0 b.1 m (sections_front ex ws xs ss came_first 0 m whole.at p whole.sections ours) q
