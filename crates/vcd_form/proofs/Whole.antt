-- A dump read piece by piece: what its header and its items say of the whole text.
use Rattle.std.proofs.Common.{◌≡◌, ℕ, suc, ◌+◌, ◌<◌, true, false, List, [], ◌∷◌, ◌++◌, length, Option, Some, None, Result, Ok, Err, refl, sym, ap, ◌∙◌, subst, arith, inl, inr}
use Rattle.std.specs.Prelude.{◌==◌, if◌then◌else◌, slice_get}
use Rattle.std.proofs.lemmas.Bool.{cases_Bool, both_ways, eqb-true}
use Rattle.std.proofs.lemmas.Option.{slice_get_past}
use Rattle.grammar.specs.Exact.{Apart}
use Rattle.grammar.specs.Language.{SpellsMany, SpellsOptional}
use Rattle.grammar.specs.Reading.{◌>>=◌}
use Rattle.grammar.specs.Rule.{◌∙∙◌, read_all, read_many, stands}
use Rattle.grammar.specs.States.{SpellsBy}
use Rattle.grammar.specs.declared.ReadFault.TheVariants as faults
use Rattle.grammar.proofs.Extents.{starts_so}
use Rattle.grammar.proofs.Laws.{all_failed, from_again, one_from, one_value}
use Rattle.grammar.proofs.Loops.{loop_ends, loop_fails, loop_goes_on}
use Rattle.grammar.proofs.Results.{bind_err, bind_ok, pair_is}
use Rattle.grammar.proofs.TokenKinds.{kinds_apart}
use Rattle.vcd_form.specs.Kinds.{kind_of, is_definitions}
use Rattle.vcd_form.specs.Rules.{body, body_parts, came_after, came_first, dump, front, header, item, section_of, section_starts, start, Came}
use Rattle.vcd_form.specs.Words.{Word}
use Rattle.vcd_form.specs.Written.{Front, Item, Section}
use Rattle.vcd_form.proofs.AllKinds.{apart}
use Rattle.vcd_form.proofs.FormExact.{begun-exact, dump-exact, item-exact, section-exact, start-exact}

abbrev pub Begun : List Word → List Section → ℕ → ℕ → Type 0
Begun ws ss b m = (header ∙∙ start).read ws 0 ≡ Ok ((ss, b), m)

abbrev pub Items : List Word → ℕ → List Item → ℕ → Type 0
Items ws m is i = SpellsMany item.language ws m is i

abbrev pub with_body : List Section → ℕ → List Item → Front
with_body ss b is = record { sections = ss; body = Some (b, is) }

-- no dump, and the word at n is the first with which the words begin none
abbrev pub FailsIn : List Word → ℕ → Type 0
FailsIn ws n = dump.language.Begins ws 0 n × (dump.language.Begins ws 0 (suc n) → ⊥) × ((f : Front) → dump.language.Spells ws 0 f (length ws) → ⊥)

-- ---- what is spelled

begun_spelled : (ws : List Word) (ss : List Section) (b m : ℕ) → Begun ws ss b m → (p : ℕ) × header.language.Spells ws 0 ss p × start.language.Spells ws p b m
begun_spelled ws ss b m h = (begun-exact.found ws 0 (ss, b) m h).0

pub front_spelled : (ws : List Word) (ss : List Section) (b m : ℕ) (is : List Item) (i : ℕ) → Begun ws ss b m → Items ws m is i → front.language.Spells ws 0 (with_body ss b is) i
unfolding body_parts
front_spelled ws ss b m is i h t = let s = begun_spelled ws ss b m h in ((ss, Some (b, is)), refl, (s.0, s.1, (m, s.2, t)))

dump_spelled_to : (ws : List Word) (ss : List Section) (b m : ℕ) (is : List Item) (i : ℕ) → Begun ws ss b m → Items ws m is i → dump.language.Spells ws 0 (with_body ss b is) i
unfolding body_parts
dump_spelled_to ws ss b m is i h t = let s = begun_spelled ws ss b m h in ((ss, (b, is)), refl, (s.0, s.1, (m, s.2, t)))

pub dump_spelled : (ws : List Word) (ss : List Section) (b m : ℕ) (is : List Item) (i : ℕ) → Begun ws ss b m → Items ws m is i → i ≡ length ws → dump.language.Spells ws 0 (with_body ss b is) (length ws)
dump_spelled ws ss b m is i h t e = subst (λ (n : ℕ). dump.language.Spells ws 0 (with_body ss b is) n) e (dump_spelled_to ws ss b m is i h t)

-- ---- what fails

fails_in : (ws : List Word) (n : ℕ) → read_all dump ws ≡ Err n → FailsIn ws n
fails_in ws n h =
    let f = all_failed kind_of dump dump-exact ws n h in
    let e : suc n ≡ n + 1 = omega arith in
    (f.begins, (λ g. f.fails (subst (λ (k : ℕ). dump.language.Begins ws 0 k) e g)), f.none)

-- what the items make of the whole
abbrev finished : List Word → List Section → ℕ → List Item × ℕ → Result Front ℕ
finished ws ss b y = if y.1 == length ws then Ok (with_body ss b y.0) else Err y.1

abbrev with_start : ℕ → List Item × ℕ → Result ((ℕ × List Item) × ℕ) ℕ
with_start b y = Ok ((b, y.0), y.1)

abbrev with_sections : List Section → (ℕ × List Item) × ℕ → Result ((List Section × (ℕ × List Item)) × ℕ) ℕ
with_sections ss y = Ok ((ss, y.0), y.1)

abbrev as_front : (List Section × (ℕ × List Item)) × ℕ → Result (Front × ℕ) ℕ
as_front y = Ok (record { sections = y.0.0; body = Some y.0.1 }, y.1)

abbrev if_all : List Word → Front × ℕ → Result Front ℕ
if_all ws y = if y.1 == length ws then Ok y.0 else Err y.1

chain : (ws : List Word) (ss : List Section) (b : ℕ) (r : Result (List Item × ℕ) ℕ) → ((((r >>= with_start b) >>= with_sections ss) >>= as_front) >>= if_all ws) ≡ (r >>= finished ws ss b)
chain ws ss b (Ok y) = refl
chain ws ss b (Err e) = refl

abbrev found : List Section → ℕ → ℕ → Result ((List Section × ℕ) × ℕ) ℕ
found ss b m = Ok ((ss, b), m)

sections_same : (s t : List Section) (c d k l : ℕ) → found s c k ≡ found t d l → s ≡ t
sections_same s t c d k l e = ap (λ (x : List Section × ℕ). x.0) (pair_is (s, c) k (t, d) l e).0

starts_same : (s t : List Section) (c d k l : ℕ) → found s c k ≡ found t d l → c ≡ d
starts_same s t c d k l e = ap (λ (x : List Section × ℕ). x.1) (pair_is (s, c) k (t, d) l e).0

ends_same : (s t : List Section) (c d k l : ℕ) → found s c k ≡ found t d l → k ≡ l
ends_same s t c d k l e = (pair_is (s, c) k (t, d) l e).1

read_begun : (ws : List Word) (ss : List Section) (b m : ℕ) → Begun ws ss b m → read_all dump ws ≡ (read_many kind_of item ws m >>= finished ws ss b)
unfolding body_parts
read_begun ws ss b m h =
    let x = bind_ok (header.read ws 0) (λ x. start.read ws x.1 >>= λ y. Ok ((x.0, y.0), y.1)) ((ss, b), m) h in
    let y = bind_ok (start.read ws x.0.1) (λ y. Ok ((x.0.0, y.0), y.1)) ((ss, b), m) x.2 in
    let s = sections_same x.0.0 ss y.0.0 b y.0.1 m y.2 in
    let c = starts_same x.0.0 ss y.0.0 b y.0.1 m y.2 in
    let k = ends_same x.0.0 ss y.0.0 b y.0.1 m y.2 in
    let moved : (read_many kind_of item ws y.0.1 >>= finished ws x.0.0 y.0.0) ≡ (read_many kind_of item ws m >>= finished ws ss b) =
    ap (λ (n : ℕ). read_many kind_of item ws n >>= finished ws x.0.0 y.0.0) k ∙ (ap (λ (t : List Section). read_many kind_of item ws m >>= finished ws t y.0.0) s ∙ ap (λ (d : ℕ). read_many kind_of item ws m >>= finished ws ss d) c)
    in
    rw (x.1, y.1) (chain ws x.0.0 y.0.0 (read_many kind_of item ws y.0.1) ∙ moved)

item_read : (ws : List Word) (m : ℕ) (x : Item) (k : ℕ) → item.language.Spells ws m x k → item.read ws m ≡ Ok (x, k)
item_read ws m x k t = from_again kind_of item item-exact (λ _. refl) ws m x k t

-- what is made of the items that are left, behind some
behind_items : (ws : List Word) (m : ℕ) (is : List Item) (i : ℕ) → Items ws m is i → (f : List Item × ℕ → Result Front ℕ) (total : Result Front ℕ) → (read_many kind_of item ws m >>= f) ≡ total → (read_many kind_of item ws i >>= λ y. f (is ++ y.0, y.1)) ≡ total
behind_items ws m [] i t f total h = subst (λ (n : ℕ). (read_many kind_of item ws n >>= λ y. f ([] ++ y.0, y.1)) ≡ total) (sym t) h
behind_items ws m (x ∷ xs) i t f total h =
    let does = (starts_so kind_of item item-exact refl ws m x t.0 t.1).1 in
    let step = loop_goes_on kind_of item item-exact refl ws f total m x t.0 does (item_read ws m x t.0 t.1) h in
    behind_items ws t.0 xs i t.2 (λ y. f (x ∷ y.0, y.1)) total step

not_last : (i n : ℕ) → i < n → (i == n) ≡ false
not_last i n lt = elim (cases_Bool (i == n)) [ inl does ↦ absurd (let e = eqb-true i n does in omega (arith, e)) | inr none ↦ none ]

-- where items are spelled and the next fails, no dump is spelled, and its failing word is the item's
pub item_fails : (ws : List Word) (ss : List Section) (b m : ℕ) (is : List Item) (i n : ℕ) → Begun ws ss b m → Items ws m is i → i < length ws → item.read ws i ≡ Err n → FailsIn ws n
item_fails ws ss b m is i n h t lt e =
    let g = λ (y : List Item × ℕ). finished ws ss b (is ++ y.0, y.1) in
    let so_far = behind_items ws m is i t (finished ws ss b) (read_all dump ws) (sym (read_begun ws ss b m h)) in
    elim (cases_Bool (stands kind_of item.starts ws i)) [
      | inl does ↦ fails_in ws n (loop_fails kind_of item item-exact refl ws g (read_all dump ws) i (faults.At n) does e so_far)
      | inr none ↦
          let last = loop_ends kind_of item item-exact refl ws g (read_all dump ws) i none so_far in
          let here : n ≡ i = elim (item-exact.first ws i n (item-exact.failed ws i n e).0) [ inl a ↦ a | inr a ↦ absurd (both_ways (stands kind_of item.starts ws i) none a.1) ] in
          fails_in ws n (last ∙ (rw (not_last i (length ws) lt) (ap (λ (k : ℕ). fault_at k) (sym here))))
    ]
  where
    fault_at : ℕ → Result Front ℕ
    fault_at k = Err k

-- where the header fails, so does the dump
pub header_fails : (ws : List Word) (n : ℕ) → (header ∙∙ start).read ws 0 ≡ Err n → FailsIn ws n
unfolding body_parts
header_fails ws n h = elim (bind_err (header.read ws 0) (λ x. start.read ws x.1 >>= λ y. Ok ((x.0, y.0), y.1)) n h) [
  | inl e ↦ fails_in ws n (rw e refl)
  | inr p ↦ elim (bind_err (start.read ws p.0.1) (λ y. Ok ((p.0.0, y.0), y.1)) n p.2) [
    | inl e ↦ fails_in ws n (rw (p.1, e) refl)
    | inr q ↦ absurd (never p.0.0 q.0.0 q.0.1 n q.2)
  ]
]
  where
    never : (s : List Section) (c k n : ℕ) → found s c k ≡ Err n → ⊥
    never s c k n e = cc

-- ---- one dump, and its fronts

pub one_dump : (ws : List Word) (f g : Front) → dump.language.Spells ws 0 f (length ws) → dump.language.Spells ws 0 g (length ws) → f ≡ g
one_dump ws f g s t = one_value kind_of dump dump-exact ws f g s t

-- a front of some sections, or of all and some items
abbrev pub IsFrontAs : List Section → Option (ℕ × List Item) → List Section → ℕ → List Item → Type 0
IsFrontAs ts None ss b is = (rest : List Section) × (ss ≡ ts ++ rest)
IsFrontAs ts (Some body) ss b is = (ts ≡ ss) × (body.0 ≡ b) × (rest : List Item) × (is ≡ body.1 ++ rest)

abbrev pub IsFrontOf : Front → List Section → ℕ → List Item → Type 0
IsFrontOf f ss b is = IsFrontAs f.sections f.body ss b is

items_front : (ws : List Word) (m : ℕ) (is : List Item) (js : List Item) (n : ℕ) → Items ws m is (length ws) → Items ws m js n → (rest : List Item) × (is ≡ js ++ rest)
items_front ws m is [] n s t = (is, refl)
items_front ws m [] (y ∷ ys) n s t = absurd (let q = starts_so kind_of item item-exact refl ws m y t.0 t.1 in both_ways (stands kind_of item.starts ws m) (rw (slice_get_past ws m (omega (arith, s))) refl) q.1)
items_front ws m (x ∷ xs) (y ∷ ys) n s t =
    let one = one_from kind_of item item-exact (λ _. refl) ws m x s.0 y t.0 s.1 t.1 in
    let r = items_front ws s.0 xs ys n s.2 (subst (λ (k : ℕ). Items ws k ys n) (sym one.1) t.2) in
    (r.0, ap (λ (z : Item). z ∷ xs) one.0 ∙ ap (λ (l : List Item). y ∷ l) r.1)

section_not_start : Apart section_starts is_definitions
section_not_start = apart _ _ (λ _. refl)

abbrev Sections : List Word → Came → ℕ → List Section → ℕ → Type 0
Sections ws c i ss j = SpellsBy (λ c. (section_of c).language) came_after ws c i ss j

sections_front : (ws : List Word) (c : Came) (i : ℕ) (ss ts : List Section) (p b m q : ℕ) → Sections ws c i ss p → start.language.Spells ws p b m → Sections ws c i ts q → (rest : List Section) × (ss ≡ ts ++ rest)
sections_front ws c i ss [] p b m q s e t = (ss, refl)
sections_front ws c i [] (y ∷ ys) p b m q s e t =
    let has = (starts_so kind_of (section_of c) (section-exact c) refl ws i y t.0 t.1).1 in
    let ends = (starts_so kind_of start start-exact refl ws p b m e).1 in
    absurd (kinds_apart kind_of section_starts is_definitions (slice_get ws i) section_not_start has (subst (λ (k : ℕ). stands kind_of start.starts ws k ≡ true) s ends))
sections_front ws c i (x ∷ xs) (y ∷ ys) p b m q s e t =
    let one = one_from kind_of (section_of c) (section-exact c) (λ _. refl) ws i x s.0 y t.0 s.1 t.1 in
    let moved = subst (λ (k : ℕ). Sections ws (came_after c y) k ys q) (sym one.1) t.2 in
    let r = sections_front ws (came_after c x) s.0 xs ys p b m q s.2 e (subst (λ (z : Section). Sections ws (came_after c z) s.0 ys q) (sym one.0) moved) in
    (r.0, ap (λ (z : Section). z ∷ xs) one.0 ∙ ap (λ (l : List Section). y ∷ l) r.1)

fronts_of : (ws : List Word) (ss : List Section) (b p m : ℕ) (is : List Item) → header.language.Spells ws 0 ss p → start.language.Spells ws p b m → Items ws m is (length ws)
    → (ts : List Section) (o : Option (ℕ × List Item)) (q n : ℕ) → header.language.Spells ws 0 ts q → SpellsOptional body.language ws q o n → IsFrontAs ts o ss b is
unfolding body_parts
fronts_of ws ss b p m is s e t ts None q n u v = sections_front ws came_first 0 ss ts p b m q s.0 e u.0
fronts_of ws ss b p m is s e t ts (Some body) q n u v =
    let one = one_from kind_of (header ∙∙ start) begun-exact (λ _. refl) ws 0 (ts, body.0) v.0 (ss, b) m (q, u, v.1) (p, s, e) in
    let r = items_front ws m is body.1 n t (subst (λ (k : ℕ). Items ws k body.1 n) one.1 v.2) in
    (ap (λ (x : List Section × ℕ). x.0) one.0, ap (λ (x : List Section × ℕ). x.1) one.0, r.0, r.1)

-- where the text is a dump, what it begins with is a front of it
pub fronts : (ws : List Word) (ss : List Section) (b m : ℕ) (is : List Item) → Begun ws ss b m → Items ws m is (length ws) → (f : Front) (n : ℕ) → front.language.Spells ws 0 f n → IsFrontOf f ss b is
fronts ws ss b m is h t f n g =
    let s = begun_spelled ws ss b m h in
    subst (λ (e : Front). IsFrontOf e ss b is) g.1 (fronts_of ws ss b s.0 m is s.1 s.2 t g.0.0 g.0.1 g.2.0 n g.2.1 g.2.2)
