-- What symbols and rows cover, value by value and cell by cell.
use Rattle.std.proofs.Common.{◌≡◌, ℕ, zero, suc, ◌+◌, ◌<◌, ◌≤◌, ◌==◌, Bool, true, false, ◌&&◌, ◌||◌, not, if◌then◌else◌, cond, List, [], ◌∷◌, length, refl, sym, ◌∙◌, ap, subst, arith, slice_index_or}
use Rattle.std.specs.List.{list_any, count_by}
use Rattle.std.proofs.lemmas.Bool.Decides.{nat_tests}
use Rattle.std.proofs.lemmas.List.Sums.{sum_by-cons}
use Rattle.sg_logic.specs.declared.values.Value.{Value}
use Rattle.sg_logic.specs.declared.values.Value.TheVariants.{Zero, One, X, Z}
use Rattle.sg_logic.specs.Values.{is_same}
use Rattle.sg_logic.specs.Edges.{edge_changes}
use Rattle.udp_rows.specs.declared.cells.Cell.{Cell}
use Rattle.udp_rows.specs.Symbols.{level_covers, is_change_of, letter_covers, pair_covers, has_edge, edge_covers}
use Rattle.udp_rows.specs.Meaning.{Step, cell_covers, cells_cover}
use Rattle.udp_rows.specs.Columns.{values}
use Rattle.udp_rows.proofs.Lists.{and-left, and-right, any-weaker, numbered-each, numbered-all}

-- the cell of an input
abbrev pub cell_at : List Cell → ℕ → Cell
cell_at cells j = slice_index_or cells j (record { first = 0; second = 0 })

pub eqb-true : (j k : ℕ) → (j == k) ≡ true → j ≡ k
eqb-true j k h = grind (arith, nat_tests)

pub eqb-self : (j : ℕ) → (j == j) ≡ true
eqb-self j = grind (arith, nat_tests)

pub same-true : (v w : Value) → is_same v w ≡ true → v ≡ w
same-true Zero Zero h = refl
same-true One One h = refl
same-true X X h = refl
same-true Z Z h = refl
same-true Zero One h = cc
same-true Zero X h = cc
same-true Zero Z h = cc
same-true One Zero h = cc
same-true One X h = cc
same-true One Z h = cc
same-true X Zero h = cc
same-true X One h = cc
same-true X Z h = cc
same-true Z Zero h = cc
same-true Z One h = cc
same-true Z X h = cc

pub same-self : (v : Value) → is_same v v ≡ true
same-self Zero = refl
same-self One = refl
same-self X = refl
same-self Z = refl

and-false : (b : Bool) → (b && false) ≡ false
and-false true = refl
and-false false = refl

-- no level symbol covers z
level-z : (s : ℕ) → level_covers s Z ≡ false
level-z s = simp and-false

-- what a level symbol covers is one of three values
pub level-value : (s : ℕ) (v : Value) → level_covers s v ≡ true → list_any (is_same v) values ≡ true
level-value s Zero h = refl
level-value s One h = refl
level-value s X h = refl
level-value s Z h = let none : level_covers s Z ≡ false = level-z s in cc

-- no pair covers a change from or to z
pair-from-z : (c : Cell) (w : Value) → pair_covers c Z w ≡ false
pair-from-z c w = ap (λ b. not (is_same Z w) && b && level_covers c.second w) (level-z c.first) ∙ elim (not (is_same Z w)) as (λ b. (b && false && level_covers c.second w) ≡ false) [ true ↦ refl | false ↦ refl ]

pair-to-z : (c : Cell) (v : Value) → pair_covers c v Z ≡ false
pair-to-z c v = ap (λ b. not (is_same v Z) && level_covers c.first v && b) (level-z c.second) ∙ and-false (not (is_same v Z) && level_covers c.first v)

-- what an edge covers is one of six changes
pub edge-change : (c : Cell) (v w : Value) → edge_covers c v w ≡ true → is_change_of v w edge_changes ≡ true
edge-change c v w h = at (c.second == 0) v w h
  where
    letter-z : (s : ℕ) (w : Value) → letter_covers s Z w ≡ false
    letter-z s w = simp and-false

    none : (b p q : Bool) → p ≡ false → q ≡ false → (if b then p else q) ≡ true → ⊥
    none true p q e f h = cc
    none false p q e f h = cc

    at : (b : Bool) (v w : Value) → (if b then letter_covers c.first v w else pair_covers c v w) ≡ true → is_change_of v w edge_changes ≡ true
    at b Zero One h = refl
    at b One Zero h = refl
    at b Zero X h = refl
    at b X One h = refl
    at b One X h = refl
    at b X Zero h = refl
    at b Zero Zero h = absurd (none b _ _ (simp and-false) refl h)
    at b One One h = absurd (none b _ _ (simp and-false) refl h)
    at b X X h = absurd (none b _ _ (simp and-false) refl h)
    at b Z w h = absurd (none b (letter_covers c.first Z w) (pair_covers c Z w) (letter-z c.first w) (pair-from-z c w) h)
    at b Zero Z h = absurd (none b _ _ (simp and-false) (pair-to-z c Zero) h)
    at b One Z h = absurd (none b _ _ (simp and-false) (pair-to-z c One) h)
    at b X Z h = absurd (none b _ _ (simp and-false) (pair-to-z c X) h)

-- a value that passes a test is among the values, or the changes, of which some pass it
pub value-among : (test : Value → Bool) (v : Value) (xs : List Value) → list_any (is_same v) xs ≡ true → test v ≡ true → list_any test xs ≡ true
value-among test v xs h t = any-weaker (is_same v) test xs (λ w e. subst (λ w. test w ≡ true) (same-true v w e) t) h

pub change-among : (test : Value → Value → Bool) (v w : Value) (xs : List (Value × Value)) → is_change_of v w xs ≡ true → test v w ≡ true → list_any (λ change. test change.0 change.1) xs ≡ true
change-among test v w xs h t =
    any-weaker (λ change. is_same v change.0 && is_same w change.1) (λ change. test change.0 change.1) xs
    (λ change e. let from : v ≡ change.0 = same-true v change.0 (and-left (is_same v change.0) (is_same w change.1) e) in
    let to : w ≡ change.1 = same-true w change.1 (and-right (is_same v change.0) (is_same w change.1) e) in
    sym (ap (λ v. test v change.1) from) ∙ (sym (ap (test v) to) ∙ t)) h

-- one cell of those that are covered, and all from each
pub covered-at : (step : Step) (cells : List Cell) (j : ℕ) → cells_cover step cells ≡ true → j < length cells → cell_covers step j (cell_at cells j) ≡ true
covered-at step cells j h l = numbered-each (cell_covers step) (record { first = 0; second = 0 }) 0 cells h j j l (omega arith)

pub all-covered : (step : Step) (cells : List Cell) → ((j : ℕ) → j < length cells → cell_covers step j (cell_at cells j) ≡ true) → cells_cover step cells ≡ true
all-covered step cells h = numbered-all (cell_covers step) (record { first = 0; second = 0 }) 0 cells (λ j k l e. let same : k ≡ j = omega arith in subst (λ k. cell_covers step k (cell_at cells j) ≡ true) (sym same) (h j l))

-- a row with an edge has it somewhere
pub edge-somewhere : (cells : List Cell) → list_any has_edge cells ≡ true → (j : ℕ) × (j < length cells) × (has_edge (cell_at cells j) ≡ true)
edge-somewhere [] h = cc
edge-somewhere (c ∷ cs) h = at (has_edge c) refl h (edge-somewhere cs)
  where
    at : (b : Bool) → has_edge c ≡ b → (b || list_any has_edge cs) ≡ true → (list_any has_edge cs ≡ true → (j : ℕ) × (j < length cs) × (has_edge (cell_at cs j) ≡ true)) → (j : ℕ) × (j < suc (length cs)) × (has_edge (cell_at (c ∷ cs) j) ≡ true)
    at true e h rest = (0, omega arith, e)
    at false e h rest = let r = rest h in let l : r.0 < length cs = r.1 in (suc r.0, omega arith, r.2)

pub edge-here : (cells : List Cell) (j : ℕ) → has_edge (cell_at cells j) ≡ true → list_any has_edge cells ≡ true
edge-here [] j e = cc
edge-here (c ∷ cs) zero e = ap (λ b. b || list_any has_edge cs) e
edge-here (c ∷ cs) (suc j) e = elim (has_edge c) as (λ b. (b || list_any has_edge cs) ≡ true) [ true ↦ refl | false ↦ edge-here cs j e ]

-- a row has one edge at most
abbrev pub HasOneEdge : List Cell → Type 0
HasOneEdge cells = (j k : ℕ) → has_edge (cell_at cells j) ≡ true → has_edge (cell_at cells k) ≡ true → j ≡ k

-- what a cell adds to the number of edges
abbrev edges_of : Cell → ℕ
edges_of c = cond (has_edge c) 1 0

an-edge : (c : Cell) → has_edge c ≡ true → edges_of c ≡ 1
an-edge c e = ap (λ b. cond b 1 0) e

edges-cons : (c : Cell) (cs : List Cell) → count_by has_edge (c ∷ cs) ≡ edges_of c + count_by has_edge cs
edges-cons c cs = sum_by-cons edges_of c cs

edge-counted : (cells : List Cell) (j : ℕ) → has_edge (cell_at cells j) ≡ true → 1 ≤ count_by has_edge cells
edge-counted [] j e = cc
edge-counted (c ∷ cs) zero e =
    let one = an-edge c e in let sum = edges-cons c cs in omega (arith, one, sum)
edge-counted (c ∷ cs) (suc j) e = let rest = edge-counted cs j e in let sum = edges-cons c cs in omega (arith, rest, sum)

pub one-edge : (cells : List Cell) → count_by has_edge cells ≤ 1 → HasOneEdge cells
one-edge [] l j k e f = cc
one-edge (c ∷ cs) l zero zero e f = refl
one-edge (c ∷ cs) l zero (suc k) e f =
    let one = an-edge c e in
    let rest = edge-counted cs k f in let sum = edges-cons c cs in absurd (omega (arith, one, rest, sum, l))
one-edge (c ∷ cs) l (suc j) zero e f =
    let one = an-edge c f in
    let rest = edge-counted cs j e in let sum = edges-cons c cs in absurd (omega (arith, one, rest, sum, l))
one-edge (c ∷ cs) l (suc j) (suc k) e f = let sum = edges-cons c cs in ap suc (one-edge cs (omega (arith, sum, l)) j k e f)
