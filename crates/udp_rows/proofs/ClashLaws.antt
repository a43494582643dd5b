-- The test of columns and states decides whether two rows clash.
use Rattle.std.proofs.Common.{◌≡◌, ◌≢◌, ℕ, ◌<◌, ◌==◌, Bool, true, false, ◌&&◌, not, if◌then◌else◌, length, refl, sym, ◌∙◌, ap, subst, arith}
use Rattle.std.specs.List.{list_any}
use Rattle.sg_logic.specs.declared.values.Value.{Value}
use Rattle.sg_logic.specs.declared.values.Value.TheVariants.{Zero, One, X, Z}
use Rattle.sg_logic.specs.Values.{is_same}
use Rattle.sg_logic.specs.Edges.{edge_changes}
use Rattle.udp_rows.specs.declared.cells.Cell.{Cell}
use Rattle.udp_rows.specs.declared.cells.RawRow.{RawRow}
use Rattle.udp_rows.specs.Symbols.{has_edge, level_covers, edge_covers}
use Rattle.udp_rows.specs.Meaning.{Step, cell_covers, cells_cover, state_covers, is_edge_row, output}
use Rattle.udp_rows.specs.Clash.{Clash}
use Rattle.udp_rows.specs.Columns.{values, values_meet, changes_meet, column_meets, columns_meet, state_differs, states_differ, rows_clash}
use Rattle.udp_rows.proofs.Lists.{both, and-left, and-right, two_tests, zip-all}
use Rattle.udp_rows.proofs.Covered.{cell_at, eqb-true, same-true, same-self, level-value, edge-change, value-among, change-among, covered-at, edge-somewhere, edge-here}

pub if-true : {A : Type 0} (b : Bool) (x y : A) → b ≡ true → (if b then x else y) ≡ x
if-true b x y e = ap (λ c. if c then x else y) e

pub if-false : {A : Type 0} (b : Bool) (x y : A) → b ≡ false → (if b then x else y) ≡ y
if-false b x y e = ap (λ c. if c then x else y) e

-- an edge that is covered stands at the input that changes, and covers the change
covered-edge : (step : Step) (j : ℕ) (c : Cell) → has_edge c ≡ true → cell_covers step j c ≡ true → ((j == step.input) && edge_covers c step.old (step.inputs j)) ≡ true
covered-edge step j c e h = sym (if-true (has_edge c) _ _ e) ∙ h

covered-level : (step : Step) (j : ℕ) (c : Cell) → has_edge c ≡ false → cell_covers step j c ≡ true → level_covers c.first (step.inputs j) ≡ true
covered-level step j c e h = sym (if-false (has_edge c) _ _ e) ∙ h

edge-place : (step : Step) (j : ℕ) (c : Cell) → has_edge c ≡ true → cell_covers step j c ≡ true → j ≡ step.input
edge-place step j c e h = eqb-true j step.input (and-left (j == step.input) (edge_covers c step.old (step.inputs j)) (covered-edge step j c e h))

-- rows of one sort that cover a step have their edges in the same columns
edge-of-both : (step : Step) (a b : RawRow) (j : ℕ) → is_edge_row a ≡ is_edge_row b → cells_cover step a.inputs ≡ true → cells_cover step b.inputs ≡ true
    → j < length a.inputs → has_edge (cell_at a.inputs j) ≡ true → has_edge (cell_at b.inputs j) ≡ true
edge-of-both step a b j s h k l e =
    let some = edge-somewhere b.inputs (sym s ∙ edge-here a.inputs j e) in
    let here_a : j ≡ step.input = edge-place step j (cell_at a.inputs j) e (covered-at step a.inputs j h l) in
    let here_b : some.0 ≡ step.input = edge-place step some.0 (cell_at b.inputs some.0) some.2 (covered-at step b.inputs some.0 k some.1) in
    subst (λ i. has_edge (cell_at b.inputs i) ≡ true) (here_b ∙ sym here_a) some.2

-- a column of one sort that is covered in both rows meets
column-complete : (step : Step) (j : ℕ) (a b : Cell) → has_edge a ≡ has_edge b → cell_covers step j a ≡ true → cell_covers step j b ≡ true → column_meets a b ≡ true
column-complete step j a b s h k = at (has_edge a) refl
  where
    at : (p : Bool) → has_edge a ≡ p → column_meets a b ≡ true
    at true e =
        let f : has_edge b ≡ true = sym s ∙ e in
        let by_a : edge_covers a step.old (step.inputs j) ≡ true = and-right (j == step.input) _ (covered-edge step j a e h) in
        let by_b : edge_covers b step.old (step.inputs j) ≡ true = and-right (j == step.input) _ (covered-edge step j b f k) in
        if-true (has_edge a) _ _ e ∙ both (has_edge b) (changes_meet a b) f
        (change-among (λ v w. edge_covers a v w && edge_covers b v w) step.old (step.inputs j) edge_changes
        (edge-change a step.old (step.inputs j) by_a) (both _ _ by_a by_b))
    at false e =
        let f : has_edge b ≡ false = sym s ∙ e in
        let by_a : level_covers a.first (step.inputs j) ≡ true = covered-level step j a e h in
        let by_b : level_covers b.first (step.inputs j) ≡ true = covered-level step j b f k in
        if-false (has_edge a) _ _ e ∙ both (not (has_edge b)) (values_meet a.first b.first) (ap not f)
        (value-among (λ v. level_covers a.first v && level_covers b.first v) (step.inputs j) values
        (level-value a.first (step.inputs j) by_a) (both _ _ by_a by_b))

columns-complete : (step : Step) (a b : RawRow) → length a.inputs ≡ length b.inputs → is_edge_row a ≡ is_edge_row b → cells_cover step a.inputs ≡ true → cells_cover step b.inputs ≡ true → columns_meet a.inputs b.inputs ≡ true
columns-complete step a b w s h k = zip-all column_meets (record { first = 0; second = 0 }) a.inputs b.inputs w (λ j l. at j l (omega (arith, w, l)))
  where
    at : (j : ℕ) → j < length a.inputs → j < length b.inputs → column_meets (cell_at a.inputs j) (cell_at b.inputs j) ≡ true
    at j in_a in_b =
        let sort : has_edge (cell_at a.inputs j) ≡ has_edge (cell_at b.inputs j) = two_tests _ _ (edge-of-both step a b j s h k in_a) (edge-of-both step b a j (sym s) k h in_b) in
        column-complete step j (cell_at a.inputs j) (cell_at b.inputs j) sort (covered-at step a.inputs j h in_a) (covered-at step b.inputs j k in_b)

differ-test : (x y : Value) → x ≢ y → not (is_same x y) ≡ true
differ-test x y h = at (is_same x y) refl
  where
    at : (b : Bool) → is_same x y ≡ b → not b ≡ true
    at true e = absurd (h (same-true x y e))
    at false e = refl

pub test-differs : (x y : Value) → not (is_same x y) ≡ true → x ≢ y
test-differs x y h e = let same : is_same x y ≡ true = ap (is_same x) (sym e) ∙ same-self x in cc

one-of-values : (s : Value) → is_same s Z ≡ false → list_any (is_same s) values ≡ true
one-of-values Zero h = refl
one-of-values One h = refl
one-of-values X h = refl
one-of-values Z h = cc

-- each clash is found
pub clash-complete : (a b : RawRow) → length a.inputs ≡ length b.inputs → Clash a b → rows_clash a b ≡ true
clash-complete a b w c =
    let s = c.common.state in
    both (columns_meet a.inputs b.inputs) (states_differ a b)
    (columns-complete c.common a b w c.same_sort (and-left _ (state_covers a.state s) c.covered_by_a) (and-left _ (state_covers b.state s) c.covered_by_b))
    (value-among (state_differs a b) s values (one-of-values s c.state)
    (both _ _ (both _ _ (and-right (cells_cover c.common a.inputs) _ c.covered_by_a) (and-right (cells_cover c.common b.inputs) _ c.covered_by_b)) (differ-test (output a s) (output b s) c.different)))
