-- What the test of columns and states finds is a clash: a common step, built column by column.
use Rattle.std.proofs.Common.{◌≡◌, ◌≢◌, ℕ, zero, suc, ◌<◌, ◌==◌, Bool, true, false, ◌&&◌, ◌||◌, not, if◌then◌else◌, cond, List, [], ◌∷◌, length, refl, sym, ◌∙◌, ap, subst, arith}
use Rattle.std.specs.List.{list_any}
use Rattle.std.proofs.lemmas.Bool.Decides.{nat_tests}
use Rattle.sg_logic.specs.declared.values.Value.{Value}
use Rattle.sg_logic.specs.declared.values.Value.TheVariants.{Zero, One, X, Z}
use Rattle.sg_logic.specs.Values.{is_same}
use Rattle.sg_logic.specs.Edges.{edge_changes}
use Rattle.udp_rows.specs.declared.cells.Cell.{Cell}
use Rattle.udp_rows.specs.declared.cells.RawRow.{RawRow}
use Rattle.udp_rows.specs.Symbols.{has_edge, level_covers, edge_covers}
use Rattle.udp_rows.specs.Meaning.{Step, cell_covers, cells_cover, state_covers, output}
use Rattle.udp_rows.specs.Clash.{Clash}
use Rattle.udp_rows.specs.Columns.{values, values_meet, changes_meet, column_meets, columns_meet, state_differs, states_differ, rows_clash}
use Rattle.udp_rows.proofs.Lists.{both, and-left, and-right, not-true, pick_or, pick_or-passes, zip-each}
use Rattle.udp_rows.proofs.Covered.{cell_at, eqb-true, eqb-self, all-covered, HasOneEdge}
use Rattle.udp_rows.proofs.ClashLaws.{if-true, if-false, test-differs}

below_other : (j n : ℕ) → j < suc n → (j == n) ≡ false → j < n
below_other j n l e = grind (arith, nat_tests)

-- a change that both cells cover, and a value
change_of : Cell → Cell → Value × Value
change_of a b = pick_or (λ change. edge_covers a change.0 change.1 && edge_covers b change.0 change.1) (Zero, One) edge_changes

change-covers : (a b : Cell) → changes_meet a b ≡ true → (edge_covers a (change_of a b).0 (change_of a b).1 && edge_covers b (change_of a b).0 (change_of a b).1) ≡ true
unfolding change_of
change-covers a b h = pick_or-passes (λ change. edge_covers a change.0 change.1 && edge_covers b change.0 change.1) (Zero, One) edge_changes h

value_of : Cell → Cell → Value
value_of a b = pick_or (λ v. level_covers a.first v && level_covers b.first v) Zero values

value-covers : (a b : Cell) → values_meet a.first b.first ≡ true → (level_covers a.first (value_of a b) && level_covers b.first (value_of a b)) ≡ true
unfolding value_of
value-covers a b h = pick_or-passes (λ v. level_covers a.first v && level_covers b.first v) Zero values h

-- where a row has its edge, among its first n cells
abbrev input_of : List Cell → ℕ → ℕ
input_of cells zero = 0
input_of cells (suc n) = if has_edge (cell_at cells n) then n else input_of cells n

input-is : (cells : List Cell) → HasOneEdge cells → (n j : ℕ) → j < n → has_edge (cell_at cells j) ≡ true → input_of cells n ≡ j
input-is cells u zero j l e = absurd (omega arith)
input-is cells u (suc n) j l e = at (has_edge (cell_at cells n)) refl (input-is cells u n j)
  where
    at : (b : Bool) → has_edge (cell_at cells n) ≡ b → (j < n → has_edge (cell_at cells j) ≡ true → input_of cells n ≡ j) → (if b then n else input_of cells n) ≡ j
    at true f rest = u n j f e
    at false f rest = rest (below_other j n l (elsewhere (j == n) refl)) e
      where
        elsewhere : (c : Bool) → (j == n) ≡ c → (j == n) ≡ false
        elsewhere true g = let k : has_edge (cell_at cells n) ≡ true = subst (λ i. has_edge (cell_at cells i) ≡ true) (eqb-true j n g) e in cc
        elsewhere false g = g

-- a column in which both cells are of one sort and cover a step
record IsCovered (step : Step) (j : ℕ) (a b : Cell) : Type 0 where
  pub sort : has_edge a ≡ has_edge b
  pub by_a : cell_covers step j a ≡ true
  pub by_b : cell_covers step j b ≡ true

-- what the common step has in a column
record IsCommon (a b : List Cell) (step : Step) : Type 0 where
  pub old : step.old ≡ (change_of (cell_at a step.input) (cell_at b step.input)).0
  pub edges : (j : ℕ) → has_edge (cell_at a j) ≡ true → step.inputs j ≡ (change_of (cell_at a j) (cell_at b j)).1
  pub levels : (j : ℕ) → has_edge (cell_at a j) ≡ false → step.inputs j ≡ value_of (cell_at a j) (cell_at b j)

covers-edge : (step : Step) (j : ℕ) (c : Cell) → has_edge c ≡ true → step.input ≡ j → edge_covers c step.old (step.inputs j) ≡ true → cell_covers step j c ≡ true
covers-edge step j c e i h = if-true (has_edge c) _ _ e ∙ both (j == step.input) (edge_covers c step.old (step.inputs j)) (ap (λ k. j == k) i ∙ eqb-self j) h

covers-level : (step : Step) (j : ℕ) (c : Cell) → has_edge c ≡ false → level_covers c.first (step.inputs j) ≡ true → cell_covers step j c ≡ true
covers-level step j c e h = if-false (has_edge c) _ _ e ∙ h

column-sound : (step : Step) (j : ℕ) (a b : Cell)
    → (has_edge a ≡ true → (step.input ≡ j) × (step.old ≡ (change_of a b).0) × (step.inputs j ≡ (change_of a b).1))
    → (has_edge a ≡ false → step.inputs j ≡ value_of a b)
    → column_meets a b ≡ true → IsCovered step j a b
column-sound step j a b edge level h = at (has_edge a) refl
  where
    at : (p : Bool) → has_edge a ≡ p → IsCovered step j a b
    at true e =
        let k = sym (if-true (has_edge a) _ _ e) ∙ h in
        let f : has_edge b ≡ true = and-left (has_edge b) _ k in
        let c = change-covers a b (and-right (has_edge b) _ k) in
        let is = edge e in
        let in_a : edge_covers a step.old (step.inputs j) ≡ true = ap (λ v. edge_covers a v (step.inputs j)) is.1 ∙ (ap (λ w. edge_covers a (change_of a b).0 w) is.2 ∙ and-left _ (edge_covers b (change_of a b).0 (change_of a b).1) c) in
        let in_b : edge_covers b step.old (step.inputs j) ≡ true = ap (λ v. edge_covers b v (step.inputs j)) is.1 ∙ (ap (λ w. edge_covers b (change_of a b).0 w) is.2 ∙ and-right (edge_covers a (change_of a b).0 (change_of a b).1) _ c) in
        record { sort = e ∙ sym f; by_a = covers-edge step j a e is.0 in_a; by_b = covers-edge step j b f is.0 in_b }
    at false e =
        let k = sym (if-false (has_edge a) _ _ e) ∙ h in
        let f : has_edge b ≡ false = not-true (has_edge b) (and-left (not (has_edge b)) _ k) in
        let c = value-covers a b (and-right (not (has_edge b)) _ k) in
        let in_a : level_covers a.first (step.inputs j) ≡ true = ap (level_covers a.first) (level e) ∙ and-left _ (level_covers b.first (value_of a b)) c in
        let in_b : level_covers b.first (step.inputs j) ≡ true = ap (level_covers b.first) (level e) ∙ and-right (level_covers a.first (value_of a b)) _ c in
        record { sort = e ∙ sym f; by_a = covers-level step j a e in_a; by_b = covers-level step j b f in_b }

any-same : (xs ys : List Cell) → length xs ≡ length ys → ((j : ℕ) → j < length xs → has_edge (cell_at xs j) ≡ has_edge (cell_at ys j)) → list_any has_edge xs ≡ list_any has_edge ys
any-same [] [] w h = refl
any-same [] (y ∷ ys) w h = absurd (omega arith)
any-same (x ∷ xs) [] w h = absurd (omega arith)
any-same (x ∷ xs) (y ∷ ys) w h = ap (λ b. b || list_any has_edge xs) (h 0 (omega arith)) ∙ ap (λ b. has_edge y || b) (any-same xs ys (omega arith) (λ j l. h (suc j) (omega arith)))

-- a step that both rows cover, by their columns
common_of : List Cell → List Cell → Value → Step
common_of a b s = record {
  input = input_of a (length a);
  old = (change_of (cell_at a (input_of a (length a))) (cell_at b (input_of a (length a)))).0;
  inputs = λ j. if has_edge (cell_at a j) then (change_of (cell_at a j) (cell_at b j)).1 else value_of (cell_at a j) (cell_at b j);
  state = s;
}

common-is : (a b : List Cell) (s : Value) → IsCommon a b (common_of a b s)
unfolding common_of
common-is a b s = record {
  old = refl;
  edges = λ j e. if-true (has_edge (cell_at a j)) _ _ e;
  levels = λ j e. if-false (has_edge (cell_at a j)) _ _ e;
}

common-input : (a b : List Cell) (s : Value) → (common_of a b s).input ≡ input_of a (length a)
unfolding common_of
common-input a b s = refl

common-state : (a b : List Cell) (s : Value) → (common_of a b s).state ≡ s
unfolding common_of
common-state a b s = refl

columns-sound : (a b : List Cell) (s : Value) → length a ≡ length b → HasOneEdge a → columns_meet a b ≡ true → (j : ℕ) → j < length a → IsCovered (common_of a b s) j (cell_at a j) (cell_at b j)
columns-sound a b s w u h j l = at (common-is a b s)
  where
    at : IsCommon a b (common_of a b s) → IsCovered (common_of a b s) j (cell_at a j) (cell_at b j)
    at is =
        column-sound (common_of a b s) j (cell_at a j) (cell_at b j)
        (λ e. let place : (common_of a b s).input ≡ j = common-input a b s ∙ input-is a u (length a) j l e in
        (place, is.old ∙ ap (λ i. (change_of (cell_at a i) (cell_at b i)).0) place, is.edges j e))
        (λ e. is.levels j e)
        (zip-each column_meets (record { first = 0; second = 0 }) a b h w j l)

read-values : (p q r : Bool) → is_same (cond p Zero (cond q One (cond r X Zero))) Z ≡ false
read-values true q r = refl
read-values false true r = refl
read-values false false true = refl
read-values false false false = refl

clash-at : (a b : RawRow) (s : Value) → length a.inputs ≡ length b.inputs → HasOneEdge a.inputs → columns_meet a.inputs b.inputs ≡ true → is_same s Z ≡ false → state_differs a b s ≡ true → Clash a b
clash-at a b s w u h r t =
    let step : Step = common_of a.inputs b.inputs s in
    let columns = columns-sound a.inputs b.inputs s w u h in
    let is_s : s ≡ step.state = sym (common-state a.inputs b.inputs s) in
    let states : (state_covers a.state s && state_covers b.state s) ≡ true = and-left _ (not (is_same (output a s) (output b s))) t in
    record {
      same_sort = any-same a.inputs b.inputs w (λ j l. (columns j l).sort);
      common = step;
      state = subst (λ v. is_same v Z ≡ false) is_s r;
      covered_by_a = both (cells_cover step a.inputs) (state_covers a.state step.state) (all-covered step a.inputs (λ j l. (columns j l).by_a)) (subst (λ v. state_covers a.state v ≡ true) is_s (and-left _ (state_covers b.state s) states));
      covered_by_b = both (cells_cover step b.inputs) (state_covers b.state step.state) (all-covered step b.inputs (λ j l. (columns j (omega (arith, w, l))).by_b)) (subst (λ v. state_covers b.state v ≡ true) is_s (and-right (state_covers a.state s) _ states));
      different = subst (λ v. output a v ≢ output b v) is_s (test-differs (output a s) (output b s) (and-right (state_covers a.state s && state_covers b.state s) _ t));
    }

-- what is found is a clash
pub clash-sound : (a b : RawRow) → length a.inputs ≡ length b.inputs → HasOneEdge a.inputs → rows_clash a b ≡ true → Clash a b
clash-sound a b w u h =
    clash-at a b (pick_or (state_differs a b) Zero values) w u (and-left (columns_meet a.inputs b.inputs) (states_differ a b) h)
    (unfold pick_or in read-values (state_differs a b Zero) (state_differs a b One) (state_differs a b X))
    (pick_or-passes (state_differs a b) Zero values (and-right (columns_meet a.inputs b.inputs) (states_differ a b) h))
