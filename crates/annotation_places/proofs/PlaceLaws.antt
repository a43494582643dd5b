-- Indexes that hold what their keys say are indexes of the circuit.
use Rattle.std.specs.Prelude.{◌≡◌, refl, ℕ, zero, suc, ◌+◌, ◌-◌, ◌<◌, ◌≤◌, ◌^◌, ◌&&◌, nat_eq, nat_lt, bytes_eq, Bool, true, false, if◌then◌else◌, List, [], ◌∷◌, length, map, slice_index_or}
use Rattle.std.specs.List.{range_with_len}
use Rattle.std.specs.Cmp.Lexicographic.{bytes_decides}
use Rattle.std.proofs.Common.{ap, sym, ◌∙◌, subst, arith}
use Rattle.std.proofs.Math.Bool.{and-false}
use Rattle.std.proofs.lemmas.Bool.Decides.{nat_tests}
use Rattle.std.proofs.lemmas.List.{get_or_past, length-map}
use Rattle.sg_circuit.specs.Circuit.{Circuit, Kind, Gate, Udp, Pass, Leg, Path, Late, Scope, net_at, element_at, scope_at}
use Rattle.sg_circuit.specs.Closed.{IsClosed}
use Rattle.sg_circuit.specs.Seen.{circuit_seen, scope_seen, AreIndexed}
use Rattle.sg_circuit.specs.Paths as specify
use Rattle.sg_circuit.specs.Checks.{CheckConditions}
use Rattle.sg_circuit.specs.declared.nets.Driver.TheVariants as driver
use Rattle.sg_circuit.specs.declared.checks.Check.{Check}
use Rattle.sg_circuit.specs.declared.checks.CheckTiming.{CheckTiming}
use Rattle.annotation_model.specs.Ports.{has}
use Rattle.annotation_model.specs.Scopes.{is_scope}
use Rattle.annotation_model.specs.Spots.{path_spot, spots, spots_in, spots_of, scope_of, checked, all_checked}
use Rattle.annotation_model.specs.Finding.{no_spot, no_check, spot_at, check_at}
use Rattle.annotation_index.specs.Candidates.{output_of}
use Rattle.annotation_index.specs.declared.index.Index.{Index}
use Rattle.annotation_index.specs.Index.{list_at, same_key}
use Rattle.annotation_index.proofs.SourceLaws.{has_range}
use Rattle.annotation_spots.specs.declared.spots.Spot as code_spot
use Rattle.annotation_spots.specs.Rows.{AreRows, AreFirsts, IsIn, spots_before}
use Rattle.annotation_spots.proofs.RowLaws.{before-next, spot-of_row}
use Rattle.annotation_places.specs.declared.places.Places as code_places
use Rattle.annotation_places.specs.Places.{led_by, ArePlaces, variables_of}
use Rattle.annotation_places.specs.Indexes.{nothing, Holds, HoldsVariables, is_inside, is_of_module, stands_in, refers_to}
use Rattle.annotation_places.proofs.IndexLaws.{has_key, has_no_key, all_below}

same_name : (name : List ℕ) → bytes_eq name name ≡ true
same_name name = (bytes_decides name name).1 refl

number_test : (o : ℕ) → nat_eq o o ≡ true
number_test o = grind (arith, nat_tests)

-- a key is itself
key_test : (o : ℕ) (name : List ℕ) → same_key o name o name ≡ true
key_test o name = ap (λ b. b && bytes_eq name name) (number_test o) ∙ same_name name

below_or_past : (s n : ℕ) (P : Type 0) → (s < n → P) → (n ≤ s → P) → P
below_or_past s n P under past = by (nat_lt s n) refl
  where
    below : nat_lt s n ≡ true → s < n
    below e = grind (arith, nat_tests)

    over : nat_lt s n ≡ false → n ≤ s
    over e = grind (arith, nat_tests)

    by : (b : Bool) → nat_lt s n ≡ b → P
    by true e = under (below e)
    by false e = past (over e)

module _ (c : Circuit) where
  -- ---- scopes

  -- a scope past the end stands nowhere
  past_inside : (s o : ℕ) (name : List ℕ) → length c.scopes ≤ s → is_inside c s o name ≡ false
  past_inside s o name l = ap (λ (t : Scope). bytes_eq t.name name && is_scope o t.parent) (get_or_past c.scopes s _ l) ∙ and-false (bytes_eq [] name)

  pub inside_of : (index : Index) → Holds nothing index (is_inside c) (length c.scopes)
      → (s p : ℕ) (name : List ℕ) → has s (list_at index p name) ≡ (bytes_eq (scope_at c s).name name && is_scope p (scope_at c s).parent)
  inside_of index h s p name =
      below_or_past s (length c.scopes) (has s (list_at index p name) ≡ is_inside c s p name) (λ l. has_key index (is_inside c) (length c.scopes) h s p name l)
      (λ l. has_no_key index (is_inside c) (length c.scopes) h s p name l ∙ sym (past_inside s p name l))

  pub by_module : (index : Index) → Holds nothing index (is_of_module c) (length c.scopes)
      → (s : ℕ) (name : List ℕ) → s < length c.scopes → has s (list_at index 0 name) ≡ bytes_eq (scope_at c s).module_name name
  by_module index h s name l = has_key index (is_of_module c) (length c.scopes) h s 0 name l

  -- ---- legs and paths

  pub by_scope : (index : Index) (n : ℕ) → n ≡ length (spots c) → Holds nothing index (stands_in c) n → (k : ℕ) → k < length (spots c) → has k (list_at index (scope_of (spot_at c k)) []) ≡ true
  by_scope index n same h k l = has_key index (stands_in c) n h k (scope_of (spot_at c k)) [] (omega (arith, l, same)) ∙ key_test (scope_of (spot_at c k)) []

  path_output : (s output : ℕ) (ps : List specify.Path) (p : ℕ) → p < length (map (path_spot s output) ps) → output_of (slice_index_or (map (path_spot s output) ps) p no_spot) ≡ output
  path_output s output [] p l = absurd (omega arith)
  path_output s output (x ∷ xs) zero l = refl
  path_output s output (x ∷ xs) (suc p) l = path_output s output xs p (omega arith)

  kind_output : (s : ℕ) (inputs : List ℕ) (output : ℕ) (k : Kind) (p : ℕ) → p < length (spots_in s inputs output k) → output_of (slice_index_or (spots_in s inputs output k) p no_spot) ≡ output
  kind_output s inputs output (Gate gate delays) p l = absurd (omega arith)
  kind_output s inputs output (Udp primitive value delays) p l = absurd (omega arith)
  kind_output s inputs output (Pass constant) p l = absurd (omega arith)
  kind_output s inputs output (Leg timings) zero l = refl
  kind_output s inputs output (Leg timings) (suc p) l = absurd (omega arith)
  kind_output s inputs output (Path paths style) p l = path_output s output paths p l
  kind_output s inputs output (Late delay) p l = absurd (omega arith)

  -- what leads to the output of an element is led by it
  led : (firsts : List ℕ) → AreFirsts c firsts → (row : code_spot.Spot) → IsIn c row → (net_at c (element_at c row.element).output).driver ≡ driver.Element row.element
      → has (spots_before c.elements row.element + row.path) (led_by firsts (net_at c (element_at c row.element).output).driver) ≡ true
  led firsts are row at named =
      ap (λ d. has (spots_before c.elements row.element + row.path) (led_by firsts d)) named
      ∙ (ap (λ n. has (spots_before c.elements row.element + row.path) (range_with_len n (slice_index_or firsts (row.element + 1) 0 - n))) here
      ∙ has_range (spots_before c.elements row.element) (slice_index_or firsts (row.element + 1) 0 - spots_before c.elements row.element) (spots_before c.elements row.element + row.path) (omega arith)
      (let among : row.path < length (spots_of (element_at c row.element)) = at.path in omega (arith, there, next, among)))
    where
      here : slice_index_or firsts row.element 0 ≡ spots_before c.elements row.element
      here = are.each row.element 0 (let l = at.element in omega arith)

      there : slice_index_or firsts (row.element + 1) 0 ≡ spots_before c.elements (row.element + 1)
      there = are.each (row.element + 1) 0 (let l = at.element in omega arith)

      next : spots_before c.elements (row.element + 1) ≡ spots_before c.elements row.element + length (spots_of (element_at c row.element))
      next = before-next c.elements row.element at.element

  pub by_net : (rows : List code_spot.Spot) (firsts : List ℕ) → IsClosed c → AreRows c rows → AreFirsts c firsts
      → (k : ℕ) → k < length (spots c) → has k (led_by firsts (net_at c (output_of (spot_at c k))).driver) ≡ true
  by_net rows firsts closed are_rows are_firsts k l =
      ap (λ n. has k (led_by firsts (net_at c n).driver)) output
      ∙ subst (λ n. has n (led_by firsts (net_at c (element_at c row.element).output).driver) ≡ true) (are_rows.number k no_row m) (led firsts are_firsts row at (closed.named row.element at.element))
    where
      no_row : code_spot.Spot
      no_row = record { element = 0; path = 0 }

      row : code_spot.Spot
      row = slice_index_or rows k no_row

      m : k < length rows
      m = let same : length rows ≡ length (spots c) = are_rows.count in omega (arith, l, same)

      at : IsIn c row
      at = are_rows.within k no_row m

      output : output_of (spot_at c k) ≡ (element_at c row.element).output
      output =
          ap output_of (spot-of_row c rows k no_row no_spot are_rows m)
          ∙ kind_output (element_at c row.element).scope (element_at c row.element).inputs (element_at c row.element).output (element_at c row.element).kind row.path at.path

  -- ---- timing checks

  pub by_reference : (index : Index) (n : ℕ) → n ≡ length (all_checked c) → Holds nothing index (refers_to c) n
      → (k : ℕ) → k < length (all_checked c) → has k (list_at index (check_at c k).timing.refer.net []) ≡ true
  by_reference index n same h k l = has_key index (refers_to c) n h k (check_at c k).timing.refer.net [] (omega (arith, l, same)) ∙ key_test (check_at c k).timing.refer.net []

pub length-checked : (ks : List Check) (ts : List CheckTiming) (ws : List CheckConditions) → length ts ≡ length ks → length ws ≡ length ks → length (checked ks ts ws) ≡ length ks
length-checked [] ts ws e f = refl
length-checked (k ∷ ks) [] ws e f = absurd (omega (arith, e))
length-checked (k ∷ ks) (t ∷ ts) [] e f = absurd (omega (arith, f))
length-checked (k ∷ ks) (t ∷ ts) (w ∷ ws) e f = ap suc (length-checked ks ts ws (omega (arith, e)) (omega (arith, f)))

-- what a check looks for stands at its place
pub checked_timing : (ks : List Check) (ts : List CheckTiming) (ws : List CheckConditions) (k : ℕ) (d : CheckTiming) → k < length (checked ks ts ws) → (slice_index_or (checked ks ts ws) k no_check).timing ≡ slice_index_or ts k d
checked_timing [] ts ws k d l = absurd (omega arith)
checked_timing (x ∷ xs) [] ws k d l = absurd (omega arith)
checked_timing (x ∷ xs) (t ∷ ts) [] k d l = absurd (omega arith)
checked_timing (x ∷ xs) (t ∷ ts) (w ∷ ws) zero d l = refl
checked_timing (x ∷ xs) (t ∷ ts) (w ∷ ws) (suc k) d l = checked_timing xs ts ws k d (omega arith)

-- ---- all of it

module _ (p : code_places.Places) (closed : IsClosed (circuit_seen p.parts.now)) where
  checks_same : length p.parts.now.checks.items ≡ length (all_checked (circuit_seen p.parts.now))
  checks_same = sym (length-checked (circuit_seen p.parts.now).checks (circuit_seen p.parts.now).check_timings (circuit_seen p.parts.now).check_conditions closed.timing_of_each closed.conditions_of_each)

  pub are_places : AreIndexed p.parts.now → AreRows (circuit_seen p.parts.now) p.spots.items → length p.spots.items < 2 ^ 32 → AreFirsts (circuit_seen p.parts.now) p.firsts.items
      → Holds nothing p.inside (is_inside (circuit_seen p.parts.now)) (length p.parts.now.scopes.items)
      → Holds nothing p.modules (is_of_module (circuit_seen p.parts.now)) (length p.parts.now.scopes.items)
      → Holds nothing p.standing (stands_in (circuit_seen p.parts.now)) (length p.spots.items)
      → Holds nothing p.referring (refers_to (circuit_seen p.parts.now)) (length p.parts.now.checks.items)
      → HoldsVariables (circuit_seen p.parts.now) p.variables (length p.parts.now.scopes.items) → ArePlaces p
  are_places indexed rows few firsts inside modules standing referring variables = record {
    closed = closed;
    indexed = indexed;
    rows = rows;
    few = few;
    firsts = firsts;
    named = (inside.named, (modules.named, (standing.named, (referring.named, variables.named))));
    exact = record {
      inside_of = inside_of (circuit_seen p.parts.now) p.inside (subst (λ n. Holds nothing p.inside (is_inside (circuit_seen p.parts.now)) n) scopes_same inside);
      by_module = by_module (circuit_seen p.parts.now) p.modules (subst (λ n. Holds nothing p.modules (is_of_module (circuit_seen p.parts.now)) n) scopes_same modules);
      by_net = by_net (circuit_seen p.parts.now) p.spots.items p.firsts.items closed rows firsts;
      by_scope = by_scope (circuit_seen p.parts.now) p.standing (length p.spots.items) rows.count standing;
      by_reference = by_reference (circuit_seen p.parts.now) p.referring (length p.parts.now.checks.items) checks_same referring;
    };
    scopes_inside = all_below p.inside (is_inside (circuit_seen p.parts.now)) (length p.parts.now.scopes.items) inside;
    scopes_of = all_below p.modules (is_of_module (circuit_seen p.parts.now)) (length p.parts.now.scopes.items) modules 0;
    spots_of = λ s. all_below p.standing (stands_in (circuit_seen p.parts.now)) (length p.spots.items) standing s [];
    checks_of = λ net. all_below p.referring (refers_to (circuit_seen p.parts.now)) (length p.parts.now.checks.items) referring net [];
    variables = λ s name l. variables.items s name ∙ ap (λ b. if b then variables_of (circuit_seen p.parts.now) s name else []) (below s l);
  }
    where
      scopes_same : length p.parts.now.scopes.items ≡ length (circuit_seen p.parts.now).scopes
      scopes_same = sym (length-map p.parts.now.scopes.items (λ s. scope_seen s))

      below : (s : ℕ) → s < length p.parts.now.scopes.items → nat_lt s (length p.parts.now.scopes.items) ≡ true
      below s l = grind (arith, nat_tests)

-- the circuit is another name of what its parts stand for, and the rows were lent
pub all_made : (p : code_places.Places) (circuit : Circuit) (lent : List code_spot.Spot) → circuit_seen p.parts.now ≡ circuit → IsClosed circuit → AreIndexed p.parts.now → AreRows circuit p.spots.items
    → length p.spots.items < 2 ^ 32 → AreFirsts circuit p.firsts.items → Holds nothing p.inside (is_inside (circuit_seen p.parts.now)) (length p.parts.now.scopes.items)
    → Holds nothing p.modules (is_of_module (circuit_seen p.parts.now)) (length p.parts.now.scopes.items) → lent ≡ p.spots.items
    → Holds nothing p.standing (stands_in (circuit_seen p.parts.now)) (length lent) → Holds nothing p.referring (refers_to (circuit_seen p.parts.now)) (length p.parts.now.checks.items)
    → HoldsVariables (circuit_seen p.parts.now) p.variables (length p.parts.now.scopes.items) → ArePlaces p
all_made p circuit lent seen closed indexed rows few firsts inside modules same standing referring variables =
    are_places p (subst (λ c. IsClosed c) (sym seen) closed) indexed (subst (λ c. AreRows c p.spots.items) (sym seen) rows) few (subst (λ c. AreFirsts c p.firsts.items) (sym seen) firsts) inside modules
    (subst (λ xs. Holds nothing p.standing (stands_in (circuit_seen p.parts.now)) (length xs)) same standing) referring variables
