-- Among the candidates that indexes give is each place that an entry is for.
use Rattle.std.specs.Prelude.{◌≡◌, refl, ℕ, ◌<◌, ◌==◌, ◌&&◌, ◌||◌, nat_lt, Bool, true, false, if◌then◌else◌, All, List, [], ◌∷◌, ◌++◌, map, reverse, length, Option, Some, None, IfSome}
use Rattle.std.specs.List.{flat_map}
use Rattle.std.proofs.Common.{ap, ◌∙◌, arith}
use Rattle.std.proofs.Math.Bool.{or-true}
use Rattle.std.proofs.lemmas.Bool.{and_parts}
use Rattle.std.proofs.lemmas.Bool.Decides.{nat_tests}
use Rattle.std.proofs.lemmas.List.{reverse-reverse}
use Rattle.std.proofs.lemmas.List.Elements.{All-nil, All-cons, All-append, All-head, All-tail}
use Rattle.sg_circuit.specs.Circuit.{Circuit, Element, Kind, Gate, Udp, Pass, Leg, Path, Late, scope_at}
use Rattle.sg_circuit.specs.Closed.{IsClosed}
use Rattle.sg_circuit.specs.Paths as specify
use Rattle.sg_circuit.specs.Checks.{CheckConditions}
use Rattle.sg_circuit.specs.declared.checks.Check.{Check}
use Rattle.sg_circuit.specs.declared.checks.CheckTiming.{CheckTiming}
use Rattle.sdf_tree.specs.Written.{Port}
use Rattle.sdf_tree.specs.Meant.{Triple, CellCheck, EntryKind, io_path, device, port_delay, interconnect, path_pulse, a_check, skipped_entry, Sdf}
use Rattle.annotation_model.specs.Given.{Given}
use Rattle.annotation_model.specs.Scopes.{names_back, climb, is_scope, is_of_cell}
use Rattle.annotation_model.specs.Ports.{has, is_input, is_output, is_any, nets_named}
use Rattle.annotation_model.specs.Same.{fits_edge, fits_words}
use Rattle.annotation_model.specs.Matching.{port_nets, fits_path, fits_condition, leads_between, named_from, is_cell_scope, leads_below, is_source, only, fits_leg, fits_check, fits_event, fits_datum}
use Rattle.annotation_model.specs.Matching.{terminals_of, given_by, limits_for, none_given}
use Rattle.annotation_model.specs.Spots.{Spot, leg_spot, path_spot, spots, spots_in, spots_of, scope_of, is_for_spot, Checked, checked, all_checked, is_for_check, is_given}
use Rattle.annotation_model.specs.Finding.{spot_at, check_at, is_found_spot, is_found_check}
use Rattle.annotation_model.proofs.ListedLaws.{test_same}
use Rattle.annotation_model.proofs.TableLaws.{below_if}
use Rattle.annotation_index.specs.Picking.{HasEach}
use Rattle.annotation_index.specs.Candidates.{output_of, Lookups, AreOf, descend, AreOfCell, to_output, to_named, spots_for, checks_for}
use Rattle.annotation_index.proofs.ScopeLaws.{climb-within, descended}

-- ---- lists

has-left : (k : ℕ) (xs ys : List ℕ) → has k xs ≡ true → has k (xs ++ ys) ≡ true
has-left k [] ys h = absurd cc
has-left k (x ∷ xs) ys h = by (x == k) h (λ e. has-left k xs ys e)
  where
    by : (b : Bool) → (b || has k xs) ≡ true → (has k xs ≡ true → has k (xs ++ ys) ≡ true) → (b || has k (xs ++ ys)) ≡ true
    by true e rec = refl
    by false e rec = rec e

has-right : (k : ℕ) (xs ys : List ℕ) → has k ys ≡ true → has k (xs ++ ys) ≡ true
has-right k [] ys h = h
has-right k (x ∷ xs) ys h = ap (λ b. (x == k) || b) (has-right k xs ys h) ∙ or-true (x == k)

same_if : (x k : ℕ) → (x == k) ≡ true → x ≡ k
same_if x k e = grind (arith, nat_tests)

pub has-flat : (f : ℕ → List ℕ) (xs : List ℕ) (x k : ℕ) → has x xs ≡ true → has k (f x) ≡ true → has k (flat_map f xs) ≡ true
has-flat f [] x k h e = absurd cc
has-flat f (y ∷ ys) x k h e = by (y == x) refl h (λ g. has-flat f ys x k g e)
  where
    by : (b : Bool) → (y == x) ≡ b → (b || has x ys) ≡ true → (has x ys ≡ true → has k (flat_map f ys) ≡ true) → has k (f y ++ flat_map f ys) ≡ true
    by true s g rec = has-left k (f y) (flat_map f ys) (ap (λ n. has k (f n)) (same_if y x s) ∙ e)
    by false s g rec = has-right k (f y) (flat_map f ys) (rec g)

-- ---- places stand in scopes of the circuit

module _ (n : ℕ) where
  paths-within : (s output : ℕ) (ps : List specify.Path) → s < n → All (λ x. scope_of x < n) (map (path_spot s output) ps)
  paths-within s output [] l = All-nil (λ x. scope_of x < n)
  paths-within s output (p ∷ ps) l = All-cons (λ x. scope_of x < n) (path_spot s output p) (map (path_spot s output) ps) l (paths-within s output ps l)

  kind-within : (s : ℕ) (inputs : List ℕ) (output : ℕ) (kind : Kind) → s < n → All (λ x. scope_of x < n) (spots_in s inputs output kind)
  kind-within s inputs output (Leg timings) l = All-cons (λ x. scope_of x < n) (leg_spot s inputs output timings) [] l (All-nil (λ x. scope_of x < n))
  kind-within s inputs output (Path paths style) l = paths-within s output paths l
  kind-within s inputs output (Gate kind delays) l = All-nil (λ x. scope_of x < n)
  kind-within s inputs output (Udp primitive value delays) l = All-nil (λ x. scope_of x < n)
  kind-within s inputs output (Pass constant) l = All-nil (λ x. scope_of x < n)
  kind-within s inputs output (Late delay) l = All-nil (λ x. scope_of x < n)

  pub spots-within : (es : List Element) → All (λ e. e.scope < n) es → All (λ x. scope_of x < n) (flat_map spots_of es)
  spots-within [] h = All-nil (λ x. scope_of x < n)
  spots-within (e ∷ es) h =
      All-append (λ x. scope_of x < n) (spots_of e) (flat_map spots_of es) (kind-within e.scope e.inputs e.output e.kind (All-head (λ (x : Element). x.scope < n) e es h))
      (spots-within es (All-tail (λ (x : Element). x.scope < n) e es h))

  pub checks-within : (ks : List Check) (ts : List CheckTiming) (ws : List CheckConditions) → All (λ k. k.scope < n) ks → All (λ (x : Checked). x.check.scope < n) (checked ks ts ws)
  checks-within (k ∷ ks) (t ∷ ts) (w ∷ ws) h =
      All-cons (λ (x : Checked). x.check.scope < n) (record { check = k; timing = t; written = w }) (checked ks ts ws) (All-head (λ (x : Check). x.scope < n) k ks h)
      (checks-within ks ts ws (All-tail (λ (x : Check). x.scope < n) k ks h))
  checks-within (k ∷ ks) (t ∷ ts) [] h = All-nil (λ (x : Checked). x.check.scope < n)
  checks-within (k ∷ ks) [] ws h = All-nil (λ (x : Checked). x.check.scope < n)
  checks-within [] ts ws h = All-nil (λ (x : Checked). x.check.scope < n)

module _ (c : Circuit) (sdf : Sdf) (g : Given) (l : Lookups) (closed : IsClosed c) (of_circuit : AreOf c l) (scopes : List ℕ) (of_cell : AreOfCell c sdf.divider g scopes) where
  has-scope : (s : ℕ) → s < length c.scopes → is_of_cell c sdf.divider g.cell_type g.instance s ≡ true → has s scopes ≡ true
  has-scope s within e = of_cell s within ∙ e

  -- ---- paths

  leads_out : (to : Port) (s output k : ℕ) → has s scopes ≡ true → has output (port_nets c sdf.divider is_output s to) ≡ true → has k (l.leading output) ≡ true
      → has k (to_output c sdf.divider l to scopes) ≡ true
  leads_out to s output k in_cell named leads =
      has-flat (λ t. flat_map l.leading (port_nets c sdf.divider is_output t to)) scopes s k in_cell (has-flat l.leading (port_nets c sdf.divider is_output s to) output k named leads)

  -- what fits a path leads to a net of the output port that is named, or stands in the scope
  path_in : (kind : EntryKind) (s output : ℕ) (p : specify.Path) (k : ℕ) → has s scopes ≡ true → has k (l.leading output) ≡ true → has k (l.standing s) ≡ true
      → fits_path c sdf.divider kind s output p ≡ true → has k (spots_for c sdf.divider l kind scopes) ≡ true
  path_in (io_path condition from to ds) s output p k in_cell leads stands e =
      leads_out to s output k in_cell
      (and_parts (has p.input (port_nets c sdf.divider is_input s from.port)) (has output (port_nets c sdf.divider is_output s to))
      (and_parts (leads_between c sdf.divider s from.port to output p) (fits_edge from.edge p.edge)
      (and_parts (leads_between c sdf.divider s from.port to output p && fits_edge from.edge p.edge) (fits_condition condition p.condition) e).0).0).1 leads
  path_in (device None ds) s output p k in_cell leads stands e = has-flat l.standing scopes s k in_cell stands
  path_in (device (Some port) ds) s output p k in_cell leads stands e = leads_out port s output k in_cell e leads
  path_in (path_pulse percent None r m) s output p k in_cell leads stands e = has-flat l.standing scopes s k in_cell stands
  path_in (path_pulse percent (Some ports) r m) s output p k in_cell leads stands e =
      leads_out ports.1 s output k in_cell (and_parts (has p.input (port_nets c sdf.divider is_input s ports.0)) (has output (port_nets c sdf.divider is_output s ports.1)) e).1 leads
  path_in (port_delay port ds) s output p k in_cell leads stands e = absurd cc
  path_in (interconnect from to ds) s output p k in_cell leads stands e = absurd cc
  path_in (a_check check) s output p k in_cell leads stands e = absurd cc
  path_in (skipped_entry skipped) s output p k in_cell leads stands e = absurd cc

  -- ---- legs

  -- a scope from which climbing comes to one of the cell is reached from there
  reached : (path : List (List ℕ)) (s t : ℕ) → climb c path (Some s) ≡ Some t → has s (descend l.inside (reverse path) t) ≡ true
  reached path s t e =
      descended c l of_circuit (reverse path) s t ∙ (ap (λ names. is_scope t (climb c names (Some s))) (reverse-reverse path) ∙ (ap (is_scope t) e ∙ test_same t t refl))

  named_in : (names : List (List ℕ)) (to : Port) (s output k : ℕ) → s < length c.scopes → has k (l.leading output) ≡ true
      → is_cell_scope c sdf.divider g (named_from c is_input s names output to) ≡ true → has k (to_named c l names to.bit scopes) ≡ true
  named_in [] to s output k within leads e = absurd cc
  named_in (name ∷ path) to s output k within leads e = by (has output (nets_named is_input (scope_at c s).variables name to.bit)) refl e
    where
      at : (up : Option ℕ) → climb c path (Some s) ≡ up → IfSome up (λ t. t < length c.scopes) → is_cell_scope c sdf.divider g up ≡ true
          → has s (flat_map (descend l.inside (reverse path)) scopes) ≡ true
      at None is m f = absurd cc
      at (Some t) is m f = has-flat (descend l.inside (reverse path)) scopes t s (has-scope t m f) (reached path s t is)

      by : (b : Bool) → has output (nets_named is_input (scope_at c s).variables name to.bit) ≡ b → is_cell_scope c sdf.divider g (if b then climb c path (Some s) else None) ≡ true
          → has k (to_named c l (name ∷ path) to.bit scopes) ≡ true
      by false named f = absurd cc
      by true named f =
          has-flat (λ t. flat_map l.leading (nets_named is_input (scope_at c t).variables name to.bit)) (flat_map (descend l.inside (reverse path)) scopes) s k
          (at (climb c path (Some s)) refl (climb-within c closed path (Some s) within) f)
          (has-flat l.leading (nets_named is_input (scope_at c s).variables name to.bit) output k named leads)

  -- what fits a leg leads to a net of the input port that is named below the cell
  leg_in : (kind : EntryKind) (s : ℕ) (inputs : List ℕ) (output k : ℕ) → s < length c.scopes → has k (l.leading output) ≡ true
      → fits_leg c sdf.divider g kind s inputs output ≡ true → has k (spots_for c sdf.divider l kind scopes) ≡ true
  leg_in (port_delay to ds) s inputs output k within leads e = named_in (names_back sdf.divider to.path) to s output k within leads e
  leg_in (interconnect from to ds) s inputs output k within leads e =
      named_in (names_back sdf.divider to.path) to s output k within leads
      (and_parts (is_cell_scope c sdf.divider g (leads_below c sdf.divider s output to)) (is_source c sdf.divider from (only inputs) (leads_below c sdf.divider s output to)) e).0
  leg_in (io_path condition from to ds) s inputs output k within leads e = absurd cc
  leg_in (device port ds) s inputs output k within leads e = absurd cc
  leg_in (path_pulse percent ports r m) s inputs output k within leads e = absurd cc
  leg_in (a_check check) s inputs output k within leads e = absurd cc
  leg_in (skipped_entry skipped) s inputs output k within leads e = absurd cc

  spot_in : (k : ℕ) (spot : Spot) → scope_of spot < length c.scopes → has k (l.leading (output_of spot)) ≡ true → has k (l.standing (scope_of spot)) ≡ true
      → is_for_spot c sdf.divider g spot ≡ true → has k (spots_for c sdf.divider l g.entry.kind scopes) ≡ true
  spot_in k (leg_spot s inputs output timings) within leads stands e = leg_in g.entry.kind s inputs output k within leads e
  spot_in k (path_spot s output p) within leads stands e =
      path_in g.entry.kind s output p k (has-scope s within (and_parts (is_of_cell c sdf.divider g.cell_type g.instance s) (fits_path c sdf.divider g.entry.kind s output p) e).0) leads stands
      (and_parts (is_of_cell c sdf.divider g.cell_type g.instance s) (fits_path c sdf.divider g.entry.kind s output p) e).1

  -- The candidates have each leg and each path that the entry is for.
  pub each_spot : HasEach (is_found_spot c sdf g) (spots_for c sdf.divider l g.entry.kind scopes)
  each_spot = record {
    each = λ k e.
        let m : k < length (spots c) = below_if k (length (spots c)) (and_parts (nat_lt k (length (spots c))) (is_for_spot c sdf.divider g (spot_at c k)) e).0 in
        spot_in k (spot_at c k) (spots-within (length c.scopes) c.elements closed.element_scopes k _ m) (of_circuit.by_net k m) (of_circuit.by_scope k m)
        (and_parts (nat_lt k (length (spots c))) (is_for_spot c sdf.divider g (spot_at c k)) e).1;
  }

  -- ---- timing checks

  given_if : (b : Bool) (limits : Option Triple × Option Triple) → is_given (if b then limits else none_given) ≡ true → b ≡ true
  given_if true limits e = refl
  given_if false limits e = absurd cc

  check_of : (check : CellCheck) (k : ℕ) (x : Checked) → x.check.scope < length c.scopes → has k (l.referring x.timing.refer.net) ≡ true
      → is_given (given_by c sdf.divider g (a_check check) x.check.scope x.timing x.written) ≡ true → has k (checks_for c sdf.divider l (a_check check) scopes) ≡ true
  check_of check k x within r e =
      has-flat (λ s. flat_map l.referring (port_nets c sdf.divider is_any s (terminals_of check).0.port)) scopes x.check.scope k
      (has-scope x.check.scope within (and_parts cell_test check_test both).0)
      (has-flat l.referring (port_nets c sdf.divider is_any x.check.scope (terminals_of check).0.port) x.timing.refer.net k
      (and_parts refers edge_test (and_parts (refers && edge_test) words_test (and_parts event_test datum_test (and_parts cell_test check_test both).1).0).0).0 r)
    where
      cell_test : Bool
      cell_test = is_of_cell c sdf.divider g.cell_type g.instance x.check.scope

      check_test : Bool
      check_test = fits_check c sdf.divider check x.check.scope x.timing x.written

      event_test : Bool
      event_test = fits_event c sdf.divider x.check.scope (terminals_of check).0 x.timing.refer x.written.refer

      datum_test : Bool
      datum_test = fits_datum c sdf.divider x.check.scope (terminals_of check).1 x.timing.datum x.written.datum

      refers : Bool
      refers = has x.timing.refer.net (port_nets c sdf.divider is_any x.check.scope (terminals_of check).0.port)

      edge_test : Bool
      edge_test = fits_edge (terminals_of check).0.edge x.timing.refer.edge

      words_test : Bool
      words_test = fits_words (terminals_of check).0.condition x.written.refer

      both : (cell_test && check_test) ≡ true
      both = given_if (cell_test && check_test) (limits_for check x.timing.kind) e

  check_in : (kind : EntryKind) (k : ℕ) (x : Checked) → x.check.scope < length c.scopes → has k (l.referring x.timing.refer.net) ≡ true
      → is_given (given_by c sdf.divider g kind x.check.scope x.timing x.written) ≡ true → has k (checks_for c sdf.divider l kind scopes) ≡ true
  check_in (a_check check) k x within r e = check_of check k x within r e
  check_in (io_path condition from to ds) k x within r e = absurd cc
  check_in (device port ds) k x within r e = absurd cc
  check_in (path_pulse percent ports q m) k x within r e = absurd cc
  check_in (port_delay port ds) k x within r e = absurd cc
  check_in (interconnect from to ds) k x within r e = absurd cc
  check_in (skipped_entry skipped) k x within r e = absurd cc

  -- The candidates have each timing check that the entry is for.
  pub each_check : HasEach (is_found_check c sdf g) (checks_for c sdf.divider l g.entry.kind scopes)
  each_check = record {
    each = λ k e.
        let m : k < length (all_checked c) = below_if k (length (all_checked c)) (and_parts (nat_lt k (length (all_checked c))) (is_for_check c sdf.divider g (check_at c k)) e).0 in
        check_in g.entry.kind k (check_at c k) (checks-within (length c.scopes) c.checks c.check_timings c.check_conditions closed.check_scopes k _ m) (of_circuit.by_reference k m)
        (and_parts (nat_lt k (length (all_checked c))) (is_for_check c sdf.divider g (check_at c k)) e).1;
  }
