-- Which places of a circuit the entries of a scope are for.
use Rattle.std.proofs.Common.{◌≡◌, ◌<◌, Bool, true, false, List, [], ◌∷◌, length, refl, sym, ◌∙◌, ap}
use Rattle.std.specs.Prelude.{ℕ, ◌==◌, ◌&&◌, ◌||◌, All, Option, Some, None, if◌then◌else◌}
use Rattle.std.proofs.Math.Bool.{or-false}
use Rattle.std.proofs.lemmas.Bool.{eqb-true, and_parts, and_from}
use Rattle.late_limits.proofs.NumberLaws.{test_same}
use Rattle.cond_expr.specs.Token.{Tok}
use Rattle.sg_circuit.specs.declared.checks.Event.{Event}
use Rattle.sg_circuit.specs.declared.scopes.Port.TheVariants.{Input, Output}
use Rattle.sg_circuit.specs.Circuit.{Circuit, Variable, scope_at}
use Rattle.sg_circuit.specs.Closed.{IsClosed, width_of}
use Rattle.sg_circuit.specs.Paths as specify
use Rattle.sdf_tree.specs.declared.tree.Edge.{Edge}
use Rattle.sdf_tree.specs.declared.words.Divider.TheVariants.{Slash}
use Rattle.sdf_tree.specs.Written.{PathCondition}
use Rattle.sdf_tree.specs.Meant.{DelayValue, EntryKind, io_path, port_delay}
use Rattle.annotation_model.specs.Matching.{port_nets, is_for_path, is_for_leg, is_cell_scope, named_from, fits_condition, fits_event}
use Rattle.annotation_model.specs.Ports.{has, is_input, is_output, is_any, nets_named}
use Rattle.annotation_model.specs.Same.{fits_edge, fits_words}
use Rattle.annotation_model.specs.Scopes.{is_of_cell}
use Rattle.written_model.specs.Entries.{EventKey}
use Rattle.written_model.specs.Faults.{is_for_event}
use Rattle.written_model.specs.Names.{name_of, names_to}
use Rattle.written_model.specs.Tree.{cell_type_of, instance_of, port_of, terminal_of, event_terminal}
use Rattle.written_reading.specs.Named.{AreApart, IsInputOf, IsOutputOf, IsVariableOf, IsNamed}
use Rattle.written_giving.proofs.LetterLaws.{name-back}
use Rattle.written_giving.proofs.PortLaws.{net-named, port-net}
use Rattle.written_giving.proofs.ScopeLaws.{cell-own, cell-one}
use Rattle.written_giving.proofs.TreeLaws.{of_scope}

has-one : (k x : ℕ) → has k (x ∷ []) ≡ true → x ≡ k
has-one k x e = eqb-true x k (sym (or-false (x == k)) ∙ e)

one-has : (x : ℕ) → has x (x ∷ []) ≡ true
one-has x = or-false (x == x) ∙ test_same x x refl

module _ (c : Circuit) (closed : IsClosed c) (named : IsNamed c) where
  abbrev variables : ℕ → List Variable
  variables s = (scope_at c s).variables

  apart-at : (s : ℕ) → s < length c.scopes → AreApart (variables s)
  apart-at s l = named.apart s _ l

  widths-at : (s : ℕ) → s < length c.scopes → All (λ (v : Variable). length v.bits ≡ width_of v.range) (variables s)
  widths-at s l = closed.widths s _ l

  input-net : (s net : ℕ) → s < length c.scopes → IsInputOf (variables s) net → nets_named is_input (variables s) (name_of (variables s) net).name (name_of (variables s) net).index ≡ net ∷ []
  input-net s net l h = net-named is_input (λ p. p ≡ Input) (variables s) net (λ p e. ap is_input e) (apart-at s l) (widths-at s l) h

  output-net : (s net : ℕ) → s < length c.scopes → IsOutputOf (variables s) net → nets_named is_output (variables s) (name_of (variables s) net).name (name_of (variables s) net).index ≡ net ∷ []
  output-net s net l h = net-named is_output (λ p. p ≡ Output) (variables s) net (λ p e. ap is_output e) (apart-at s l) (widths-at s l) h

  any-net : (s net : ℕ) → s < length c.scopes → IsVariableOf (variables s) net → nets_named is_any (variables s) (name_of (variables s) net).name (name_of (variables s) net).index ≡ net ∷ []
  any-net s net l h = net-named is_any (λ p. Unit {0}) (variables s) net (λ p e. refl) (apart-at s l) (widths-at s l) h

  abbrev in_cell : ℕ → ℕ → Bool
  in_cell s r = is_of_cell c Slash (cell_type_of (scope_at c s).module_name) (instance_of (names_to c s)) r

  -- ---- legs

  module _ (s net : ℕ) (within : s < length c.scopes) (is : IsInputOf (variables s) net) (ds : List DelayValue) where
    abbrev nets_at : ℕ → List ℕ
    nets_at r = nets_named is_input (variables r) (name_of (variables s) net).name (name_of (variables s) net).index

    leg-test : (r : ℕ) (inputs : List ℕ) (output : ℕ) → is_for_leg c Slash (of_scope c s (port_delay (port_of (variables s) net) ds)) r inputs output ≡ (if has output (nets_at r) then in_cell s r else false)
    leg-test r inputs output =
        let port = port_of (variables s) net in
        let g = of_scope c s (port_delay port ds) in
        ap (λ ns. is_cell_scope c Slash g (named_from c is_input r ns output port)) (name-back (name_of (variables s) net).name) ∙ by (has output (nets_at r))
      where
        by : (b : Bool) → is_cell_scope c Slash (of_scope c s (port_delay (port_of (variables s) net) ds)) (if b then Some r else None) ≡ (if b then in_cell s r else false)
        by true = refl
        by false = refl

    pub leg-for : (r : ℕ) (inputs : List ℕ) (output : ℕ) → r < length c.scopes → is_for_leg c Slash (of_scope c s (port_delay (port_of (variables s) net) ds)) r inputs output ≡ true → (s ≡ r) × (net ≡ output)
    leg-for r inputs output l e = by (has output (nets_at r)) refl (sym (leg-test r inputs output) ∙ e)
      where
        by : (b : Bool) → has output (nets_at r) ≡ b → (if b then in_cell s r else false) ≡ true → (s ≡ r) × (net ≡ output)
        by true f h =
            let same : s ≡ r = cell-one c closed named (cell_type_of (scope_at c s).module_name) s r within l h in
            (same, has-one output net (sym (ap (has output) (input-net s net within is)) ∙ (ap (λ q. has output (nets_at q)) same ∙ f)))
        by false f h = absurd cc

    pub leg-own : (inputs : List ℕ) → is_for_leg c Slash (of_scope c s (port_delay (port_of (variables s) net) ds)) s inputs net ≡ true
    leg-own inputs =
        leg-test s inputs net ∙ (ap (λ b. if b then in_cell s s else false) (ap (has net) (input-net s net within is) ∙ one-has net) ∙ cell-own c closed named (cell_type_of (scope_at c s).module_name) s within)

  -- ---- paths

  pub record PathFits (s input output : ℕ) (edge : Option Edge) (condition : PathCondition) (r o : ℕ) (p : specify.Path) : Type 0 where
    pub scope : s ≡ r
    pub at_input : input ≡ p.input
    pub at_output : output ≡ o
    pub at_edge : fits_edge edge p.edge ≡ true
    pub at_condition : fits_condition condition p.condition ≡ true

  module _ (s input output : ℕ) (edge : Option Edge) (condition : PathCondition) (ds : List DelayValue) (within : s < length c.scopes) (is : IsInputOf (variables s) input) (are : IsOutputOf (variables s) output) where
    abbrev path_entry : EntryKind
    path_entry = io_path condition (terminal_of (variables s) input edge None) (port_of (variables s) output) ds

    abbrev ins : ℕ → List ℕ
    ins r = port_nets c Slash is_input r (port_of (variables s) input)

    abbrev outs : ℕ → List ℕ
    outs r = port_nets c Slash is_output r (port_of (variables s) output)

    ins-are : ins s ≡ input ∷ []
    ins-are = port-net c is_input s input (input-net s input within is)

    outs-are : outs s ≡ output ∷ []
    outs-are = port-net c is_output s output (output-net s output within are)

    pub path-for : (r o : ℕ) (p : specify.Path) → r < length c.scopes → is_for_path c Slash (of_scope c s path_entry) r o p ≡ true → PathFits s input output edge condition r o p
    path-for r o p l e =
        let a = and_parts (in_cell s r) (((has p.input (ins r) && has o (outs r)) && fits_edge edge p.edge) && fits_condition condition p.condition) e in
        let b = and_parts ((has p.input (ins r) && has o (outs r)) && fits_edge edge p.edge) (fits_condition condition p.condition) a.1 in
        let d = and_parts (has p.input (ins r) && has o (outs r)) (fits_edge edge p.edge) b.0 in
        let f = and_parts (has p.input (ins r)) (has o (outs r)) d.0 in
        let same : s ≡ r = cell-one c closed named (cell_type_of (scope_at c s).module_name) s r within l a.0 in record {
          scope = same;
          at_input = has-one p.input input (sym (ap (has p.input) ins-are) ∙ (ap (λ q. has p.input (ins q)) same ∙ f.0));
          at_output = has-one o output (sym (ap (has o) outs-are) ∙ (ap (λ q. has o (outs q)) same ∙ f.1));
          at_edge = d.1;
          at_condition = b.1;
        }

    pub path-own : (p : specify.Path) → p.input ≡ input → fits_edge edge p.edge ≡ true → fits_condition condition p.condition ≡ true → is_for_path c Slash (of_scope c s path_entry) s output p ≡ true
    path-own p e f h =
        and_from (in_cell s s) (((has p.input (ins s) && has output (outs s)) && fits_edge edge p.edge) && fits_condition condition p.condition)
        (cell-own c closed named (cell_type_of (scope_at c s).module_name) s within)
        (and_from ((has p.input (ins s) && has output (outs s)) && fits_edge edge p.edge) (fits_condition condition p.condition)
        (and_from (has p.input (ins s) && has output (outs s)) (fits_edge edge p.edge)
        (and_from (has p.input (ins s)) (has output (outs s)) (ap (λ k. has k (ins s)) e ∙ (ap (has input) ins-are ∙ one-has input)) (ap (has output) outs-are ∙ one-has output)) f) h)

  -- ---- events

  pub event-test : (s : ℕ) (k : EventKey) (e : Event) (written : Option (List Tok)) → s < length c.scopes → IsVariableOf (variables s) k.net → fits_event c Slash s (event_terminal (variables s) k) e written ≡ is_for_event k e written
  event-test s k e written l is =
      ap (λ ns. has e.net ns && fits_edge k.edge e.edge && fits_words k.condition written) (port-net c is_any s k.net (any-net s k.net l is)) ∙ by (k.net == e.net) (fits_edge k.edge e.edge) (fits_words k.condition written)
    where
      by : (x y z : Bool) → ((x || false) && y && z) ≡ (x && (y && z))
      by true y z = refl
      by false y z = refl
