-- What stands after each step of elaboration, for the next.
use Rattle.std.specs.Prelude.{◌≡◌, ℕ, ◌≤◌, ◌^◌, List, [], ◌++◌, length, map}
use Rattle.std.proofs.Common.{◌∙◌, ap, arith, sym, subst, append_assoc}
use Rattle.std.proofs.lemmas.List.{append-nil, length-map}
use Rattle.cond_expr.specs.Condition.{Condition}
use Rattle.sg_circuit.specs.Circuit.{Leg}
use Rattle.sg_circuit.specs.Seen.{scope_seen}
use Rattle.sg_circuit.specs.TimingsSeen.{leg_timing_seen}
use Rattle.sg_circuit.specs.declared.elements.LegTiming.{LegTiming}
use Rattle.sg_circuit.specs.declared.nets.Driver.{Driver}
use Rattle.sg_circuit.specs.declared.scopes.Scope.{Scope}
use Rattle.sg_delay.specs.declared.corners.Corner.{Corner}
use Rattle.sg_time.specs.declared.units.Unit as unit
use Rattle.vl_tree.specs.Tree.{Module, Source}
use Rattle.elab_model.specs.Delays.{tick_of}
use Rattle.elab_model.specs.Hierarchy.{instances}
use Rattle.elab_model.specs.HierarchyFaults.{count_limit}
use Rattle.elab_model.specs.Nets.{nets}
use Rattle.elab_model.specs.Scopes.{scope_of}
use Rattle.circuit_model.specs.CheckUses.{check_of_use, check_uses}
use Rattle.circuit_model.specs.Faults.{check_faults}
use Rattle.elab_hierarchy.specs.Placing.{ArePlaced, tree_faults}
use Rattle.elab_hierarchy.specs.declared.instances.Placed.{Placed}
use Rattle.elab_checks.specs.Reached.{IsLibrary}
use Rattle.elab_checks.specs.Library.{Library}
use Rattle.elab_checks.specs.Rows.{HaveRows}
use Rattle.elab_checks.specs.RowsType.{Rows}
use Rattle.elab_checks.specs.SeenOfElements.{AreElements}
use Rattle.elab_checks.specs.StandingOfElements.{AreRead}
use Rattle.elab_checks.specs.Placing.{Placing}
use Rattle.elab_checks.specs.AllPaths.{AreGiven, HaveAllPaths}
use Rattle.elab_checks.specs.ReadyOfPaths.{HavePaths}
use Rattle.elab_checks.specs.ShelvingOfPaths.{ListGrows}
use Rattle.elab_checks.specs.ModulePaths.{ModulePaths}
use Rattle.elab_checks.specs.Ready.{HaveChecks}
use Rattle.elab_checks.specs.Standing as standing
use Rattle.elab_checks.specs.Uses.{AreUses}
use Rattle.elab_checks.specs.declared.modules.ReadyChecks.{ReadyChecks}
use Rattle.elab_checks.specs.declared.uses.CheckTables.{CheckTables}
use Rattle.vl_elab.specs.Made.{AreBelow, AreDrivers, AreMade, HaveElements, HaveNets, IsWhole, none_of_twelve}
use Rattle.vl_elab.specs.declared.elements.ElementTables.{ElementTables}
use Rattle.vl_elab.proofs.Faultless.{faultless-below}

-- the list of the instances, as it is lent first and again
pub below-of : (source : Source) (top : Module) (tick : unit.Unit) (list first second : List Placed) → ArePlaced source list (instances source top) → length list ≤ count_limit → tree_faults source top ≡ []
    → first ≡ list → second ≡ list → (ArePlaced source first (instances source top) → tick.power ≡ tick_of source top) → AreBelow source top tick second
below-of source top tick list first second placed few shallow e f is_tick = record {
  are_placed = subst (λ ps. ArePlaced source ps (instances source top)) (sym f) placed;
  few = subst (λ ps. length ps ≤ count_limit) (sym f) few;
  shallow = shallow;
  tick_is = is_tick (subst (λ ps. ArePlaced source ps (instances source top)) (sym e) placed);
}

-- and when they have nets
pub nets-of : (source : Source) (top : Module) (corner : Corner) (tick : unit.Unit) (placed : List Placed) (ready : Library) (numbers : Rows) → AreBelow source top tick placed
    → IsLibrary source corner top ready → HaveRows source top numbers → HaveNets source top corner tick placed ready numbers
nets-of source top corner tick placed ready numbers b is_ready rows = record { below = b; is_ready = is_ready; have_rows = rows }

module _ (source : Source) (top : Module) (corner : Corner) (tick : unit.Unit) (placed : List Placed) (ready : Library) (numbers : Rows) (h : HaveNets source top corner tick placed ready numbers) where
  -- before the elements are made
  pub read-of : AreRead source top corner placed ready numbers
  read-of = record { are_placed = h.below.are_placed; shallow = h.below.shallow; is_ready = h.is_ready; have_rows = h.have_rows }

  -- before the paths are put in
  pub given-of : (modules : ModulePaths) (made : Placing) (legs : LegTiming) → AreElements source top corner ready.gate_delays.items ready.udps.items made → leg_timing_seen legs ≡ none_of_twelve
      → HavePaths source top corner legs modules → AreGiven source top corner ready modules placed numbers made
  given-of modules made legs elements none paths = record {
    are_placed = h.below.are_placed;
    few = h.below.few;
    is_ready = h.is_ready;
    have_rows = h.have_rows;
    are_elements = elements;
    legs = legs;
    without_delay = ap Leg none;
    have_paths = paths;
  }

  -- before the nets have their drivers
  pub made-of : (made : ElementTables) → HaveElements source top corner ready made → AreMade source top corner placed ready numbers made.placing
  made-of made e = record {
    are_placed = h.below.are_placed;
    is_ready = h.is_ready;
    have_rows = h.have_rows;
    outputs = e.have_paths.outputs;
    places = e.have_paths.places;
    few = e.have_paths.few_elements;
  }

  -- when the checks of modules stand ready
  pub checks-given : (conditions : List Condition) (modules : ReadyChecks) (lates : List (List ℕ)) → HaveChecks source top corner conditions modules → standing.HaveLates source top corner lates → standing.AreGiven source top corner ready modules conditions placed numbers lates
  checks-given conditions modules lates have late = record { are_placed = h.below.are_placed; few = h.below.few; is_ready = h.is_ready; have_rows = h.have_rows; have_checks = have; have_lates = late }

-- the elements, when their paths have been put in
pub elements-of : (source : Source) (top : Module) (corner : Corner) (ready : Library) (modules : ModulePaths) (legs : LegTiming) (made : ElementTables) → made.timings.items ≡ modules.timings.items
    → made.conditions.items ≡ modules.conditions.items → HavePaths source top corner legs modules → HaveAllPaths source top corner ready modules made.paths.items made.placing
    → standing.HaveLates source top corner made.lates → HaveElements source top corner ready made
elements-of source top corner ready modules legs made e f paths have late = record {
  modules = modules;
  have_paths = have;
  timings_are = e;
  conditions_grow = ([], f ∙ sym (append-nil modules.conditions.items));
  lates = late;
  faultless = paths.faultless;
}

-- more conditions come behind
pub elements-grow : (source : Source) (top : Module) (corner : Corner) (ready : Library) (old new : ElementTables) → new.placing ≡ old.placing → new.timings ≡ old.timings → new.paths ≡ old.paths → new.lates ≡ old.lates
    → ListGrows old.conditions.items new.conditions.items → HaveElements source top corner ready old → HaveElements source top corner ready new
elements-grow source top corner ready old new e f g l grow h =
    let first = h.conditions_grow in
    record {
      modules = h.modules;
      have_paths = subst (λ p. HaveAllPaths source top corner ready h.modules new.paths.items p) (sym e) (subst (λ p. HaveAllPaths source top corner ready h.modules p.items old.placing) (sym g) h.have_paths);
      timings_are = ap (λ t. t.items) f ∙ h.timings_are;
      conditions_grow = (first.0 ++ grow.0, grow.1 ∙ ap (λ cs. cs ++ grow.0) first.1 ∙ append_assoc h.modules.conditions.items first.0 grow.0);
      lates = subst (standing.HaveLates source top corner) (sym l) h.lates;
      faultless = h.faultless;
    }

-- as many checks as there may be
few-uses : (n m : ℕ) → n ≡ m → n ≤ 2 ^ 22 → m ≤ count_limit
few-uses n m e le = omega (arith, e, le)

-- no fault stands at the end
pub whole-of : (source : Source) (top : Module) (corner : Corner) (tick : unit.Unit) (placed : List Placed) (ready : Library) (numbers : Rows) (made : ElementTables)
    (drivers : List Driver) (checks : CheckTables) (scopes : List Scope) → HaveNets source top corner tick placed ready numbers → HaveElements source top corner ready made → check_faults source top corner ≡ []
    → AreUses made.conditions.items checks (check_uses source top corner)
    → length checks.checks.items ≤ 2 ^ 22 → AreDrivers source top corner drivers → map (λ s. scope_seen s) scopes ≡ map (scope_of (nets source top) source) (instances source top)
    → IsWhole source top corner tick ready numbers made drivers checks scopes
whole-of source top corner tick placed ready numbers made drivers checks scopes h e sound uses few have seen =
    let few_checks = few-uses (length checks.checks.items) (length (check_uses source top corner)) (ap length uses.checks ∙ length-map (check_uses source top corner) check_of_use) few in
    record {
      tick_is = h.below.tick_is;
      is_ready = h.is_ready;
      have_rows = h.have_rows;
      have_elements = e;
      has_drivers = have;
      are_checks = uses;
      are_scopes = seen;
      faultless = faultless-below source top corner h.below.shallow h.is_ready.sound e.faultless sound h.have_rows.few e.have_paths.few_elements e.have_paths.few_paths few_checks have.faultless;
    }
