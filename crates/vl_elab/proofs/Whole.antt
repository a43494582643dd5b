-- What has been made, put together, is the circuit of the definition, and it is closed.
use Rattle.std.specs.Prelude.{◌≡◌, ℕ, ◌<◌, ◌≤◌, ◌^◌, All, List, [], ◌∷◌, map, length, refl, slice_index_or, zip}
use Rattle.std.specs.List.{AllByRecursion, range_with_len}
use Rattle.std.proofs.Common.{Global, Vec, sym, ◌∙◌, ap, arith, subst}
use Rattle.std.proofs.lemmas.List.{length-map}
use Rattle.std.proofs.lemmas.List.Elements.{All-from_recursion}
use Rattle.std.proofs.lemmas.List.FromFn.{length-range_with_len}
use Rattle.cond_expr.specs.Condition.{Condition}
use Rattle.sg_circuit.specs.ChecksSeen.{written_seen, AreWritten}
use Rattle.sg_circuit.specs.Closed.{IsClosed}
use Rattle.sg_circuit.specs.Seen.{kind_seen, element_seen, udp_seen, scope_seen, circuit_seen, paths_of, AreApart, IsIndexed, AreIndexed}
use Rattle.sg_circuit.specs.declared.checks.Zero.{Zero}
use Rattle.sg_circuit.specs.declared.circuits.Parts.{Parts}
use Rattle.sg_circuit.specs.declared.elements.Element as code
use Rattle.sg_circuit.specs.declared.elements.ElementKind.{ElementKind}
use Rattle.sg_circuit.specs.declared.elements.ElementKind.TheVariants as kind
use Rattle.sg_circuit.specs.declared.nets.Driver.{Driver}
use Rattle.sg_circuit.specs.declared.nets.Net.{Net}
use Rattle.sg_circuit.specs.declared.scopes.Scope.{Scope}
use Rattle.sg_delay.specs.declared.corners.Corner.{Corner}
use Rattle.sg_time.specs.declared.units.Unit as unit
use Rattle.vl_tree.specs.Tree.{Module, Source}
use Rattle.elab_model.specs.Delays.{tick_of}
use Rattle.elab_model.specs.Nets.{nets}
use Rattle.elab_model.specs.Numbered.{undriven}
use Rattle.circuit_model.specs.CheckUses.{check_uses, written_of_use}
use Rattle.circuit_model.specs.Circuits.{driving, with_driver, driven_nets, circuit}
use Rattle.circuit_model.specs.Driving.{Driving, driver_at, drivers}
use Rattle.circuit_model.specs.PathUses.{circuit_elements}
use Rattle.elab_closed.proofs.Closed.{circuit-is_closed}
use Rattle.elab_checks.specs.Library.{Library}
use Rattle.elab_checks.specs.RowsType.{Rows}
use Rattle.elab_checks.specs.AllPaths.{Tables, tables_of, kind_with, element_with, NamesTables}
use Rattle.elab_checks.specs.declared.uses.CheckTables.{CheckTables}
use Rattle.vl_elab.specs.Made.{IsWhole, driven_by}
use Rattle.vl_elab.specs.declared.elements.ElementTables.{ElementTables}
use Rattle.vl_elab.proofs.LongerTables.{with_more, elements-longer, named-longer}

-- nets with drivers in place of others
driven-each : (ns : List Net) (ds : List Driver) → length ds ≡ length ns → driven_by ns ds ≡ map with_driver (zip ns ds)
driven-each [] ds e = refl
driven-each (n ∷ ns) [] e = absurd (omega arith)
driven-each (n ∷ ns) (d ∷ ds) e = ap (λ xs. record n { driver = d } ∷ xs) (driven-each ns ds (omega arith))

drivers-count : (d : Driving) (n : ℕ) → length (drivers d n) ≡ n
drivers-count d n = length-map (range_with_len 0 n) (driver_at d) ∙ length-range_with_len 0 n

-- the tables of the parts
abbrev tables_in : Parts → Tables
tables_in parts = record {
  gate_delays = parts.gate_delays.items;
  udps = parts.udps.items;
  timings = parts.leg_timings.items;
  conditions = parts.conditions.items;
  paths = parts.paths.items;
}

-- the parts are what has been made
pub record IsOf (tick : unit.Unit) (ready : Library) (numbers : Rows) (made : ElementTables) (drivers : List Driver) (checks : CheckTables) (scopes : List Scope) (parts : Parts) : Type 0 where
  pub tick_is : parts.tick ≡ tick
  pub nets_are : parts.nets.items ≡ driven_by numbers.nets.items drivers
  pub elements_are : parts.elements.items ≡ made.placing.elements.items
  pub delays_are : parts.gate_delays.items ≡ ready.gate_delays.items
  pub timings_are : parts.leg_timings.items ≡ made.timings.items
  pub conditions_are : parts.conditions.items ≡ made.conditions.items
  pub paths_are : parts.paths.items ≡ made.paths.items
  pub udps_are : parts.udps.items ≡ ready.udps.items
  pub checks_are : parts.checks.items ≡ checks.checks.items
  pub check_timings_are : parts.check_timings.items ≡ checks.timings.items
  pub check_conditions_are : parts.check_conditions.items ≡ checks.conditions.items
  pub scopes_are : parts.scopes.items ≡ scopes
  pub none_zeroed : parts.zeroed.items ≡ []

abbrev pub parts_of : unit.Unit → Library → ElementTables → CheckTables → Vec Scope Global → Vec Net Global → Vec Zero Global → Parts
parts_of tick ready made checks scopes nets zeroed = record {
  tick = tick;
  nets = nets;
  elements = made.placing.elements;
  gate_delays = ready.gate_delays;
  leg_timings = made.timings;
  paths = made.paths;
  conditions = made.conditions;
  udps = ready.udps;
  checks = checks.checks;
  check_timings = checks.timings;
  check_conditions = checks.conditions;
  scopes = scopes;
  zeroed = zeroed;
}

pub is-of : (tick : unit.Unit) (ready : Library) (numbers : Rows) (made : ElementTables) (drivers : List Driver) (checks : CheckTables) (scopes : Vec Scope Global) (nets : Vec Net Global)
    (zeroed : Vec Zero Global) → nets.items ≡ driven_by numbers.nets.items drivers → zeroed.items ≡ []
    → IsOf tick ready numbers made drivers checks scopes.items (parts_of tick ready made checks scopes nets zeroed)
is-of tick ready numbers made drivers checks scopes nets zeroed e z = record {
  tick_is = refl;
  nets_are = e;
  elements_are = refl;
  delays_are = refl;
  timings_are = refl;
  conditions_are = refl;
  paths_are = refl;
  udps_are = refl;
  checks_are = refl;
  check_timings_are = refl;
  check_conditions_are = refl;
  scopes_are = refl;
  none_zeroed = z;
}

kind-is : (parts : Parts) (k : ElementKind) → kind_seen parts k ≡ kind_with (tables_in parts) k
kind-is parts (kind.Gate g d) = refl
kind-is parts (kind.Udp u d) = refl
kind-is parts (kind.Pass v) = refl
kind-is parts (kind.Leg t) = refl
kind-is parts (kind.Path span style) = refl
kind-is parts (kind.Late d) = refl

elements-are : (parts : Parts) (es : List code.Element) → map (element_seen parts) es ≡ map (element_with (tables_in parts)) es
elements-are parts [] = refl
elements-are parts (x ∷ xs) =
    ap (λ k. record { scope = x.scope; inputs = x.inputs.items; output = x.output; kind = k } ∷ map (element_seen parts) xs) (kind-is parts x.kind)
    ∙ ap (λ ys. element_with (tables_in parts) x ∷ ys) (elements-are parts xs)

indexed : (parts : Parts) (k : ElementKind) → NamesTables (tables_in parts) k → IsIndexed parts k
indexed parts (kind.Gate g d) n = n
indexed parts (kind.Udp u d) n = n
indexed parts (kind.Pass v) n = tt
indexed parts (kind.Leg t) n = n
indexed parts (kind.Path span style) n = n
indexed parts (kind.Late d) n = tt

indexed-all : (parts : Parts) (es : List code.Element) → AllByRecursion (λ e. NamesTables (tables_in parts) e.kind) es → AllByRecursion (λ e. IsIndexed parts e.kind) es
indexed-all parts [] h = tt
indexed-all parts (e ∷ es) h = (indexed parts e.kind h.0, indexed-all parts es h.1)

module _ (source : Source) (top : Module) (corner : Corner) (tick : unit.Unit) (ready : Library) (numbers : Rows) (made : ElementTables) (table : List Driver) (checks : CheckTables) (scopes : List Scope)
    (w : IsWhole source top corner tick ready numbers made table checks scopes) where
  -- as many drivers as nets
  pub drivers-fit : length table ≡ length numbers.nets.items
  drivers-fit =
      let count = length (nets source top) in
      ap length w.has_drivers.table_is ∙ drivers-count (driving source top corner) count ∙ sym (length-map (nets source top) undriven) ∙ sym (ap length w.have_rows.all)

  abbrev paths_tables : Tables
  paths_tables = tables_of ready w.have_elements.modules made.paths.items

  abbrev more : List Condition
  more = w.have_elements.conditions_grow.0

  module _ (parts : Parts) (o : IsOf tick ready numbers made table checks scopes parts) where
    -- the tables of the paths, with the conditions of checks behind
    tables-are : tables_in parts ≡ with_more paths_tables more
    tables-are = λ i. record {
      gate_delays = o.delays_are i;
      udps = o.udps_are i;
      timings = (o.timings_are ∙ w.have_elements.timings_are) i;
      conditions = (o.conditions_are ∙ w.have_elements.conditions_grow.1) i;
      paths = o.paths_are i;
    }

    ticks : parts.tick.power ≡ tick_of source top
    ticks = ap (λ t. t.power) o.tick_is ∙ w.tick_is

    driven : parts.nets.items ≡ driven_nets (map undriven (nets source top)) (driving source top corner)
    driven =
        let ns = map undriven (nets source top) in
        let d = driving source top corner in
        let listed : length (nets source top) ≡ length ns = sym (length-map (nets source top) undriven) in
        o.nets_are ∙ ap (λ xs. driven_by xs table) w.have_rows.all ∙ ap (driven_by ns) (w.has_drivers.table_is ∙ ap (drivers d) listed) ∙ driven-each ns (drivers d (length ns)) (drivers-count d (length ns))

    placed : map (element_seen parts) parts.elements.items ≡ circuit_elements source top corner
    placed =
        let es = made.placing.elements.items in
        elements-are parts parts.elements.items ∙ ap (map (element_with (tables_in parts))) o.elements_are ∙ ap (λ t. map (element_with t) es) tables-are
        ∙ elements-longer paths_tables more es w.have_elements.have_paths.named ∙ w.have_elements.have_paths.elements

    used : map (λ u. udp_seen u) parts.udps.items ≡ (circuit source top corner).udps
    used = ap (map (λ u. udp_seen u)) o.udps_are ∙ w.is_ready.listed

    spelled : map (written_seen parts.conditions.items) parts.check_conditions.items ≡ map written_of_use (check_uses source top corner)
    spelled =
        ap (λ cs. map (written_seen cs) parts.check_conditions.items) o.conditions_are ∙ ap (map (written_seen made.conditions.items)) o.check_conditions_are ∙ w.are_checks.spelled

    seen : map (λ s. scope_seen s) parts.scopes.items ≡ (circuit source top corner).scopes
    seen = ap (λ ss. map (λ s. scope_seen s) ss) o.scopes_are ∙ w.are_scopes

    pub whole-is : circuit_seen parts ≡ circuit source top corner
    whole-is = λ i. record {
      tick = ticks i;
      nets = driven i;
      elements = placed i;
      udps = used i;
      checks = (o.checks_are ∙ w.are_checks.checks) i;
      check_timings = (o.check_timings_are ∙ w.are_checks.timings) i;
      check_conditions = spelled i;
      scopes = seen i;
      zeroed = o.none_zeroed i;
    }

    pub whole-closed : IsClosed (circuit_seen parts)
    whole-closed = subst IsClosed (sym whole-is) (circuit-is_closed source top corner w.faultless)

    pub whole-indexed : AreIndexed parts
    whole-indexed = record {
      named = All-from_recursion (λ e. IsIndexed parts e.kind) parts.elements.items
          (indexed-all parts parts.elements.items
          (subst (λ es. AllByRecursion (λ e. NamesTables (tables_in parts) e.kind) es) (sym o.elements_are)
          (subst (λ t. AllByRecursion (λ e. NamesTables t e.kind) made.placing.elements.items) (sym tables-are)
          (named-longer paths_tables more made.placing.elements.items w.have_elements.have_paths.named))));
      few_udps = subst (λ us. length us < 2 ^ 31) (sym o.udps_are) w.is_ready.few_udps;
      counts = subst (λ ds. All (λ d. d.count ≤ 3) ds) (sym o.delays_are) w.is_ready.counts;
      written = subst (λ cs. All (AreWritten (length cs)) parts.check_conditions.items) (sym o.conditions_are)
          (subst (All (AreWritten (length made.conditions.items))) (sym o.check_conditions_are) w.are_checks.written);
      apart = subst (λ (es : List code.Element). (i j : ℕ) (d : code.Element) → i < j → j < length es → AreApart (paths_of (slice_index_or es i d).kind) (paths_of (slice_index_or es j d).kind))
          (sym o.elements_are) w.have_elements.have_paths.apart;
    }
