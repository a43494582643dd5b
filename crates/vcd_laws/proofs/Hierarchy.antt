-- All instances of a named netlist without faults have names, and so do their variables: the circuit has its names.
use Rattle.std.specs.Prelude.{◌≡◌, ℕ, zero, suc, ◌+◌, ◌<◌, ◌≤◌, ◌^◌, ℤ, pos, Bool, true, false, IfSome, List, [], ◌∷◌, ◌++◌, bytes_eq, fold, length, map, flat_map, int_le, if◌then◌else◌, slice_index_or, Option, Some, None}
use Rattle.std.specs.List.{AllByRecursion, enumerate_from}
use Rattle.std.specs.Option.{option_and_then}
use Rattle.std.proofs.Common.{sym, ◌∙◌, subst, arith}
use Rattle.std.proofs.lemmas.List.{length-map}
use Rattle.std.proofs.lemmas.List.FromFn.{length-range_with_len}
use Rattle.sg_circuit.specs.Circuit.{Scope}
use Rattle.sg_circuit.specs.Closed.{width_of}
use Rattle.sg_circuit.specs.declared.scopes.Range.{Range}
use Rattle.sg_text.specs.declared.places.Place.{Place}
use Rattle.sg_delay.specs.declared.corners.Corner.{Corner}
use Rattle.vl_tree.specs.Tree.{Delay, Module, Named, Part, Source, a_module, a_primitive}
use Rattle.vl_tree.specs.Tree as tree
use Rattle.elab_model.specs.Bits.{positions}
use Rattle.elab_model.specs.Definitions.{as_module, definition_of, name_of}
use Rattle.elab_model.specs.Delays.{lesser, precision_of, tick_of}
use Rattle.elab_model.specs.Faults.{fault_if}
use Rattle.elab_model.specs.Hierarchy.{Child, Instance, Step, child_of, child_of_member, children_at, children_from, children_in, instances, instances_from, levels_below_top, size, text_of, top_instance}
use Rattle.elab_model.specs.Homes.{home_of}
use Rattle.elab_model.specs.Members.{Member, assignment, assignment_to, check, gate, instance, member_of_item, member_values, members, members_of_item, path, supply, supply_value}
use Rattle.elab_model.specs.ModuleFaults.{all_member_faults, connection_faults, delay_on_module, instance_faults, member_faults, module_faults}
use Rattle.elab_model.specs.NameFaults.{declaration_faults, name_faults, too_wide, two_ranges, width_limit}
use Rattle.elab_model.specs.Names.{Variable, variables}
use Rattle.elab_model.specs.Nets.{nets, number_of}
use Rattle.elab_model.specs.Scopes.{scope_of, scope_variable}
use Rattle.elab_model.specs.TerminalFaults.{expression_faults, is_missing}
use Rattle.elab_model.specs.declared.kinds.ElabKind.TheVariants.{BadTerminal}
use Rattle.circuit_model.specs.Circuits.{circuit}
use Rattle.circuit_model.specs.Faults.{faults_below}
use Rattle.elab_laws.proofs.Lists.{all-anyway, all-append, all-flat_in, all-map, all-weaker}
use Rattle.elab_laws.proofs.NoFaults.{IsFaultless, all-second, back, each-faultless, flat-empty, front}
use Rattle.elab_laws.proofs.Once.{all-kept}
use Rattle.elab_closed.proofs.Counts.{faultless-parts}
use Rattle.vcd_laws.proofs.Declared.{IsDeclared, found_has, split_all, variables_are}
use Rattle.vcd_laws.proofs.Named.{IsNamed, IsNamedInstance, IsNamedItem, IsNamedModule, IsNamedPart, IsScale}
use Rattle.vcd_laws.proofs.Readable.{HasNames, IsWritten}
use Rattle.vcd_laws.proofs.Rows.{is_word}

abbrev IsNamedChild : Child → Type 0
IsNamedChild c = IsNamedModule c.definition × (is_word (text_of c.name) ≡ true)

-- ---- the children of a module

-- an instance of a module, which has no fault, has a name
abbrev IsNamedUse : Member → Type 0
IsNamedUse (assignment j) = Unit {0}
IsNamedUse (supply n v) = Unit {0}
IsNamedUse (gate g d i) = Unit {0}
IsNamedUse (instance n d i) = IfSome i.name IsNamed
IsNamedUse (path p) = Unit {0}
IsNamedUse (check c) = Unit {0}

assigned : (n : tree.NetName) (y : Member) → assignment_to n.name n.value ≡ Some y → IsNamedUse y
assigned n y e = at n.value e
  where
    at : (o : Option tree.Expression) → assignment_to n.name o ≡ Some y → IsNamedUse y
    at None e = absurd cc
    at (Some x) e = subst (λ o. IfSome o IsNamedUse) e tt

specified : (i : tree.SpecifyItem) (y : Member) → member_of_item i ≡ Some y → IsNamedUse y
specified (tree.specparams p ps) y e = absurd cc
specified (tree.pulse_style p s ts) y e = absurd cc
specified (tree.a_path p) y e = subst (λ o. IfSome o IsNamedUse) e tt
specified (tree.a_check c) y e = subst (λ o. IfSome o IsNamedUse) e tt

item_uses : (i : tree.Item) → IsNamedItem i → AllByRecursion IsNamedUse (members_of_item i)
item_uses (tree.ports p d t r ns) h = tt
item_uses (tree.nets p t r ns) h = all-kept IsNamedUse (λ n. assignment_to n.name n.value) ns (all-anyway (λ (n : tree.NetName). (y : Member) → assignment_to n.name n.value ≡ Some y → IsNamedUse y) ns assigned)
item_uses (tree.supplies p s r ns) h = all-map IsNamedUse (λ n. supply n (supply_value s)) ns (all-anyway (λ n. Unit {0}) ns (λ n. tt))
item_uses (tree.registers p ns) h = tt
item_uses (tree.assigns p js) h = all-map IsNamedUse assignment js (all-anyway (λ n. Unit {0}) js (λ n. tt))
item_uses (tree.gates p g d is) h = all-map IsNamedUse (gate g d) is (all-anyway (λ n. Unit {0}) is (λ n. tt))
item_uses (tree.instances n d is) h = all-map IsNamedUse (instance n d) is (all-weaker IsNamedInstance (λ i. IfSome i.name IsNamed) is (λ i k. k.0) h)
item_uses (tree.specify_block b) h = all-kept IsNamedUse member_of_item b.items (all-anyway (λ (i : tree.SpecifyItem). (y : Member) → member_of_item i ≡ Some y → IsNamedUse y) b.items specified)

a_name : (o : Option Named) (p : Place) → IfSome o IsNamed → fault_if (is_missing o) BadTerminal p ≡ [] → is_word (text_of o) ≡ true
a_name None p k e = absurd cc
a_name (Some n) p k e = k

named_child : (source : Source) → AllByRecursion IsNamedPart source → (c : Corner) (tick : ℤ) (m : Module) (k : ℕ) (p : Member) → IsNamedUse p → member_faults source c tick m (variables m) p ≡ []
    → (y : Child) → child_of_member source k p ≡ Some y → IsNamedChild y
named_child source named c tick m k (assignment j) u h y e = absurd cc
named_child source named c tick m k (supply n v) u h y e = absurd cc
named_child source named c tick m k (gate g d i) u h y e = absurd cc
named_child source named c tick m k (path p) u h y e = absurd cc
named_child source named c tick m k (check t) u h y e = absurd cc
named_child source named c tick m k (instance n d i) u h y e = by (definition_of source n.text) (found_has IsNamedPart (λ x. bytes_eq n.text (name_of x).text) source named) h e
  where
    by : (o : Option Part) → IfSome o IsNamedPart → instance_faults c tick m (variables m) d i o ≡ [] → child_of (option_and_then as_module o) k i ≡ Some y → IsNamedChild y
    by None q h e = absurd cc
    by (Some (a_primitive p)) q h e = absurd cc
    by (Some (a_module x)) q h e =
        subst (λ o. IfSome o IsNamedChild) e
        (q, a_name i.name i.place u (front (fault_if (is_missing i.name) BadTerminal i.place) (delay_on_module d ++ connection_faults (variables m) x i.place i.connections) h))

both : {A : Type 0} (P Q : A → Type 0) (xs : List A) → AllByRecursion P xs → AllByRecursion Q xs → AllByRecursion (λ x. P x × Q x) xs
both P Q [] h k = tt
both P Q (x ∷ xs) h k = ((h.0, k.0), both P Q xs h.1 k.1)

children_named : (source : Source) → AllByRecursion IsNamedPart source → (c : Corner) (tick : ℤ) (m : Module) → IsNamedModule m → module_faults source c tick m ≡ [] → AllByRecursion IsNamedChild (children_in source m)
children_named source named c tick m h e =
    all-kept IsNamedChild (λ p. child_of_member source p.0 p.1) (enumerate_from 0 (members m))
    (all-weaker (λ x. Plain x.1) (λ x. (y : Child) → child_of_member source x.0 x.1 ≡ Some y → IsNamedChild y) (enumerate_from 0 (members m))
    (λ x q y g. named_child source named c tick m x.0 x.1 q.0 q.1 y g) (all-second Plain 0 (members m) (both IsNamedUse (λ p. member_faults source c tick m (variables m) p ≡ []) (members m) uses each)))
  where
    Plain : Member → Type 0
    Plain p = IsNamedUse p × (member_faults source c tick m (variables m) p ≡ [])

    uses : AllByRecursion IsNamedUse (members m)
    uses = all-flat_in IsNamedUse members_of_item m.items (all-weaker IsNamedItem (λ i. AllByRecursion IsNamedUse (members_of_item i)) m.items item_uses h.items)

    each : AllByRecursion (λ p. member_faults source c tick m (variables m) p ≡ []) (members m)
    each =
        all-weaker (λ p. all_member_faults source c tick m p ≡ []) (λ p. member_faults source c tick m (variables m) p ≡ []) (members m)
        (λ p g. back (flat_map (expression_faults (variables m)) (member_values p)) (member_faults source c tick m (variables m) p) g)
        (flat-empty (all_member_faults source c tick m) (members m) (back (declaration_faults m) (flat_map (all_member_faults source c tick m) (members m)) e))

-- ---- all instances

abbrev pub IsNamedStep : Instance → Type 0
IsNamedStep s = IsNamedModule s.step.definition × (is_word s.step.name ≡ true)

from_named : (source : Source) (levels : ℕ) (above : List Step) (next : ℕ) (cs : List Child) → AllByRecursion IsNamedChild cs → AllByRecursion IsNamedStep (children_from source levels above next cs)
from_named source levels above next [] h = tt
from_named source levels above next (c ∷ cs) h = (h.0, from_named source levels above (next + size source levels c.definition) cs h.1)

abbrev HasNone : Source → Corner → ℤ → Instance → Type 0
HasNone source c tick s = module_faults source c tick s.step.definition ≡ []

below_named : (source : Source) (c : Corner) (tick : ℤ) (levels : ℕ)
    → ((s : Instance) → IsNamedStep s → AllByRecursion (HasNone source c tick) (instances_from source levels s) → AllByRecursion IsNamedStep (instances_from source levels s))
    → (ss : List Instance) → AllByRecursion IsNamedStep ss → AllByRecursion (HasNone source c tick) (flat_map (instances_from source levels) ss) → AllByRecursion IsNamedStep (flat_map (instances_from source levels) ss)
below_named source c tick levels each [] h f = tt
below_named source c tick levels each (s ∷ ss) h f =
    let r = split_all (HasNone source c tick) (instances_from source levels s) (flat_map (instances_from source levels) ss) f in
    all-append IsNamedStep (instances_from source levels s) (flat_map (instances_from source levels) ss) (each s h.0 r.0) (below_named source c tick levels each ss h.1 r.1)

instances_named : (source : Source) → AllByRecursion IsNamedPart source → (c : Corner) (tick : ℤ) (levels : ℕ) (s : Instance) → IsNamedStep s → AllByRecursion (HasNone source c tick) (instances_from source levels s)
    → AllByRecursion IsNamedStep (instances_from source levels s)
instances_named source named c tick zero s h f = (h, tt)
instances_named source named c tick (suc levels) s h f = (
  h,
  below_named source c tick levels (λ x. instances_named source named c tick levels x) (children_at source (suc levels) s)
      (from_named source levels (s.step ∷ s.above) (suc s.step.number) (children_in source s.step.definition) (children_named source named c tick s.step.definition h.0 f.0)) f.1,
)

-- ---- scopes

abbrev IsWrittenScope : Scope → Type 0
IsWrittenScope s = (is_word s.name ≡ true) × AllByRecursion IsWritten s.variables

variable_written : (source : Source) (top : Module) (s : Instance) (v : Variable) → IsDeclared v → IsWritten (scope_variable (nets source top) source s v)
variable_written source top s v h = record {
  name = h.name;
  some = subst (λ n. 0 < n) (sym long) (some v.range);
  few = subst (λ n. n < 10 ^ 9) (sym long) (let q : width_of v.range ≤ width_limit = h.narrow in omega arith);
  range = h.range;
}
  where
    at : ℕ → ℕ
    at = λ p. number_of (nets source top) (home_of source s v.name p)

    long : length (map at (positions v.range)) ≡ width_of v.range
    long = length-map (positions v.range) at ∙ length-range_with_len 0 (width_of v.range)

    some : (r : Option Range) → 0 < width_of r
    some None = omega arith
    some (Some r) = omega arith

scope_written : (source : Source) (top : Module) (c : Corner) (tick : ℤ) (s : Instance) → IsNamedStep s → HasNone source c tick s → IsWrittenScope (scope_of (nets source top) source s)
scope_written source top c tick s h e = (
  h.1,
  all-map IsWritten (scope_variable (nets source top) source s) (variables s.step.definition)
      (all-weaker IsDeclared (λ v. IsWritten (scope_variable (nets source top) source s v)) (variables s.step.definition) (variable_written source top s) (variables_are s.step.definition h.0 wide)),
)
  where
    declared : declaration_faults s.step.definition ≡ []
    declared = front (declaration_faults s.step.definition) (flat_map (all_member_faults source c tick s.step.definition) (members s.step.definition)) e

    wide : too_wide s.step.definition ≡ []
    wide = back (two_ranges s.step.definition) (too_wide s.step.definition) (back (name_faults s.step.definition) (two_ranges s.step.definition ++ too_wide s.step.definition) declared)

at_index : (P : Scope → Type 0) (ss : List Scope) (k : ℕ) (blank : Scope) → AllByRecursion P ss → k < length ss → P (slice_index_or ss k blank)
at_index P [] k blank h l = absurd (omega arith)
at_index P (s ∷ ss) zero blank h l = h.0
at_index P (s ∷ ss) (suc k) blank h l = at_index P ss k blank h.1 (omega arith)

-- ---- the tick

lesser_is : (p q : ℤ) → IsScale p → IsScale q → IsScale (lesser p q)
lesser_is p q h k = at (int_le p q)
  where
    at : (b : Bool) → IsScale (if b then p else q)
    at true = h
    at false = k

least_is : (p : ℤ) (ss : List Instance) → IsScale p → AllByRecursion IsNamedStep ss → IsScale (fold (λ p s. lesser p (precision_of s)) p ss)
least_is p [] h k = h
least_is p (s ∷ ss) h k = least_is (lesser p (precision_of s)) ss (lesser_is p (precision_of s) h k.0.0.scale) k.1

-- ---- all together

pub has_names : (source : Source) (top : Module) (corner : Corner) → faults_below source top corner ≡ [] → AllByRecursion IsNamedPart source → IsNamedModule top → HasNames (circuit source top corner)
has_names source top corner h named top_named = record {
  tick = tick.tick;
  tick_small = tick.small;
  tick_is = tick.is;
  scopes = λ k l. at_index IsWrittenScope (map (scope_of (nets source top) source) (instances source top)) k
      (record { parent = None; name = []; module_name = []; unit = pos 0; precision = pos 0; is_leaf = false; variables = [] }) written l;
}
  where
    faultless : AllByRecursion (IsFaultless source top corner) (instances source top)
    faultless = each-faultless source top corner (faultless-parts source top corner h).plain

    steps : AllByRecursion IsNamedStep (instances source top)
    steps = instances_named source named corner (tick_of source top) levels_below_top (top_instance top) (top_named, top_named.name) faultless

    tick : IsScale (tick_of source top)
    tick = least_is top.settings.scale.precision (instances source top) top_named.scale steps

    written : AllByRecursion IsWrittenScope (map (scope_of (nets source top) source) (instances source top))
    written =
        all-map IsWrittenScope (scope_of (nets source top) source) (instances source top)
        (all-weaker (λ s. IsNamedStep s × IsFaultless source top corner s) (λ s. IsWrittenScope (scope_of (nets source top) source s)) (instances source top)
        (λ s q. scope_written source top corner (tick_of source top) s q.0 q.1) (both IsNamedStep (IsFaultless source top corner) (instances source top) steps faultless))
