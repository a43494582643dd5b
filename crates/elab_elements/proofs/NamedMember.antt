-- A member that names a definition: an instance of a module, which is the next, or of a primitive.
use Rattle.std.specs.Prelude.{◌≡◌, ℕ, zero, suc, ◌+◌, List, [], ◌∷◌, Option, Some, None, flat_map, filter_map, slice_get, bytes_eq, refl}
use Rattle.std.specs.List.{enumerate_from, position_from, cons_option}
use Rattle.std.specs.Option.{option_and_then}
use Rattle.std.proofs.Common.{sym, ◌∙◌, ap, arith, subst}
use Rattle.std.proofs.lemmas.List.{append-nil}
use Rattle.sg_circuit.specs.Circuit.{Udp}
use Rattle.sg_circuit.specs.Seen.{delays_at, udp_at}
use Rattle.sg_delay.specs.declared.corners.Corner.{Corner}
use Rattle.vl_tree.specs.Seen.{view_instance}
use Rattle.vl_tree.specs.Tree.{Expression, Named, Delay, Module, Primitive, Source, a_module, a_primitive}
use Rattle.vl_tree.specs.declared.items.Instance as code_text
use Rattle.elab_model.specs.Definitions.{definition_of, name_of, as_module}
use Rattle.elab_model.specs.Delays.{tick_of}
use Rattle.elab_model.specs.Elements.{child_elements, instance_elements, member_elements, terminal_elements}
use Rattle.elab_model.specs.Hierarchy.{Instance, Child, child_of, child_of_member, instances, size}
use Rattle.elab_model.specs.Members.{instance, members, connection_values}
use Rattle.elab_model.specs.ModuleFaults.{all_member_faults}
use Rattle.elab_model.specs.NameFaults.{declaration_faults}
use Rattle.elab_model.specs.Names.{Variable}
use Rattle.elab_model.specs.Nets.{nets}
use Rattle.elab_laws.proofs.Lists.{In, all-in, all-get}
use Rattle.elab_ports.specs.Bound.{AreConnected}
use Rattle.elab_hierarchy.specs.declared.instances.Placed.{Placed}
use Rattle.elab_nets.specs.Library.{Library}
use Rattle.elab_nets.specs.Ready as code_ready
use Rattle.elab_nets.specs.Ready.TheVariants as ready
use Rattle.elab_nets.specs.Reached.{IsReached}
use Rattle.elab_nets.specs.ReadyOfModules.{HasReady, IsUdp, MemberReady}
use Rattle.elab_nets.specs.declared.rows.Rows.{Rows}
use Rattle.elab_nets.proofs.Children.{child-in}
use Rattle.elab_nets.proofs.Defined.{found-none, is-defined}
use Rattle.elab_hierarchy.proofs.FaultlessTree.{no-children_at_limit}
use Rattle.elab_elements.specs.Adding.{HasTerminals}
use Rattle.elab_elements.specs.Next.{IsNext}
use Rattle.elab_elements.specs.Standing.{IsAt, IsInside, IsMember}
use Rattle.elab_elements.specs.Terminals.{outputs_of, inputs_of}
use Rattle.elab_elements.specs.Words.{primitive_at}
use Rattle.elab_elements.proofs.MemberLaws.{member-sound, primitive-terminals, connected-once, connections-sound}
use Rattle.elab_elements.proofs.NextChild.{IsChildAt, instance_of, passes-by, takes-one}
use Rattle.elab_elements.proofs.StandingAt.{at-place, instance-at}

-- ---- lists

same-some : {A : Type 0} (x y : A) → Some x ≡ Some y → x ≡ y
same-some x y e = cc

none-some : {A : Type 0} (x : A) → None ≡ Some x → ⊥
none-some x e = cc

rest-empty : {B : Type 0} (o : Option B) (ys : List B) → cons_option o ys ≡ [] → ys ≡ []
rest-empty None ys e = e
rest-empty (Some b) ys e = cc

first-none : {B : Type 0} (o : Option B) (b : B) (ys : List B) → cons_option o ys ≡ [] → o ≡ Some b → ⊥
first-none None b ys e f = cc
first-none (Some c) b ys e f = cc

none-chosen : {A B : Type 0} (f : ℕ × A → Option B) (a : ℕ) (xs : List A) (k : ℕ) (x : A) (b : B) → filter_map f (enumerate_from a xs) ≡ [] → slice_get xs k ≡ Some x → f (a + k, x) ≡ Some b → ⊥
none-chosen f a [] k x b e at some = cc
none-chosen f a (y ∷ xs) zero x b e at some =
    let g : y ≡ x = cc in
    let z : a ≡ a + 0 = omega arith in
    first-none (f (a, y)) b (filter_map f (enumerate_from (a + 1) xs)) e (ap (λ y. f (a, y)) g ∙ ap (λ n. f (n, x)) z ∙ some)
none-chosen f a (y ∷ xs) (suc k) x b e at some =
    let z : (a + 1) + k ≡ a + suc k = omega arith in
    none-chosen f (a + 1) xs k x b (rest-empty (f (a, y)) (filter_map f (enumerate_from (a + 1) xs)) e) at (ap (λ n. f (n, x)) z ∙ some)

-- ---- what the name defines

pub record NamesModule (source : Source) (n : List ℕ) : Type 0 where
  pub definition : Module
  pub is : definition_of source n ≡ Some (a_module definition)
  pub declared : declaration_faults definition ≡ []

pub record NamesPrimitive (source : Source) (ready : Library) (n : List ℕ) (u : ℕ) : Type 0 where
  pub definition : Primitive
  pub is : definition_of source n ≡ Some (a_primitive definition)
  pub table : IsUdp ready.udps.items u definition

module _ (source : Source) (top : Module) (corner : Corner) (ps : List Placed) (library : Library) (rows : Rows) (number : ℕ) (vs : List Variable) (row inside : List ℕ) (delays first next k : ℕ)
    (n : Named) (d : Option Delay)
    (t : code_text.Instance) (s : Instance) (h : IsMember source top corner ps library rows number vs row inside delays first next k (instance n d (view_instance t)) s) where
  there : In s (instances source top)
  there = at-place (instances source top) number s h.at.there

  faultless : all_member_faults source corner (tick_of source top) s.step.definition (instance n d (view_instance t)) ≡ []
  faultless = member-sound source top corner s k (instance n d (view_instance t)) h.at.read.is_ready.sound there h.member

  -- nothing
  pub none-named : position_from (λ d. bytes_eq n.text (name_of d).text) 0 source ≡ None → [] ≡ member_elements source corner (tick_of source top) s (k, instance n d (view_instance t))
  none-named e = ap (instance_elements source corner (tick_of source top) s k d (view_instance t)) (sym (found-none (λ d. bytes_eq n.text (name_of d).text) 0 source e))

  pub none-next : position_from (λ d. bytes_eq n.text (name_of d).text) 0 source ≡ None → IsNext source s (k + 1) next
  none-next e =
      passes-by source s k next (instance n d (view_instance t)) h.member
      (ap (λ o. child_of (option_and_then as_module o) k (view_instance t)) (found-none (λ d. bytes_eq n.text (name_of d).text) 0 source e)) h.is_next

  is-ready : (place : ℕ) → position_from (λ d. bytes_eq n.text (name_of d).text) 0 source ≡ Some place → HasReady library.parts.items place
  is-ready place e =
      all-get (MemberReady source library.parts.items) (members s.step.definition) k (instance n d (view_instance t))
      (all-in (IsReached source corner top library) s (instances source top) h.at.read.is_ready.reached there).named h.member place e

  pub names-module : (place : ℕ) → position_from (λ d. bytes_eq n.text (name_of d).text) 0 source ≡ Some place → primitive_at (slice_get library.parts.items place) ≡ None → NamesModule source n.text
  names-module place e none = let r = is-ready place e in by r.0 r.1
    where
      by : (r : code_ready.Ready) → slice_get library.parts.items place ≡ Some (Some r) → NamesModule source n.text
      by (ready.Module q) g =
          let m = h.at.read.is_ready.ready.1 place (Some (ready.Module q)) g in
          let f = is-defined source n.text place e in
          record { definition = m.0; is = f.defined ∙ sym f.there ∙ m.1; declared = m.2.declared }
      by (ready.Primitive u) g = absurd (none-some u (sym none ∙ ap primitive_at g))

  pub names-primitive : (place u : ℕ) → position_from (λ d. bytes_eq n.text (name_of d).text) 0 source ≡ Some place → primitive_at (slice_get library.parts.items place) ≡ Some u
      → NamesPrimitive source library n.text u
  names-primitive place u e some = let r = is-ready place e in by r.0 r.1
    where
      by : (r : code_ready.Ready) → slice_get library.parts.items place ≡ Some (Some r) → NamesPrimitive source library n.text u
      by (ready.Module q) g = absurd (none-some u (sym (ap primitive_at g) ∙ some))
      by (ready.Primitive v) g =
          let same : v ≡ u = same-some v u (sym (ap primitive_at g) ∙ some) in
          let p = h.at.read.is_ready.ready.1 place (Some (ready.Primitive v)) g in
          let defined = is-defined source n.text place e in
          record {
            definition = p.0;
            is = defined.defined ∙ sym defined.there ∙ p.1;
            table = subst (λ w. IsUdp library.udps.items w p.0) same (h.at.read.is_ready.udps place v p.0 g p.1);
          }

  -- ---- a module

  module _ (m : NamesModule source n.text) where
    abbrev pub the_text : Child
    the_text = record { definition = m.definition; member = k; place = (view_instance t).place; name = (view_instance t).name; connections = (view_instance t).connections }

    is-child : child_of_member source k (instance n d (view_instance t)) ≡ Some the_text
    is-child = ap (λ o. child_of (option_and_then as_module o) k (view_instance t)) m.is

    pub level : (l : ℕ) × (s.step.levels ≡ suc l)
    level = by s.step.levels refl
      where
        by : (l : ℕ) → s.step.levels ≡ l → (l : ℕ) × (s.step.levels ≡ suc l)
        by (suc l) e = (l, e)
        by zero e =
            let z : 0 + k ≡ k = omega arith in
            absurd (none-chosen (λ i. child_of_member source i.0 i.1) 0 (members s.step.definition) k (instance n d (view_instance t)) the_text (no-children_at_limit source top s h.at.read.shallow there e) h.member
            (ap (λ j. child_of_member source j (instance n d (view_instance t))) z ∙ is-child))

    taken : IsChildAt source s k next level.0 the_text
    taken = takes-one source s k next level.0 (instance n d (view_instance t)) the_text level.1 h.member is-child h.is_next

    abbrev pub the : Instance
    the = instance_of source level.0 s next the_text

    pub the-at : IsAt source top corner ps library rows next the
    the-at = record { read = h.at.read; there = instance-at source top the (child-in source top s the there taken.there) }

    pub the-inside : IsInside s the number vs t
    the-inside = record {
      number = h.here.number;
      above = refl;
      table = h.here.numbers.table;
      connections = refl;
      connected = subst (λ ws. AreConnected ws m.definition (view_instance t).place (view_instance t).connections) (sym h.here.numbers.table)
          (connections-sound source top corner s n d (view_instance t) m.definition m.is faultless m.declared);
      once = connected-once source top corner s the h.at.read.is_ready.sound there taken.there;
    }

    pub module-elements : child_elements source s the ≡ member_elements source corner (tick_of source top) s (k, instance n d (view_instance t))
    module-elements =
        sym (ap (instance_elements source corner (tick_of source top) s k d (view_instance t)) m.is ∙ ap (flat_map (child_elements source s)) taken.alone ∙ append-nil (child_elements source s the))

    pub module-next : (after : ℕ) → ((c : Instance) → IsAt source top corner ps library rows next c → after ≡ next + size source c.step.levels c.step.definition) → IsNext source s (k + 1) after
    module-next after f = subst (IsNext source s (k + 1)) (sym (f the the-at)) taken.after

  -- ---- a primitive

  module _ (u : ℕ) (p : NamesPrimitive source library n.text u) where
    abbrev values : List Expression
    values = connection_values (view_instance t).connections

    pub primitive-fits : HasTerminals (nets source top) s k first (outputs_of vs 1 values) (inputs_of vs 1 values)
    primitive-fits =
        subst (λ ws. HasTerminals (nets source top) s k first (outputs_of ws 1 values) (inputs_of ws 1 values)) (sym h.here.numbers.table)
        (primitive-terminals source top corner s k first n d (view_instance t) p.definition p.is faultless h.numbered)

    pub primitive-elements : terminal_elements source s t.place k (Udp (udp_at library.udps.items u).rows (udp_at library.udps.items u).first (delays_at library.gate_delays.items delays))
        (outputs_of vs 1 values)
        (inputs_of vs 1 values) ≡ member_elements source corner (tick_of source top) s (k, instance n d (view_instance t))
    primitive-elements =
        (λ j. terminal_elements source s t.place k (Udp (p.table.rows j) (p.table.first j) (h.ticks j)) (outputs_of (h.here.numbers.table j) 1 values) (inputs_of (h.here.numbers.table j) 1 values))
        ∙ ap (instance_elements source corner (tick_of source top) s k d (view_instance t)) (sym p.is)

    pub primitive-next : IsNext source s (k + 1) next
    primitive-next = passes-by source s k next (instance n d (view_instance t)) h.member (ap (λ o. child_of (option_and_then as_module o) k (view_instance t)) p.is) h.is_next
