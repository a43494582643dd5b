-- What the code has of an instance in another, in the words of the definition.
use Rattle.std.specs.Prelude.{◌≡◌, ℕ, ◌<◌, List, Bool, true, All, IfSome, Option, option_map, map, length, refl}
use Rattle.std.specs.List.{AllByRecursion}
use Rattle.std.proofs.Common.{sym, ◌∙◌, subst}
use Rattle.std.proofs.lemmas.List.Elements.{recursion_from_All}
use Rattle.vl_tree.specs.Tree.{Named, Connections, Module, Source}
use Rattle.vl_tree.specs.Seen.{view_name, view_connections}
use Rattle.vl_tree.specs.declared.items.Instance as code
use Rattle.vl_tree.specs.declared.names.Name as code_name
use Rattle.elab_model.specs.Hierarchy.{Instance}
use Rattle.elab_model.specs.Names.{Variable, variables}
use Rattle.elab_model.specs.Nets.{OwnNet}
use Rattle.elab_model.specs.Ports.{port_list}
use Rattle.elab_laws.specs.Handing.{all_bits}
use Rattle.elab_laws.proofs.NoFaults.{NamesOnce, declared-once, connected-once, once-by}
use Rattle.elab_bits.specs.Seen.{view_bit, IsInRow}
use Rattle.elab_bits.specs.declared.bits.Bit as code_bit
use Rattle.elab_ports.specs.Bound.{bound_in, AreConnected, AreOf}
use Rattle.elab_ports.specs.Constants.{constants_in, view_constant}
use Rattle.elab_ports.specs.declared.constants.PortConstant as code_constant
use Rattle.elab_modules.specs.declared.prepared.Prepared.{Prepared}
use Rattle.elab_nets.specs.Outside.{IsChild}
use Rattle.elab_nets.proofs.OuterNumbers.{HasBound}
use Rattle.elab_nets.proofs.InputPlaces.{IsLeafIn}

-- what `bound_bits` and `port_constants` ensure
abbrev pub AreBound : List Variable → Prepared → code.Instance → List code_name.Name → List (Option code_bit.Bit) → Type 0
AreBound table child text ports bits =
    (m : Module) → AreOf m child.table (map view_name ports) → AreConnected table m text.place (view_connections text.connections)
    → map (option_map (view_bit table)) bits ≡ map (λ b. bound_in table (view_connections text.connections) (map view_name ports) b.0.name b.1) (all_bits child.table)

abbrev pub AreConstants : List Variable → Prepared → code.Instance → List code_name.Name → List code_constant.PortConstant → Type 0
AreConstants table child text ports ks =
    (m : Module) → AreOf m child.table (map view_name ports) → AreConnected table m text.place (view_connections text.connections)
    → map (view_constant child.table) ks ≡ constants_in table (view_connections text.connections) (map view_name ports)

-- the same of equal tables, connections and ports
same-bound : (a b : List Variable) (c d : List Variable) (x y : Connections) (p q : List Named) (bits : List (Option code_bit.Bit)) → a ≡ b → c ≡ d → x ≡ y → p ≡ q
    → map (option_map (view_bit a)) bits ≡ map (λ b. bound_in a x p b.0.name b.1) (all_bits c) → map (option_map (view_bit b)) bits ≡ map (λ i. bound_in b y q i.0.name i.1) (all_bits d)
same-bound a b c d x y p q bits ab cd xy pq h =
    subst (λ b. map (option_map (view_bit b)) bits ≡ map (λ i. bound_in b y q i.0.name i.1) (all_bits d)) ab
    (subst (λ d. map (option_map (view_bit a)) bits ≡ map (λ i. bound_in a y q i.0.name i.1) (all_bits d)) cd
    (subst (λ y. map (option_map (view_bit a)) bits ≡ map (λ i. bound_in a y q i.0.name i.1) (all_bits c)) xy
    (subst (λ q. map (option_map (view_bit a)) bits ≡ map (λ i. bound_in a x q i.0.name i.1) (all_bits c)) pq h)))

same-constants : (a b : List Variable) (c d : List Variable) (x y : Connections) (p q : List Named) (ks : List code_constant.PortConstant) → a ≡ b → c ≡ d → x ≡ y → p ≡ q
    → map (view_constant c) ks ≡ constants_in a x p → map (view_constant d) ks ≡ constants_in b y q
same-constants a b c d x y p q ks ab cd xy pq h =
    subst (λ b. map (view_constant d) ks ≡ constants_in b y q) ab (subst (λ d. map (view_constant d) ks ≡ constants_in a y q) cd
    (subst (λ y. map (view_constant c) ks ≡ constants_in a y q) xy (subst (λ q. map (view_constant c) ks ≡ constants_in a x q) pq h)))

ports-are : (child : Prepared) (ports : List code_name.Name) (list : List Named) → ports ≡ child.ports.items → map view_name child.ports.items ≡ list → map view_name ports ≡ list
ports-are child ports list e h = subst (λ ns. map view_name ns ≡ list) (sym e) h

pub has-bound : (all : List OwnNet) (source : Source) (s c : Instance) (table : List Variable) (row : List ℕ) (child : Prepared) (text : code.Instance) (leaf : Bool) (scope next : ℕ)
    → IsChild all source s c table row child text leaf scope next → (ports : List code_name.Name) (bits : List (Option code_bit.Bit)) → ports ≡ child.ports.items
    → AreBound table child text ports bits → All (λ b. IfSome b (IsInRow table)) bits → HasBound s c bits
has-bound all source s c table row child text leaf scope next k ports bits e bound within =
    let list = ports-are child ports (port_list c.step.definition) e k.prepared.ports in
    record {
      above = k.above;
      seen = same-bound table (variables s.step.definition) child.table (variables c.step.definition) (view_connections text.connections) c.step.connections (map view_name ports) (port_list c.step.definition) bits
          k.numbers.table k.prepared.table (sym k.connections) list (bound c.step.definition (record { table = k.prepared.table; list = list }) k.connected);
      within = subst (λ vs. All (λ b. IfSome b (IsInRow vs)) bits) k.numbers.table within;
    }

pub is-leaf_in : (all : List OwnNet) (source : Source) (s c : Instance) (table : List Variable) (row : List ℕ) (child : Prepared) (text : code.Instance) (leaf : Bool) (scope next : ℕ)
    → IsChild all source s c table row child text leaf scope next → leaf ≡ true → (ports : List code_name.Name) (bits : List (Option code_bit.Bit)) (ks : List code_constant.PortConstant)
    → ports ≡ child.ports.items
    → HasBound s c bits → AreConstants table child text ports ks → All (λ k. k.bit < length (all_bits child.table)) ks → IsLeafIn source s c bits ks
is-leaf_in all source s c table row child text leaf scope next k is ports bits ks e bound constants within =
    let m = c.step.definition in
    let list = ports-are child ports (port_list m) e k.prepared.ports in
    let names : NamesOnce c.step.connections = subst NamesOnce (sym k.connections) (connected-once table m text.place (view_connections text.connections) k.connected.connected) in
    record {
      bound = bound;
      leaf = k.is_leaf ∙ is;
      within = subst (λ vs. AllByRecursion (λ k. k.bit < length (all_bits vs)) ks) k.prepared.table (recursion_from_All (λ k. k.bit < length (all_bits child.table)) ks within);
      seen = same-constants table (variables s.step.definition) child.table (variables m) (view_connections text.connections) c.step.connections (map view_name ports) (port_list m) ks
          k.numbers.table k.prepared.table (sym k.connections) list (constants m (record { table = k.prepared.table; list = list }) k.connected);
      first = (once-by c.step c.step.connections refl names (declared-once m k.prepared.declared)).first;
    }
