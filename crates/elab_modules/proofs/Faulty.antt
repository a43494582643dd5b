-- A fault of what a module names is one of the module's, or of a table.
use Rattle.std.specs.Prelude.{◌≡◌, ℕ, List, [], ◌∷◌, ◌++◌, Option, Some, None, flat_map, not, slice_get, ℤ}
use Rattle.std.specs.Option.{option_and_then}
use Rattle.std.proofs.Common.{sym, ◌∙◌, ap, inl, inr, subst}
use Rattle.sg_delay.specs.declared.corners.Corner.{Corner}
use Rattle.sg_text.specs.declared.refusals.Refused.{Refused}
use Rattle.sg_text.specs.declared.refusals.Refused.TheVariants as refused
use Rattle.vl_tree.specs.Tree.{Delay, Instance, Module, Part, Primitive, Source, a_module, a_primitive}
use Rattle.elab_model.specs.declared.kinds.ElabKind.{ElabKind}
use Rattle.elab_model.specs.declared.kinds.ElabKind.TheVariants.{BadTerminal}
use Rattle.elab_model.specs.Definitions.{definition_of, as_primitive, primitive_of}
use Rattle.elab_model.specs.Faults.{Fault, fault_if, RefusesOneOf}
use Rattle.elab_model.specs.Members.{Member, assignment, supply, gate, instance, path, check, members, member_values, connection_values}
use Rattle.elab_model.specs.ModuleFaults.{are_terminals, instance_faults, member_faults, all_member_faults, module_faults}
use Rattle.elab_model.specs.NameFaults.{declaration_faults}
use Rattle.elab_model.specs.Names.{variables}
use Rattle.elab_model.specs.PrimitiveFaults.{member_primitive, primitive_faults}
use Rattle.elab_model.specs.TerminalFaults.{expression_faults, terminal_faults, delay_faults}
use Rattle.elab_declared.proofs.Refusals.{refused-left, refused-right}
use Rattle.elab_laws.proofs.Lists.{In}
use Rattle.elab_hierarchy.specs.Tops.{StandsAt}
use Rattle.elab_modules.specs.Reaching.{RefusesMembers, RefusesModule, RefusesNamed}
use Rattle.elab_modules.proofs.Among.{in-kept}

-- what is refused of an element's list is of the whole
pub refused-flat : {A : Type 0} (f : A → List Fault) (x : A) (xs : List A) (r : Refused ElabKind) → In x xs → RefusesOneOf (f x) r → RefusesOneOf (flat_map f xs) r
refused-flat f x [] r h k = absurd h
refused-flat f x (y ∷ ys) r (inl e) k = refused-left (f y) (flat_map f ys) r (subst (λ z. RefusesOneOf (f z) r) e k)
refused-flat f x (y ∷ ys) r (inr h) k = refused-right (f y) (flat_map f ys) r (refused-flat f x ys r h k)

-- the primitive that a name defines
pub primitive-defined : (o : Option Part) (p : Primitive) → option_and_then as_primitive o ≡ Some p → o ≡ Some (a_primitive p)
primitive-defined None p e = cc
primitive-defined (Some (a_module m)) p e = cc
primitive-defined (Some (a_primitive q)) p e = let s : q ≡ p = cc in ap (λ x. Some (a_primitive x)) s

faults-inside : (corner : Corner) (tick : ℤ) (m : Module) (d : Option Delay) (i : Instance) (p : Primitive) (r : Refused ElabKind) → RefusesOneOf (primitive_faults p) r
    → RefusesOneOf (instance_faults corner tick m (variables m) d i (Some (a_primitive p))) r
faults-inside corner tick m d i p r h =
    refused-right (fault_if (not (are_terminals p i.connections)) BadTerminal i.place)
    (terminal_faults (variables m) 1 (connection_values i.connections) ++ (delay_faults 2 corner tick m d ++ primitive_faults p)) r
    (refused-right (terminal_faults (variables m) 1 (connection_values i.connections)) (delay_faults 2 corner tick m d ++ primitive_faults p) r
    (refused-right (delay_faults 2 corner tick m d) (primitive_faults p) r h))

member-refused : (source : Source) (corner : Corner) (tick : ℤ) (m : Module) (x : Member) (p : Primitive) (r : Refused ElabKind) → member_primitive source x ≡ Some p
    → RefusesOneOf (primitive_faults p) r → RefusesOneOf (member_faults source corner tick m (variables m) x) r
member-refused source corner tick m (assignment j) p r e h = cc
member-refused source corner tick m (supply n v) p r e h = cc
member-refused source corner tick m (gate g d i) p r e h = cc
member-refused source corner tick m (path w) p r e h = cc
member-refused source corner tick m (check w) p r e h = cc
member-refused source corner tick m (instance n d i) p r e h =
    subst (λ o. RefusesOneOf (instance_faults corner tick m (variables m) d i o) r) (sym (primitive-defined (definition_of source n.text) p e)) (faults-inside corner tick m d i p r h)

pub all-refused : (source : Source) (corner : Corner) (tick : ℤ) (m : Module) (r : Refused ElabKind) → RefusesOneOf (flat_map (all_member_faults source corner tick m) (members m)) r
    → RefusesOneOf (module_faults source corner tick m) r
all-refused source corner tick m r h = refused-right (declaration_faults m) (flat_map (all_member_faults source corner tick m) (members m)) r h

pub declarations-refused : (source : Source) (m : Module) (r : Refused ElabKind) → RefusesOneOf (declaration_faults m) r → RefusesModule source m r
declarations-refused source m (refused.Fault k place) h = inl (λ corner tick. refused-left (declaration_faults m) (flat_map (all_member_faults source corner tick m) (members m)) (refused.Fault k place) h)
declarations-refused source m refused.NoMemory h = tt

pub members-refused : (source : Source) (m : Module) (ms : List Member) (r : Refused ElabKind) → ms ≡ members m → RefusesMembers source ms r → RefusesModule source m r
members-refused source m ms refused.NoMemory e h = tt
members-refused source m ms (refused.Fault k place) e h =
    let there : In h.member (members m) = subst (In h.member) e h.there in
    elim h.stands [
      | inl f ↦ inl (λ corner tick.
          all-refused source corner tick m (refused.Fault k place)
          (refused-flat (all_member_faults source corner tick m) h.member (members m) (refused.Fault k place) there
          (refused-right (flat_map (expression_faults (variables m)) (member_values h.member)) (member_faults source corner tick m (variables m) h.member) (refused.Fault k place)
          (member-refused source corner tick m h.member h.primitive (refused.Fault k place) h.named f))))
      | inr t ↦ inr (record { primitive = h.primitive; there = in-kept (member_primitive source) h.member h.primitive (members m) there h.named; stands = t })
    ]

pub name-told : (source : Source) (ms : List Member) (x : Member) (n : List ℕ) (r : Refused ElabKind) → In x ms → member_primitive source x ≡ primitive_of source n → RefusesNamed source n r
    → RefusesMembers source ms r
name-told source ms x n refused.NoMemory there e h = tt
name-told source ms x n (refused.Fault k place) there e h = record { member = x; there = there; primitive = h.primitive; named = e ∙ h.named; stands = h.stands }

-- the module at a place is the one that was read
pub module-read : (source : Source) (place : ℕ) (q : Part) (n m : Module) → slice_get source place ≡ Some q → q ≡ a_module n → StandsAt source place m → n ≡ m
module-read source place q n m e f at = cc
