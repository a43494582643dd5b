-- The bits of an instance are given what lies outside them, but where a Leg stands.
use Rattle.std.specs.Prelude.{◌≡◌, ℕ, List, [], ◌∷◌, Bool, true, false, ◌&&◌, not, Option, Some, None, map, refl, if◌then◌else◌, slice_get}
use Rattle.std.specs.List.{AllByRecursion}
use Rattle.std.specs.Option.{option_and_then}
use Rattle.std.proofs.Common.{sym, ◌∙◌, ap, subst}
use Rattle.sg_delay.specs.declared.corners.Corner.{Corner}
use Rattle.vl_tree.specs.Tree.{Connections, Expression, Module, Source}
use Rattle.elab_model.specs.Bits.{Bit, bits}
use Rattle.elab_model.specs.Connections.{connection_at, bound_to, port_values}
use Rattle.elab_model.specs.Elements.{leg_source}
use Rattle.elab_model.specs.Hierarchy.{Step, Instance, instances, is_empty, is_leaf, has_no_child}
use Rattle.elab_model.specs.Homes.{has_leg, home, is_input}
use Rattle.elab_model.specs.Names.{Variable, variable, variables, is_among}
use Rattle.elab_model.specs.Nets.{OwnNet, number_of}
use Rattle.elab_model.specs.Ports.{port_list, port_names}
use Rattle.elab_laws.specs.Handing.{all_bits, given_by, given, given_at}
use Rattle.elab_laws.specs.Laws.{AreSound}
use Rattle.elab_laws.proofs.Lists.{In, all-in, all-anyway}
use Rattle.elab_laws.proofs.LegSources.{value-there}
use Rattle.elab_laws.proofs.NoFaults.{all-from}
use Rattle.elab_laws.proofs.Connected.{is-connected}
use Rattle.elab_laws.proofs.Legs.{variable-is}
use Rattle.elab_laws.proofs.Parents.{parent-of}
use Rattle.elab_laws.proofs.Ports.{FitsPort}
use Rattle.elab_nets.specs.Outside.{outer_number}
use Rattle.elab_nets.specs.Own.{given_in, given_row}
use Rattle.elab_nets.proofs.RowBits.{all-bits}

-- a variable that is no port is bound to nothing
abbrev pub Fit : List Variable → Module → Connections → Type 0
Fit vs m x = AllByRecursion (FitsPort vs m) (port_values x (port_list m))

unbound : (vs : List Variable) (m : Module) (x : Connections) (n : List ℕ) (p : ℕ) → Fit vs m x → is_among n (port_names m) ≡ false
    → option_and_then (λ e. slice_get (bits vs e) p) (connection_at x (port_list m) n) ≡ None
unbound vs m x n p fit other = by (connection_at x (port_list m) n) refl
  where
    by : (o : Option Expression) → connection_at x (port_list m) n ≡ o → option_and_then (λ e. slice_get (bits vs e) p) o ≡ None
    by None e = refl
    by (Some y) e =
        let there : In (n, y) (port_values x (port_list m)) = value-there x (port_list m) n y e in
        let r = all-in (FitsPort vs m) (n, y) (port_values x (port_list m)) fit there in
        let f : true ≡ false = sym r.named ∙ other in
        cc

given-if : (number : List ℕ → ℕ → ℕ) (leg named : Bool) (x : Option Bit) (there : Option ℕ) → (named ≡ false → x ≡ None)
    → given_by number (if named && not leg then x else None) ≡ (if leg then None else (if leg then there else given_by number x))
given-if number true true x there h = refl
given-if number true false x there h = refl
given-if number false true x there h = refl
given-if number false false x there h = ap (given_by number) (sym (h refl))

-- one bit of an instance in another
given-bit : (all : List OwnNet) (source : Source) (s parent : Step) (over : List Step) (b : Variable × ℕ) → variable s.definition b.0.name ≡ b.0 → Fit (variables parent.definition) s.definition s.connections
    → given all source s (parent ∷ over) b.0.name b.1 ≡ given_in (has_no_child source s) b (outer_number all source s (parent ∷ over) b)
given-bit all source s parent over b is fit =
    let n = b.0.name in
    let leg : has_leg source s n ≡ (is_input b.0.port && has_no_child source s) = ap (λ w. is_input w.port && has_no_child source s) is in
    given-if (λ m q. number_of all (home source parent over m q)) (has_leg source s n) (is_among n (port_names s.definition)) (bound_to s parent n b.1)
    (Some (number_of all (leg_source source s (parent ∷ over) n b.1 (bound_to s parent n b.1)))) (unbound (variables parent.definition) s.definition s.connections n b.1 fit)
    ∙ ap (λ l. if l then None else outer_number all source s (parent ∷ over) b) leg

row-by : (leaf : Bool) (f g : Variable × ℕ → Option ℕ) (bs : List (Variable × ℕ)) → AllByRecursion (λ b. g b ≡ given_in leaf b (f b)) bs → map g bs ≡ given_row leaf bs (map f bs)
row-by leaf f g [] h = refl
row-by leaf f g (b ∷ bs) h = ap (λ x. x ∷ map g bs) h.0 ∙ ap (λ xs. given_in leaf b (f b) ∷ xs) (row-by leaf f g bs h.1)

none-in : (b : Bool) → ◌≡◌ {A = Option ℕ} None (if b then None else None)
none-in true = refl
none-in false = refl

chain-given : (all : List OwnNet) (source : Source) (top : Module) (corner : Corner) → AreSound source top corner → (s : Instance) → In s (instances source top) → (above : List Step) → s.above ≡ above
    → AllByRecursion (λ b. given all source s.step above b.0.name b.1 ≡ given_in (not (is_empty above) && has_no_child source s.step) b (outer_number all source s.step above b)) (all_bits (variables s.step.definition))
chain-given all source top corner sound s there [] e =
    all-anyway (λ b. given all source s.step [] b.0.name b.1 ≡ given_in false b None) (all_bits (variables s.step.definition)) (λ b. none-in (is_input b.0.port && false))
chain-given all source top corner sound s there (parent ∷ over) e =
    let r = parent-of source top s there (ap is_empty e) in
    let c = is-connected source top corner sound r.parent s r.there r.child in
    let a : r.parent.step ∷ r.parent.above ≡ parent ∷ over = sym r.above ∙ e in
    let p : r.parent.step ≡ parent = cc in
    let fit : Fit (variables parent.definition) s.step.definition s.step.connections = subst (λ t. Fit (variables t.definition) s.step.definition s.step.connections) p c.fit in
    all-bits (λ b. given all source s.step (parent ∷ over) b.0.name b.1 ≡ given_in (has_no_child source s.step) b (outer_number all source s.step (parent ∷ over) b)) (variables s.step.definition)
    (all-from (λ v. (p : ℕ) → given all source s.step (parent ∷ over) v.name p ≡ given_in (has_no_child source s.step) (v, p) (outer_number all source s.step (parent ∷ over) (v, p))) (variables s.step.definition)
    (λ v i p. given-bit all source s.step parent over (v, p) (variable-is s.step.definition v i) fit))

pub outside-given : (all : List OwnNet) (source : Source) (top : Module) (corner : Corner) → AreSound source top corner → (s : Instance) → In s (instances source top)
    → map (given_at all source s) (all_bits (variables s.step.definition)) ≡ given_row (is_leaf source s) (all_bits (variables s.step.definition)) (map (outer_number all source s.step s.above) (all_bits (variables s.step.definition)))
outside-given all source top corner sound s there =
    row-by (is_leaf source s) (outer_number all source s.step s.above) (given_at all source s) (all_bits (variables s.step.definition)) (chain-given all source top corner sound s there s.above refl)
