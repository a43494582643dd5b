-- Instances stand after those that they lie in, and each net is of an instance.
use Rattle.std.specs.Prelude.{◌≡◌, ℕ, ◌<◌, List, [], ◌∷◌, ◌++◌, if◌then◌else◌, IfSome, Option, Some, None, filter, flat_map, length, map, refl, slice_get, slice_index_or}
use Rattle.std.specs.List.{AllByRecursion, enumerate_from, range_with_len}
use Rattle.std.proofs.Common.{sym, ◌∙◌, ap, arith, subst}
use Rattle.std.proofs.lemmas.List.{length-map}
use Rattle.sg_circuit.specs.Circuit.{Scope}
use Rattle.vl_tree.specs.Tree.{Module, Source, Part, a_module, a_primitive}
use Rattle.elab_model.specs.Bits.{Bit, net, constant, positions}
use Rattle.elab_model.specs.Connections.{port_values}
use Rattle.elab_model.specs.Definitions.{definition_of}
use Rattle.elab_model.specs.Elements.{expression_bits, output_bits, input_bits, output_count, child_at, bound_above}
use Rattle.elab_model.specs.Ends.{first_ends}
use Rattle.elab_model.specs.Hierarchy.{Step, Instance, instances}
use Rattle.elab_model.specs.Homes.{bit, is_same_spot, has_leg, home_of}
use Rattle.elab_model.specs.Lates.{own_copies, is_unnamed}
use Rattle.elab_model.specs.Members.{Member, assignment, supply, gate, instance, path, check, members, connection_values}
use Rattle.elab_model.specs.Names.{variable, variables}
use Rattle.elab_model.specs.Nets.{OwnNet, bit_net, variable_nets, terminal_net, terminal_nets, outside_net, late_net, is_unbound, unbound_net}
use Rattle.elab_model.specs.Nets.{inner_net, unbound_nets, constant_net, constant_nets, instance_nets, member_nets, nets_of, nets}
use Rattle.elab_model.specs.Numbered.{undriven}
use Rattle.elab_model.specs.Ports.{port_list}
use Rattle.elab_model.specs.Scopes.{parent_of}
use Rattle.elab_laws.proofs.Lists.{all-anyway, all-append, all-flat, all-flat_in, all-get, all-map, all-map_back, all-range, all-weaker}
use Rattle.elab_laws.proofs.PartsApart.{all-if}
use Rattle.elab_laws.proofs.Handed.{Rises, instances-rise}
use Rattle.elab_laws.proofs.Numbers.{number}
use Rattle.elab_laws.proofs.Stated.{instances-have_places}
use Rattle.elab_closed.proofs.Places.{place-of, mapped-at, counted-at}

-- ---- parents

parent-below : (n : ℕ) (above : List Step) → AllByRecursion (λ a. a.number < n) above → IfSome (parent_of above) (λ p. p < n)
parent-below n [] h = tt
parent-below n (a ∷ above) h = h.0

parents-of : (f : Instance → Scope) → ((s : Instance) → (f s).parent ≡ parent_of s.above) → (ss : List Instance) (d : Scope) → map number ss ≡ range_with_len 0 (length ss) → AllByRecursion Rises ss
    → (k : ℕ) → k < length (map f ss) → IfSome (slice_index_or (map f ss) k d).parent (λ p. p < k)
parents-of f is ss d numbers rises k lt =
    let l = length-map ss f in
    let p = place-of ss k (omega arith) in
    let s = p.0 in
    let at : slice_get ss k ≡ Some s = p.1 in
    let place : number s ≡ k = counted-at number ss k s numbers at in
    let same : (slice_index_or (map f ss) k d).parent ≡ parent_of s.above = ap (λ x. x.parent) (mapped-at f ss k d s at) ∙ is s in
    subst (λ o. IfSome o (λ p. p < k)) (sym same) (subst (λ n. IfSome (parent_of s.above) (λ p. p < n)) place (parent-below (number s) s.above (all-get Rises ss k s rises at)))

pub parents-below : (source : Source) (top : Module) (f : Instance → Scope) → ((s : Instance) → (f s).parent ≡ parent_of s.above) → (d : Scope) (k : ℕ)
    → k < length (map f (instances source top)) → IfSome (slice_index_or (map f (instances source top)) k d).parent (λ p. p < k)
parents-below source top f is d = parents-of f is (instances source top) d (instances-have_places source top) (instances-rise source top)

-- ---- the number of an instance is below their count

pub numbers-below_count : (source : Source) (top : Module) → AllByRecursion (λ s. s.step.number < length (instances source top)) (instances source top)
numbers-below_count source top =
    let n = length (instances source top) in
    all-map_back (λ k. k < n) number (instances source top) (subst (AllByRecursion (λ k. k < n)) (sym (instances-have_places source top)) (all-range n 0 n (omega arith)))

-- ---- each net of an instance has its number

abbrev IsOf : ℕ → OwnNet → Type 0
IsOf k o = o.scope ≡ k

terminal-of : (s : Instance) (k : ℕ) (bs : List Bit) (x : ℕ × Bit) → AllByRecursion (IsOf s.step.number) (terminal_net s k bs x)
terminal-of s k [] x = tt
terminal-of s k (constant at w ∷ bs) x = tt
terminal-of s k (net m q ∷ bs) (i, net n p) = tt
terminal-of s k (net m q ∷ bs) (i, constant at v) = (refl, tt)

terminals-of : (s : Instance) (k : ℕ) (outputs inputs : List Bit) → AllByRecursion (IsOf s.step.number) (terminal_nets s k outputs inputs)
terminals-of s k outputs inputs = all-flat (IsOf s.step.number) (terminal_net s k outputs) (enumerate_from 0 inputs) (terminal-of s k outputs)

unbound-of : (source : Source) (s c : Instance) → AllByRecursion (IsOf s.step.number) (unbound_nets source s c)
unbound-of source s c =
    all-flat (IsOf s.step.number) (λ v. if has_leg source c.step v.name then flat_map (unbound_net s c v) (positions v.range) else []) (variables c.step.definition)
    (λ v. all-if (IsOf s.step.number) (has_leg source c.step v.name) (flat_map (unbound_net s c v) (positions v.range))
    (all-flat (IsOf s.step.number) (unbound_net s c v) (positions v.range)
    (λ p. all-if (IsOf s.step.number) (is_unbound (bound_above c.step c.above v.name p)) (outside_net s c v p ∷ []) (refl, tt))))

constant-of : (s c : Instance) (m : Module) (n : List ℕ) (x : ℕ × Bit) → AllByRecursion (IsOf s.step.number) (constant_net s c (variable m n) x)
constant-of s c m n (p, net k q) = tt
constant-of s c m n (p, constant at w) = (refl, tt)

constants-of : (source : Source) (s c : Instance) → AllByRecursion (IsOf s.step.number) (constant_nets source s c)
constants-of source s c =
    all-flat (IsOf s.step.number)
    (λ e. if has_leg source c.step e.0 then flat_map (constant_net s c (variable c.step.definition e.0)) (enumerate_from 0 (expression_bits s e.1)) else [])
    (port_values c.step.connections (port_list c.step.definition))
    (λ e. all-if (IsOf s.step.number) (has_leg source c.step e.0) (flat_map (constant_net s c (variable c.step.definition e.0)) (enumerate_from 0 (expression_bits s e.1)))
    (all-flat (IsOf s.step.number) (constant_net s c (variable c.step.definition e.0)) (enumerate_from 0 (expression_bits s e.1)) (constant-of s c c.step.definition e.0)))

member-of : (source : Source) (s : Instance) (x : ℕ × Member) → AllByRecursion (IsOf s.step.number) (member_nets source s x)
member-of source s (k, assignment j) = tt
member-of source s (k, supply n v) = tt
member-of source s (k, gate g d i) = let outputs = output_count g (length i.terminals) in terminals-of s k (output_bits s outputs i.terminals) (input_bits s outputs i.terminals)
member-of source s (k, instance n d i) = by (definition_of source n.text)
  where
    by : (o : Option Part) → AllByRecursion (IsOf s.step.number) (instance_nets source s k i o)
    by None = tt
    by (Some (a_primitive p)) = let es = connection_values i.connections in terminals-of s k (output_bits s 1 es) (input_bits s 1 es)
    by (Some (a_module m)) =
        all-flat (IsOf s.step.number) (λ c. unbound_nets source s c ++ constant_nets source s c) (child_at source s k)
        (λ c. all-append (IsOf s.step.number) (unbound_nets source s c) (constant_nets source s c) (unbound-of source s c) (constants-of source s c))
member-of source s (k, path p) =
    let bs = first_ends s.step.definition (k, path p) in
    all-map (IsOf s.step.number) (inner_net s) bs (all-anyway (λ b. s.step.number ≡ s.step.number) bs (λ b. refl))
member-of source s (k, check t) =
    let cs = filter is_unnamed (own_copies s.step.definition (k, check t)) in
    all-map (IsOf s.step.number) (λ c. late_net s c.1.signal) cs (all-anyway (λ c. s.step.number ≡ s.step.number) cs (λ c. refl))

nets-of : (source : Source) (s : Instance) → AllByRecursion (IsOf s.step.number) (nets_of source s)
nets-of source s =
    all-append (IsOf s.step.number) (variable_nets source s) (flat_map (member_nets source s) (enumerate_from 0 (members s.step.definition)))
    (all-flat (IsOf s.step.number) (λ v. flat_map (bit_net source s v) (positions v.range)) (variables s.step.definition)
    (λ v. all-flat (IsOf s.step.number) (bit_net source s v) (positions v.range)
    (λ p. all-if (IsOf s.step.number) (is_same_spot (home_of source s v.name p) (bit s.step.number v.name p)) (_ ∷ []) (refl, tt))))
    (all-flat (IsOf s.step.number) (member_nets source s) (enumerate_from 0 (members s.step.definition)) (member-of source s))

nets-below_count : (source : Source) (top : Module) → AllByRecursion (λ o. o.scope < length (instances source top)) (nets source top)
nets-below_count source top =
    let n = length (instances source top) in
    all-flat_in (λ o. o.scope < n) (nets_of source) (instances source top)
    (all-weaker (λ s. s.step.number < n) (λ s. AllByRecursion (λ o. o.scope < n) (nets_of source s)) (instances source top)
    (λ s lt. all-weaker (IsOf s.step.number) (λ o. o.scope < n) (nets_of source s) (λ o e. subst (λ k. k < n) (sym e) lt) (nets-of source s))
    (numbers-below_count source top))

pub net-scopes : (source : Source) (top : Module) → AllByRecursion (λ n. n.scope < length (instances source top)) (map undriven (nets source top))
net-scopes source top = let n = length (instances source top) in all-map (λ x. x.scope < n) undriven (nets source top) (nets-below_count source top)
