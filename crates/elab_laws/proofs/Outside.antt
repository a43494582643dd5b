-- What lies outside a leaf: an input that nothing is connected to has a net.
use Rattle.std.specs.Prelude.{◌≡◌, ℕ, zero, suc, ◌+◌, ◌<◌, ◌==◌, List, [], ◌∷◌, ◌++◌, true, Option, Some, None, flat_map, filter_map, refl, if◌then◌else◌}
use Rattle.std.specs.List.{enumerate_from, cons_option}
use Rattle.std.specs.Option.{option_and_then}
use Rattle.std.proofs.Common.{sym, ◌∙◌, ap, arith, inl, inr, subst}
use Rattle.std.proofs.lemmas.Bool.{eq-eqb}
use Rattle.sg_circuit.specs.Closed.{width_of}
use Rattle.vl_tree.specs.Tree.{Module, Source, Part, a_module, a_primitive}
use Rattle.elab_model.specs.Members.{Member, assignment, supply, gate, instance, path, check, members}
use Rattle.elab_model.specs.Definitions.{definition_of, as_module}
use Rattle.elab_model.specs.Names.{Variable, variables}
use Rattle.elab_model.specs.Bits.{positions}
use Rattle.elab_model.specs.Hierarchy.{Step, Instance, Child, child_of, child_of_member, children_in, children_from, children_at, children, instances, size}
use Rattle.elab_model.specs.Homes.{outside, has_leg}
use Rattle.elab_model.specs.Elements.{child_at, bound_above}
use Rattle.elab_model.specs.Nets.{outside_net, is_unbound, unbound_net, unbound_nets, constant_nets, instance_nets, member_nets, nets}
use Rattle.elab_laws.specs.Words.{Owns}
use Rattle.elab_laws.proofs.Lists.{In, in-left, in-flat, in-range}
use Rattle.elab_laws.proofs.Terminals.{in-member}

-- what filter_map keeps comes of an element
pub record Kept {A B : Type 0} (f : A → Option B) (b : B) (xs : List A) : Type 0 where
  pub element : A
  pub there : In element xs
  pub gives : f element ≡ Some b

pub kept-from : {A B : Type 0} (f : A → Option B) (b : B) (xs : List A) → In b (filter_map f xs) → Kept f b xs
kept-from f b [] h = absurd h
kept-from {A} {B} f b (x ∷ xs) h = by (f x) refl h (λ k. kept-from f b xs k)
  where
    later : Kept f b xs → Kept f b (x ∷ xs)
    later r = record { element = r.element; there = inr r.there; gives = r.gives }

    by : (o : Option B) → f x ≡ o → In b (cons_option o (filter_map f xs)) → (In b (filter_map f xs) → Kept f b xs) → Kept f b (x ∷ xs)
    by None e k rest = later (rest k)
    by (Some y) e (inl g) rest = record { element = x; there = inl refl; gives = e ∙ ap (λ z. Some z) (sym g) }
    by (Some y) e (inr k) rest = later (rest k)

-- a child comes of an instance among the members
pub record ChildOf (source : Source) (s c : Instance) : Type 0 where
  pub member : ℕ × Member
  pub there : In member (enumerate_from 0 (members s.step.definition))
  pub number : c.step.member ≡ member.0
  pub makes : member_nets source s member ≡ flat_map (λ c. unbound_nets source s c ++ constant_nets source s c) (child_at source s member.0)

-- the instance of a module that a child is
made-by : (source : Source) (levels : ℕ) (above : List Step) (next : ℕ) (is : List Child) (c : Instance) → In c (children_from source levels above next is) → (i : Child) × In i is × (c.step.member ≡ i.member)
made-by source levels above next [] c h = absurd h
made-by source levels above next (i ∷ is) c (inl e) = (i, inl refl, ap (λ c. c.step.member) e)
made-by source levels above next (i ∷ is) c (inr h) = let r = made-by source levels above (next + size source levels i.definition) is c h in (r.0, inr r.1, r.2)

abbrev member_or : ℕ → Option Child → ℕ
member_or k None = k
member_or k (Some i) = i.member

member-is : (source : Source) (s : Instance) (k : ℕ) (x : Member) (i : Child) → child_of_member source k x ≡ Some i
    → (i.member ≡ k) × (member_nets source s (k, x) ≡ flat_map (λ c. unbound_nets source s c ++ constant_nets source s c) (child_at source s k))
member-is source s k (assignment j) i e = cc
member-is source s k (supply n v) i e = cc
member-is source s k (gate g d t) i e = cc
member-is source s k (path p) i e = cc
member-is source s k (check t) i e = cc
member-is source s k (instance n d t) i e = by (definition_of source n.text) e
  where
    by : (o : Option Part) → child_of (option_and_then as_module o) k t ≡ Some i
        → (i.member ≡ k) × (instance_nets source s k t o ≡ flat_map (λ c. unbound_nets source s c ++ constant_nets source s c) (child_at source s k))
    by None e = cc
    by (Some (a_primitive p)) e = cc
    by (Some (a_module m)) e = (sym (ap (member_or k) e), refl)

pub child-of : (source : Source) (s c : Instance) (n : ℕ) → In c (children_at source n s) → ChildOf source s c
child-of source s c zero h = absurd h
child-of source s c (suc levels) h =
    let m = made-by source levels (s.step ∷ s.above) (suc s.step.number) (children_in source s.step.definition) c h in
    let k = kept-from (λ x. child_of_member source x.0 x.1) m.0 (enumerate_from 0 (members s.step.definition)) m.1 in
    let r = member-is source s k.element.0 k.element.1 m.0 k.gives in
    record { member = k.element; there = k.there; number = m.2 ∙ r.0; makes = r.1 }

pub child-at : (source : Source) (s c : Instance) (k : ℕ) → In c (children source s) → c.step.member ≡ k → In c (child_at source s k)
child-at source s c k h e =
    in-flat (λ c. if c.step.member == k then c ∷ [] else []) c c (children source s) h
    (subst (λ b. In c (if b then c ∷ [] else [])) (sym (eq-eqb c.step.member k e)) (inl refl))

-- the net outside an input bit of a leaf that nothing is connected to
pub outside-there : (source : Source) (top : Module) (s c : Instance) (v : Variable) (p : ℕ) → In s (instances source top) → In c (children source s) → In v (variables c.step.definition)
    → p < width_of v.range → has_leg source c.step v.name ≡ true → is_unbound (bound_above c.step c.above v.name p) ≡ true → Owns (outside s.step.number c.step.member v.name p) (nets source top)
outside-there source top s c v p there child variable lt leg free =
    let r = child-of source s c s.step.levels child in
    let o = outside_net s c v p in
    let one : In o (unbound_net s c v p) = subst (λ b. In o (if b then o ∷ [] else [])) (sym free) (inl refl) in
    let all : In o (flat_map (unbound_net s c v) (positions v.range)) = in-flat (unbound_net s c v) p o (positions v.range) (in-range p 0 (width_of v.range) (omega arith) (omega arith)) one in
    let legs : In o (if has_leg source c.step v.name then flat_map (unbound_net s c v) (positions v.range) else []) = subst (λ b. In o (if b then flat_map (unbound_net s c v) (positions v.range) else [])) (sym leg) all in
    let own : In o (unbound_nets source s c ++ constant_nets source s c) =
    in-left o (unbound_nets source s c) (constant_nets source s c) (in-flat (λ v. if has_leg source c.step v.name then flat_map (unbound_net s c v) (positions v.range) else []) v o (variables c.step.definition) variable legs) in
    let made : In o (flat_map (λ c. unbound_nets source s c ++ constant_nets source s c) (child_at source s r.member.0)) =
    in-flat (λ c. unbound_nets source s c ++ constant_nets source s c) c o (child_at source s r.member.0) (child-at source s c r.member.0 child r.number) own in
    record { owned = o; there = in-member source top s r.member o there r.there (subst (In o) (sym r.makes) made); same = refl }
