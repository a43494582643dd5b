-- What Legs read has a net.
use Rattle.std.specs.Prelude.{◌≡◌, ℕ, zero, suc, ◌+◌, ◌<◌, List, [], ◌∷◌, ◌++◌, Bool, true, false, Option, Some, None, find, flat_map, filter_map, zip, slice_get, refl, cond, if◌then◌else◌, bytes_eq}
use Rattle.std.specs.List.{enumerate_from, cons_option}
use Rattle.std.specs.Option.{option_and_then}
use Rattle.std.proofs.Common.{sym, ◌∙◌, ap, arith, inl, inr, subst}
use Rattle.std.proofs.lemmas.Slice.Eq.{bytes_eq-Decides}
use Rattle.sg_circuit.specs.Closed.{width_of}
use Rattle.sg_logic.specs.declared.values.Value.{Value}
use Rattle.sg_text.specs.declared.places.Place.{Place}
use Rattle.vl_tree.specs.Tree.{Named, Expression, NamedConnection, Connections, by_order, by_name, Module, Source}
use Rattle.elab_model.specs.Ports.{port_list}
use Rattle.elab_model.specs.Names.{Variable, variable, variables}
use Rattle.elab_model.specs.Bits.{Bit, net, constant, bits}
use Rattle.elab_model.specs.Hierarchy.{Instance, children, instances}
use Rattle.elab_model.specs.Connections.{in_order, connection_at, bound_to, with_port, port_values}
use Rattle.elab_model.specs.Homes.{outside, has_leg}
use Rattle.elab_model.specs.Elements.{expression_bits, child_at, bound_above, leg_source}
use Rattle.elab_model.specs.Nets.{outside_net, is_unbound, constant_net, unbound_nets, constant_nets, nets}
use Rattle.elab_laws.specs.Words.{Owns}
use Rattle.elab_laws.proofs.Lists.{In, in-right, in-flat}
use Rattle.elab_laws.proofs.Places.{bound-below}
use Rattle.elab_laws.proofs.Homes.{home-there}
use Rattle.elab_laws.proofs.Terminals.{in-member}
use Rattle.elab_laws.proofs.Outside.{child-of, child-at, outside-there}

-- what stands at a place is among the numbered
pub place-there : {A : Type 0} (a : ℕ) (xs : List A) (p : ℕ) (x : A) → slice_get xs p ≡ Some x → In (a + p, x) (enumerate_from a xs)
place-there a [] p x e = cc
place-there a (y ∷ xs) zero x e = let z : a + 0 ≡ a = omega arith in let g : y ≡ x = cc in inl (λ i. (z i, sym g i))
place-there a (y ∷ xs) (suc p) x e = let z : a + suc p ≡ (a + 1) + p = omega arith in inr (subst (λ k. In (k, x) (enumerate_from (a + 1) xs)) (sym z) (place-there (a + 1) xs p x e))

-- a connection of a port is one of the values
order-there : (n : List ℕ) (ps : List Named) (es : List (Option Expression)) (e : Expression) → in_order n ps es ≡ Some e → In (n, e) (filter_map (λ p. with_port p.0.text p.1) (zip ps es))
order-there n [] es e h = cc
order-there n (p ∷ ps) [] e h = cc
order-there n (p ∷ ps) (x ∷ es) e h = by (bytes_eq n p.text) refl x h (λ k. order-there n ps es e k)
  where
    skip : (o : Option (List ℕ × Expression)) → In (n, e) (filter_map (λ p. with_port p.0.text p.1) (zip ps es)) → In (n, e) (cons_option o (filter_map (λ p. with_port p.0.text p.1) (zip ps es)))
    skip None k = k
    skip (Some y) k = inr k

    by : (b : Bool) → bytes_eq n p.text ≡ b → (x : Option Expression) → (if b then x else in_order n ps es) ≡ Some e
        → (in_order n ps es ≡ Some e → In (n, e) (filter_map (λ p. with_port p.0.text p.1) (zip ps es)))
        → In (n, e) (cons_option (with_port p.text x) (filter_map (λ p. with_port p.0.text p.1) (zip ps es)))
    by true t None h rest = cc
    by true t (Some y) h rest = let is : n ≡ p.text = (bytes_eq-Decides n p.text).0 t in let g : y ≡ e = cc in inl (λ i. (is i, sym g i))
    by false t x h rest = skip (with_port p.text x) (rest h)

name-there : (n : List ℕ) (cs : List NamedConnection) (e : Expression) → option_and_then (λ c. c.value) (find (λ c. bytes_eq n c.port.text) cs) ≡ Some e → In (n, e) (filter_map (λ c. with_port c.port.text c.value) cs)
name-there n [] e h = cc
name-there n (c ∷ cs) e h = by (bytes_eq n c.port.text) refl c.value refl h (λ k. name-there n cs e k)
  where
    skip : (o : Option (List ℕ × Expression)) → In (n, e) (filter_map (λ c. with_port c.port.text c.value) cs) → In (n, e) (cons_option o (filter_map (λ c. with_port c.port.text c.value) cs))
    skip None k = k
    skip (Some y) k = inr k

    by : (b : Bool) → bytes_eq n c.port.text ≡ b → (x : Option Expression) → c.value ≡ x → option_and_then (λ c. c.value) (cond b (Some c) (find (λ c. bytes_eq n c.port.text) cs)) ≡ Some e
        → (option_and_then (λ c. c.value) (find (λ c. bytes_eq n c.port.text) cs) ≡ Some e → In (n, e) (filter_map (λ c. with_port c.port.text c.value) cs))
        → In (n, e) (cons_option (with_port c.port.text x) (filter_map (λ c. with_port c.port.text c.value) cs))
    by true t None v h rest = let g : None ≡ Some e = sym v ∙ h in cc
    by true t (Some y) v h rest = let is : n ≡ c.port.text = (bytes_eq-Decides n c.port.text).0 t in let g : Some y ≡ Some e = sym v ∙ h in let f : y ≡ e = cc in inl (λ i. (is i, sym f i))
    by false t x v h rest = skip (with_port c.port.text x) (rest h)

pub value-there : (x : Connections) (ps : List Named) (n : List ℕ) (e : Expression) → connection_at x ps n ≡ Some e → In (n, e) (port_values x ps)
value-there (by_order es) ps n e h = order-there n ps es e h
value-there (by_name cs) ps n e h = name-there n cs e h

-- the net of a constant at an input of a leaf
pub constant-there : (source : Source) (top : Module) (s c : Instance) (n : List ℕ) (p : ℕ) (at : Place) (v : Value) → In s (instances source top) → In c (children source s)
    → has_leg source c.step n ≡ true → bound_to c.step s.step n p ≡ Some (constant at v) → Owns (outside s.step.number c.step.member n p) (nets source top)
constant-there source top s c n p at v there child leg bound = by (connection_at c.step.connections (port_list c.step.definition) n) refl bound
  where
    by : (o : Option Expression) → connection_at c.step.connections (port_list c.step.definition) n ≡ o → option_and_then (λ e. slice_get (bits (variables s.step.definition) e) p) o ≡ Some (constant at v)
        → Owns (outside s.step.number c.step.member n p) (nets source top)
    by None e h = cc
    by (Some x) e h =
        let r = child-of source s c s.step.levels child in
        let w = variable c.step.definition n in
        let o = outside_net s c w p in
        let place : In (p, constant at v) (enumerate_from 0 (expression_bits s x)) =
        (let z : 0 + p ≡ p = omega arith in subst (λ k. In (k, constant at v) (enumerate_from 0 (expression_bits s x))) z (place-there 0 (expression_bits s x) p (constant at v) h)) in
        let one : In o (flat_map (constant_net s c w) (enumerate_from 0 (expression_bits s x))) = in-flat (constant_net s c w) (p, constant at v) o (enumerate_from 0 (expression_bits s x)) place (inl refl) in
        let legs : In o (if has_leg source c.step n then flat_map (constant_net s c w) (enumerate_from 0 (expression_bits s x)) else []) = subst (λ b. In o (if b then flat_map (constant_net s c w) (enumerate_from 0 (expression_bits s x)) else [])) (sym leg) one in
        let value : In (n, x) (port_values c.step.connections (port_list c.step.definition)) = value-there c.step.connections (port_list c.step.definition) n x e in
        let all : In o (constant_nets source s c) =
        in-flat (λ e. if has_leg source c.step e.0 then flat_map (constant_net s c (variable c.step.definition e.0)) (enumerate_from 0 (expression_bits s e.1)) else []) (n, x) o (port_values c.step.connections (port_list c.step.definition)) value legs in
        let made : In o (flat_map (λ c. unbound_nets source s c ++ constant_nets source s c) (child_at source s r.member.0)) =
        in-flat (λ c. unbound_nets source s c ++ constant_nets source s c) c o (child_at source s r.member.0) (child-at source s c r.member.0 child r.number) (in-right o (unbound_nets source s c) (constant_nets source s c) all) in
        record { owned = o; there = in-member source top s r.member o there r.there (subst (In o) (sym r.makes) made); same = refl }

-- what a Leg reads has a net
pub leg-there : (source : Source) (top : Module) (s c : Instance) (v : Variable) (p : ℕ) → In s (instances source top) → In c (children source s) → c.above ≡ s.step ∷ s.above → In v (variables c.step.definition)
    → p < width_of v.range → has_leg source c.step v.name ≡ true → Owns (leg_source source c.step (s.step ∷ s.above) v.name p (bound_to c.step s.step v.name p)) (nets source top)
leg-there source top s c v p there child above variable lt leg = by (bound_to c.step s.step v.name p) refl
  where
    by : (b : Option Bit) → bound_to c.step s.step v.name p ≡ b → Owns (leg_source source c.step (s.step ∷ s.above) v.name p b) (nets source top)
    by None e = outside-there source top s c v p there child variable lt leg (ap (λ a. is_unbound (bound_above c.step a v.name p)) above ∙ ap is_unbound e)
    by (Some (constant at w)) e = constant-there source top s c v.name p at w there child leg e
    by (Some (net m q)) e = home-there source top s m q there (bound-below c.step s.step v.name p (net m q) e)
