-- What constants at the ports of an instance of a module drive has nets.
use Rattle.std.specs.Prelude.{◌≡◌, ℕ, ◌<◌, List, ◌∷◌, Bool, true, false, Some, None, slice_get, refl, if◌then◌else◌}
use Rattle.std.specs.List.{AllByRecursion, enumerate_from}
use Rattle.std.specs.Option.{option_and_then}
use Rattle.std.proofs.Common.{sym, ◌∙◌, ap, subst}
use Rattle.std.proofs.lemmas.Option.{slice_get_within}
use Rattle.sg_circuit.specs.Closed.{width_of}
use Rattle.sg_logic.specs.declared.values.Value.{Value}
use Rattle.sg_text.specs.declared.places.Place.{Place}
use Rattle.vl_tree.specs.Tree.{Expression, Module, Source}
use Rattle.elab_model.specs.Ports.{port_list}
use Rattle.elab_model.specs.Names.{variable, variables}
use Rattle.elab_model.specs.Bits.{Bit, net, constant, bits}
use Rattle.elab_model.specs.Hierarchy.{Step, Instance, instances, children, top_instance, levels_below_top}
use Rattle.elab_model.specs.Connections.{connection_at, bound_to, port_values}
use Rattle.elab_model.specs.Homes.{bit, outside, is_shared, has_leg, same_above, home, home_of}
use Rattle.elab_model.specs.Elements.{expression_bits, constant_pass, port_spot, port_elements, child_elements}
use Rattle.elab_model.specs.Nets.{nets}
use Rattle.elab_laws.specs.Words.{Owns}
use Rattle.elab_laws.proofs.Lists.{In, all-in}
use Rattle.elab_laws.proofs.Homes.{home-there}
use Rattle.elab_laws.proofs.PartsApart.{AreOnce, places-are}
use Rattle.elab_laws.proofs.NoFaults.{child-there}
use Rattle.elab_laws.proofs.LegSources.{constant-there}
use Rattle.elab_laws.specs.ElementLaws.{HasNets}
use Rattle.elab_laws.proofs.HaveNets.{HaveNets, all-flat_from}
use Rattle.elab_laws.proofs.Ports.{FitsPort, port-bit}

-- a bit that is bound to a constant is a net of its own
constant-own : (source : Source) (c parent : Step) (over : List Step) (n : List ℕ) (p : ℕ) (at : Place) (v : Value) → bound_to c parent n p ≡ Some (constant at v)
    → home source c (parent ∷ over) n p ≡ bit c.number n p
constant-own source c parent over n p at v bound = by (is_shared source c n) refl
  where
    by : (b : Bool) → is_shared source c n ≡ b → home source c (parent ∷ over) n p ≡ bit c.number n p
    by true e = let same : same_above source c parent n p ≡ Some (constant at v) = ap (λ b. if b then bound_to c parent n p else None) e ∙ bound in rw (same, home) refl
    by false e = let same : same_above source c parent n p ≡ None = ap (λ b. if b then bound_to c parent n p else None) e in rw (same, home) refl

-- an instance of a module in an instance, what of it is connected once, and what fits
pub record IsConnected (source : Source) (top : Module) (s c : Instance) : Type 0 where
  pub there : In s (instances source top)
  pub child : In c (children source s)
  pub above : c.above ≡ s.step ∷ s.above
  pub once : AreOnce c.step
  pub fit : AllByRecursion (FitsPort (variables s.step.definition) c.step.definition) (port_values c.step.connections (port_list c.step.definition))

spot-has : (source : Source) (top : Module) (s c : Instance) → IsConnected source top s c → (n : List ℕ) (p : ℕ) (at : Place) (v : Value) → bound_to c.step s.step n p ≡ Some (constant at v)
    → Owns (home_of source c n p) (nets source top) → Owns (port_spot source s c n p) (nets source top)
spot-has source top s c k n p at v bound own = by (has_leg source c.step n) refl
  where
    by : (b : Bool) → has_leg source c.step n ≡ b → Owns (if b then outside s.step.number c.step.member n p else bit c.step.number n p) (nets source top)
    by true e = constant-there source top s c n p at v k.there k.child e bound
    by false e =
        let home : home_of source c n p ≡ bit c.step.number n p =
        subst (λ above. home source c.step above n p ≡ bit c.step.number n p) (sym k.above) (constant-own source c.step s.step s.above n p at v bound) in
        subst (λ o. Owns o (nets source top)) home own

port-has : (source : Source) (top : Module) (s c : Instance) → IsConnected source top s c → (e : List ℕ × Expression) → In e (port_values c.step.connections (port_list c.step.definition))
    → (p : ℕ) (b : Bit) → slice_get (expression_bits s e.1) p ≡ Some b → HaveNets source top (constant_pass s (port_spot source s c e.0 p) b)
port-has source top s c k e value p (net n q) at = tt
port-has source top s c k e value p (constant there v) at =
    let values = port_values c.step.connections (port_list c.step.definition) in
    let fit = all-in (FitsPort (variables s.step.definition) c.step.definition) e values k.fit value in
    let first = all-in (λ e. connection_at c.step.connections (port_list c.step.definition) e.0 ≡ Some e.1) e values k.once.first value in
    let bound : bound_to c.step s.step e.0 p ≡ Some (constant there v) = ap (option_and_then (λ e. slice_get (bits (variables s.step.definition) e) p)) first ∙ at in
    let lt : p < width_of (variable c.step.definition e.0).range = subst (λ w. p < w) fit.wide (slice_get_within (expression_bits s e.1) p (constant there v) at) in
    let among = child-there source levels_below_top (top_instance top) s c refl k.there k.child in (
      record {
        output = spot-has source top s c k e.0 p there v bound (home-there source top c e.0 p among (port-bit c.step.definition e.0 p fit.named lt));
        inputs = tt;
      },
      tt,
    )

pub child-has : (source : Source) (top : Module) (s c : Instance) → IsConnected source top s c → HaveNets source top (child_elements source s c)
child-has source top s c k =
    let values = port_values c.step.connections (port_list c.step.definition) in
    all-flat_from (HasNets (nets source top)) (port_elements source s c) values
    (λ e value. all-flat_from (HasNets (nets source top)) (λ b. constant_pass s (port_spot source s c e.0 b.0) b.1) (enumerate_from 0 (expression_bits s e.1))
    (λ b h. port-has source top s c k e value b.0 b.1 (all-in (λ x. slice_get (expression_bits s e.1) x.0 ≡ Some x.1) b (enumerate_from 0 (expression_bits s e.1)) (places-are (expression_bits s e.1)) h)))
