-- All spots of a circuit without faults are named.
use Rattle.std.specs.Prelude.{◌≡◌, ℕ, List, [], All, map}
use Rattle.std.specs.List.{AllByRecursion}
use Rattle.std.proofs.Common.{sym, subst}
use Rattle.std.proofs.lemmas.List.Elements.{All-from_recursion}
use Rattle.sg_circuit.specs.Circuit.{Circuit, Element, Gate, Kind, Late, Leg, Pass, Path, Udp}
use Rattle.sg_delay.specs.declared.corners.Corner.{Corner}
use Rattle.vl_tree.specs.Tree.{Module, Source}
use Rattle.elab_model.specs.Delays.{tick_of}
use Rattle.elab_model.specs.Drivers.{elements}
use Rattle.elab_model.specs.Elements.{Component, elements_of}
use Rattle.elab_model.specs.Hierarchy.{instances}
use Rattle.elab_model.specs.Nets.{nets}
use Rattle.elab_model.specs.Numbered.{element_of}
use Rattle.circuit_model.specs.Circuits.{circuit}
use Rattle.circuit_model.specs.Faults.{faults_below}
use Rattle.circuit_model.specs.PathUses.{circuit_elements, path_uses, with_paths}
use Rattle.elab_laws.specs.Laws.{AreSound}
use Rattle.elab_laws.proofs.Lists.{all-flat_in, all-from, all-map, all-weaker}
use Rattle.elab_laws.proofs.NoFaults.{each-faultless}
use Rattle.elab_closed.proofs.Counts.{faultless-parts}
use Rattle.late_limits.specs.Adjusted.{IsAdjustedFrom, adjusted, late_delay, late_element, late_kind}
use Rattle.neg_limits.specs.declared.pairs.Zeroed.{Zeroed}
use Rattle.annotation_model.specs.Spots.{Spot, leg_spot, path_spot, spots, spots_in, spots_of}
use Rattle.written_reading.specs.Named.{IsNamedSpot}
use Rattle.written_names.proofs.ElementSpots.{elements-named}
use Rattle.written_names.proofs.PathSpots.{sound-at}

each-named : (source : Source) (top : Module) (corner : Corner) → faults_below source top corner ≡ [] → AllByRecursion (λ e. AllByRecursion (IsNamedSpot (circuit source top corner)) (spots_of e)) (circuit_elements source top corner)
each-named source top corner h =
    let f = faultless-parts source top corner h in
    let sound : AreSound source top corner = each-faultless source top corner f.plain in
    let tick = tick_of source top in
    let Named = IsNamedSpot (circuit source top corner) in
    let made : Component → Element = λ c. element_of (nets source top) (with_paths (path_uses source top corner) c) in
    all-map (λ e. AllByRecursion Named (spots_of e)) made (elements source top corner)
    (all-flat_in (λ c. AllByRecursion Named (spots_of (made c))) (elements_of source corner tick) (instances source top)
    (all-from (λ s. AllByRecursion (λ c. AllByRecursion Named (spots_of (made c))) (elements_of source corner tick s)) (instances source top)
    (λ s there. elements-named source top corner s (sound-at source top corner s sound f.paths there))))

-- ---- Lates aside, an adjusted circuit has the same elements, and its scopes

same-spots : (P : Spot → Type 0) (s : ℕ) (inputs : List ℕ) (output delay : ℕ) (k : Kind) → AllByRecursion P (spots_in s inputs output k) → AllByRecursion P (spots_in s inputs output (late_kind delay k))
same-spots P s inputs output delay (Gate kind delays) h = h
same-spots P s inputs output delay (Udp primitive first delays) h = h
same-spots P s inputs output delay (Pass constant) h = h
same-spots P s inputs output delay (Leg timings) h = h
same-spots P s inputs output delay (Path paths style) h = h
same-spots P s inputs output delay (Late before) h = h

same-named : (c : Circuit) (zeroed : ℕ → List Zeroed) (delays : ℕ → List ℕ) (x : Spot) → IsNamedSpot c x → IsNamedSpot (adjusted c zeroed delays) x
same-named c zeroed delays (leg_spot s inputs output timings) h = h
same-named c zeroed delays (path_spot s output path) h = h

adjusted-named : (c : Circuit) (zeroed : ℕ → List Zeroed) (delays : ℕ → List ℕ) → AllByRecursion (λ e. AllByRecursion (IsNamedSpot c) (spots_of e)) c.elements → All (IsNamedSpot (adjusted c zeroed delays)) (spots (adjusted c zeroed delays))
adjusted-named c zeroed delays h =
    let Named = IsNamedSpot (adjusted c zeroed delays) in
    All-from_recursion Named (spots (adjusted c zeroed delays))
    (all-flat_in Named spots_of (map (late_element c delays) c.elements)
    (all-map (λ e. AllByRecursion Named (spots_of e)) (late_element c delays) c.elements
    (all-weaker (λ e. AllByRecursion (IsNamedSpot c) (spots_of e)) (λ e. AllByRecursion Named (spots_of (late_element c delays e))) c.elements one h)))
  where
    one : (e : Element) → AllByRecursion (IsNamedSpot c) (spots_of e) → AllByRecursion (IsNamedSpot (adjusted c zeroed delays)) (spots_of (late_element c delays e))
    one e k =
        let Named = IsNamedSpot (adjusted c zeroed delays) in
        same-spots Named e.scope e.inputs e.output (late_delay c delays e) e.kind (all-weaker (IsNamedSpot c) Named (spots_of e) (same-named c zeroed delays) k)

-- legs stand at input ports, and paths lead from input ports to output ports of their scope
pub spots-named : (source : Source) (top : Module) (corner : Corner) (made : Circuit) → faults_below source top corner ≡ [] → IsAdjustedFrom (circuit source top corner) made → All (IsNamedSpot made) (spots made)
spots-named source top corner made h a =
    subst (λ c. All (IsNamedSpot c) (spots c)) (sym a.made_is) (adjusted-named (circuit source top corner) a.zeroed a.delays (each-named source top corner h))
