-- The conditions of a circuit that is read of a netlist.
use Rattle.std.specs.Prelude.{◌≡◌, ℕ, All, List, [], ◌∷◌, Option, map}
use Rattle.std.specs.List.{AllByRecursion, IsAmong}
use Rattle.std.proofs.Common.{refl, sym, ◌∙◌, ap, subst, arith}
use Rattle.sg_circuit.specs.Circuit.{Circuit, Kind, Gate, Udp, Pass, Leg, Path, Late}
use Rattle.sg_delay.specs.declared.corners.Corner.{Corner}
use Rattle.vl_tree.specs.Tree.{Source}
use Rattle.elab_model.specs.Faults.{Fault}
use Rattle.elab_model.specs.HierarchyFaults.{two_definitions}
use Rattle.elab_model.specs.Tops.{top_of}
use Rattle.circuit_model.specs.CheckUses.{check_uses, written_of_use}
use Rattle.circuit_model.specs.Circuits.{circuit}
use Rattle.circuit_model.specs.Elaboration.{IsElaborated, in_list}
use Rattle.circuit_model.specs.Faults.{faults, faults_below, top_faults}
use Rattle.elab_laws.specs.Laws.{AreSound}
use Rattle.elab_laws.proofs.Lists.{all-map, all-weaker}
use Rattle.elab_laws.proofs.NoFaults.{back, each-faultless}
use Rattle.elab_closed.proofs.Counts.{faultless-parts}
use Rattle.late_limits.specs.Adjusted.{IsAdjustedFrom, late_delay, late_element, late_kind}
use Rattle.vcd_laws.specs.Reading.{IsRead}
use Rattle.written_model.specs.Faults.{conditions}
use Rattle.written_reading.specs.Named.{IsWrittenCondition}
use Rattle.written_names.proofs.CheckUseLaws.{IsGoodUse, uses_are_good}
use Rattle.written_names.proofs.ConditionLaws.{IsGoodWritten, conditions_are, use_written}
use Rattle.written_names.proofs.PathUseLaws.{IsGoodElement, IsGoodKind, elements_are}
use Rattle.written_names.proofs.ReadModules.{instances_spelled}

-- ---- no fault stands

none_of : (fs : List Fault) → ((f : Fault) → IsAmong fs f → ⊥) → fs ≡ []
none_of [] h = refl
none_of (f ∷ fs) h = absurd (h f (0, (omega arith, refl)))

-- a tree that has a circuit has no fault below its top
pub none_below : (tree : Source) (name : Option (List ℕ)) (corner : Corner) (c : Circuit) (e : IsElaborated tree name corner c) → faults_below tree e.top corner ≡ []
none_below tree name corner c e =
    let all : faults tree name corner ≡ [] = none_of (faults tree name corner) (λ f h. e.no_fault f.kind f.place (in_list h)) in
    sym (ap (top_faults tree corner) e.is_top) ∙ back (two_definitions tree) (top_faults tree corner (top_of tree name)) all

pub modules_sound : (tree : Source) (name : Option (List ℕ)) (corner : Corner) (c : Circuit) (e : IsElaborated tree name corner c) → AreSound tree e.top corner
modules_sound tree name corner c e = each-faultless tree e.top corner (faultless-parts tree e.top corner (none_below tree name corner c e)).plain

-- ---- adjusting leaves conditions

kind_adjusted : (delay : ℕ) (k : Kind) → IsGoodKind k → IsGoodKind (late_kind delay k)
kind_adjusted delay (Gate kind delays) h = tt
kind_adjusted delay (Udp primitive first delays) h = tt
kind_adjusted delay (Pass constant) h = tt
kind_adjusted delay (Leg timings) h = tt
kind_adjusted delay (Path paths style) h = h
kind_adjusted delay (Late before) h = tt

elements_adjusted : (c : Circuit) (delays : ℕ → List ℕ) → AllByRecursion IsGoodElement c.elements → AllByRecursion IsGoodElement (map (late_element c delays) c.elements)
elements_adjusted c delays h =
    all-map IsGoodElement (late_element c delays) c.elements (all-weaker IsGoodElement (λ e. IsGoodElement (late_element c delays e)) c.elements (λ e k. kind_adjusted (late_delay c delays e) e.kind k) h)

conditions_adjusted : (c made : Circuit) → IsAdjustedFrom c made → AllByRecursion IsGoodElement c.elements → AllByRecursion IsGoodWritten c.check_conditions → (s : ℕ) → All IsWrittenCondition (conditions made s)
conditions_adjusted c made a elements written =
    conditions_are made (subst (λ (m : Circuit). AllByRecursion IsGoodElement m.elements) (sym a.made_is) (elements_adjusted c a.delays elements)) (subst (λ (m : Circuit). AllByRecursion IsGoodWritten m.check_conditions) (sym a.made_is) written)

-- ---- circuits

-- the field `conditions` of what names a circuit of a netlist has
pub read_conditions : (texts : List (List ℕ)) (name : Option (List ℕ)) (corner : Corner) (c : Circuit) → IsRead texts name corner c → (s : ℕ) → All IsWrittenCondition (conditions c s)
read_conditions texts name corner c read =
    let tree = read.tree in
    let e = read.is_elaborated in
    let spelled = instances_spelled texts name corner c read in
    let uses = check_uses tree e.top corner in
    conditions_adjusted (circuit tree e.top corner) c e.is_circuit (elements_are tree e.top corner (modules_sound tree name corner c e) spelled)
    (all-map IsGoodWritten written_of_use uses (all-weaker IsGoodUse (λ u. IsGoodWritten (written_of_use u)) uses use_written (uses_are_good tree e.top corner spelled)))
