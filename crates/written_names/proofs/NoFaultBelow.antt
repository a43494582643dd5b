-- Below the top of a tree that is elaborated stands no fault.
use Rattle.std.specs.Prelude.{◌≡◌, ℕ, List, [], ◌∷◌, Option}
use Rattle.std.specs.List.{IsAmong}
use Rattle.std.proofs.Common.{refl, sym, ◌∙◌, ap, arith}
use Rattle.sg_circuit.specs.Circuit.{Circuit}
use Rattle.sg_delay.specs.declared.corners.Corner.{Corner}
use Rattle.vl_tree.specs.Tree.{Source}
use Rattle.elab_model.specs.Faults.{Fault}
use Rattle.elab_model.specs.HierarchyFaults.{two_definitions}
use Rattle.elab_model.specs.Tops.{top_of}
use Rattle.circuit_model.specs.Elaboration.{IsElaborated, in_list}
use Rattle.circuit_model.specs.Faults.{faults, faults_below, top_faults}
use Rattle.elab_laws.proofs.NoFaults.{back}

none_among : (fs : List Fault) → ((f : Fault) → IsAmong fs f → ⊥) → fs ≡ []
none_among [] h = refl
none_among (f ∷ fs) h = absurd (h f (0, (omega arith, refl)))

pub none_below : (source : Source) (name : Option (List ℕ)) (corner : Corner) (c : Circuit) (e : IsElaborated source name corner c) → faults_below source e.top corner ≡ []
none_below source name corner c e =
    sym (ap (top_faults source corner) e.is_top)
    ∙ back (two_definitions source) (top_faults source corner (top_of source name)) (none_among (faults source name corner) (λ f there. e.no_fault f.kind f.place (in_list there)))
