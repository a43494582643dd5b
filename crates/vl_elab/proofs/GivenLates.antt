-- The Lates of the instances, as the elements have them.
use Rattle.std.specs.Prelude.{◌≡◌, ℕ, ◌<◌, ◌≤◌, ◌^◌, List, length}
use Rattle.std.proofs.Common.{◌∙◌, ap, arith, subst, sym}
use Rattle.sg_circuit.specs.declared.elements.Element.{Element}
use Rattle.sg_delay.specs.declared.corners.Corner.{Corner}
use Rattle.late_limits.specs.Found.{late_numbers, AreLates}
use Rattle.vl_tree.specs.Tree.{Module, Source}
use Rattle.elab_model.specs.Hierarchy.{instances}
use Rattle.elab_model.specs.HierarchyFaults.{count_limit}
use Rattle.elab_hierarchy.specs.Placing.{ArePlaced}
use Rattle.elab_hierarchy.specs.declared.instances.Placed.{Placed}
use Rattle.elab_checks.specs.Library.{Library}
use Rattle.elab_checks.specs.SeenOfElements.{AreElements}
use Rattle.elab_checks.specs.Placing.{Placing}
use Rattle.elab_checks.proofs.StandingAt.{placed-count}
use Rattle.elab_checks.proofs.LatesSame.{lates-same}
use Rattle.elab_checks.specs.Standing.{HaveLates}

pub lates-given : (source : Source) (top : Module) (corner : Corner) (ready : Library) (placed : List Placed) (made : Placing) (es : List Element) (lates : List (List ℕ))
    → ArePlaced source placed (instances source top) → AreElements source top corner ready.gate_delays.items ready.udps.items made → es ≡ made.elements.items
    → AreLates es lates → length lates ≡ length placed → HaveLates source top corner lates
lates-given source top corner ready placed made es lates are elements same h many =
    let all : length lates ≡ length (instances source top) = many ∙ placed-count source placed (instances source top) are in
    record {
      count = all;
      each = λ scope lt.
          h.each scope (subst (λ n. scope < n) (sym all) lt) ∙ ap (λ xs. late_numbers xs scope) same
          ∙ lates-same source top corner ready.gate_delays.items ready.udps.items made scope elements;
    }

-- the elements, as they are lent, are few
pub few-lent : (lent es : List Element) → lent ≡ es → length es ≤ count_limit → length lent < 2 ^ 31
few-lent lent es same few = omega (arith, ap length same, few)
