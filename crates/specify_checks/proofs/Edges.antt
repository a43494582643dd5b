-- A check of one event has an edge.
use Rattle.std.specs.Prelude.{◌≡◌, [], true, false, ◌&&◌, Option, Some, None, is_none, refl}
use Rattle.std.specs.Option.{option_map}
use Rattle.std.proofs.Common.{◌∙◌, ap}
use Rattle.sg_circuit.specs.declared.checks.CheckKind.{CheckKind}
use Rattle.sg_text.specs.declared.refusals.Refused.TheVariants as refused
use Rattle.vl_tree.specs.declared.checks.Event.{Event}
use Rattle.vl_tree.specs.Seen.{view_edge, view_event}
use Rattle.elab_model.specs.declared.kinds.ElabKind.TheVariants.{BadTerminal}
use Rattle.elab_model.specs.Faults.{fault_if, RefusesOneOf}
use Rattle.specify_model.specs.CheckFaults.{wants_edge}
use Rattle.specify_values.proofs.InTurn.{fault-told, none-if}

none-seen : {A B : Type 0} (f : A → B) (o : Option A) → is_none (option_map f o) ≡ is_none o
none-seen f None = refl
none-seen f (Some x) = refl

module _ (k : CheckKind) (e : Event) where
  edges-same : (wants_edge k && is_none (view_event e).edge) ≡ (wants_edge k && is_none e.edge)
  edges-same = ap (λ b. wants_edge k && b) (none-seen view_edge e.edge)

  pub lacking-told : (wants_edge k && is_none e.edge) ≡ true → RefusesOneOf (fault_if (wants_edge k && is_none (view_event e).edge) BadTerminal e.place) (refused.Fault BadTerminal e.place)
  lacking-told h = fault-told (wants_edge k && is_none (view_event e).edge) BadTerminal e.place (edges-same ∙ h)

  pub none-lacking : (wants_edge k && is_none e.edge) ≡ false → fault_if (wants_edge k && is_none (view_event e).edge) BadTerminal e.place ≡ []
  none-lacking h = none-if (wants_edge k && is_none (view_event e).edge) BadTerminal e.place (edges-same ∙ h)
