-- Check uses: a timing check of an instance's module, over nets (IEEE 1364-2005, clause 15).
use Rattle.std.specs.Prelude.{ℕ, ℤ, pos, ◌==◌, ◌&&◌, Bool, true, false, List, [], ◌∷◌, Option, filter, flat_map, map, slice_index_or, unwrap_or}
use Rattle.std.specs.List.{enumerate_from, position_from}
use Rattle.std.specs.Option.{option_and_then, option_map}
use Rattle.cond_expr.specs.Token.{Tok}
use Rattle.cond_expr.specs.Tree.{Cond}
use Rattle.sg_circuit.specs.Checks.{CheckConditions}
use Rattle.sg_circuit.specs.Circuit.{Kind, Late}
use Rattle.sg_circuit.specs.declared.checks.Check.{Check}
use Rattle.sg_circuit.specs.declared.checks.CheckKind.{CheckKind}
use Rattle.sg_circuit.specs.declared.checks.CheckTiming.{CheckTiming}
use Rattle.sg_circuit.specs.declared.checks.Event.{Event}
use Rattle.sg_circuit.specs.declared.checks.Terminal.{Terminal}
use Rattle.sg_delay.specs.declared.corners.Corner.{Corner}
use Rattle.sg_logic.specs.declared.edges.Edge.{Edge}
use Rattle.sg_text.specs.declared.places.Place.{Place}
use Rattle.vl_tree.specs.Tree.{Module, Source}
use Rattle.elab_model.specs.Delays.{tick_of}
use Rattle.elab_model.specs.Drivers.{elements}
use Rattle.elab_model.specs.Elements.{Component}
use Rattle.elab_model.specs.Hierarchy.{Instance, instances}
use Rattle.elab_model.specs.Lates.{DelayedCopy, is_same_copy, module_copies}
use Rattle.elab_model.specs.Nets.{OwnNet, nets}
use Rattle.specify_model.specs.Checks.{ModuleEvent, ModuleCheck, timing_checks}
use Rattle.specify_model.specs.Conditions.{over}
use Rattle.elab_model.specs.Terms.{NetBit}
use Rattle.circuit_model.specs.PathUses.{bit_number}

-- the events of a terminal: its net, how a report names it, the changes of the net that are events, and what enables them (15.1, 15.4, 15.6)
pub record EventUse : Type 0 where
  pub net : ℕ
  pub terminal : Terminal
  pub edge : Option Edge
  pub condition : Option (List Tok × Cond ℕ)

-- the instance that has the check and the check's place; limits in ticks, in the order of the text; the net that a violation toggles (15.5); the Lates whose outputs the check sees in
-- place of its terminals' nets (15.8)
pub record CheckUse : Type 0 where
  pub scope : ℕ
  pub place : Place
  pub kind : CheckKind
  pub refer : EventUse
  pub datum : Option EventUse
  pub limits : List ℤ
  pub threshold : ℕ
  pub notifier : Option ℕ
  pub lates : Option (List ℕ)

-- of an instance, in which the module's bits have these nets
abbrev pub event_use : (NetBit → ℕ) → ModuleEvent → EventUse
event_use net e = record {
  net = net e.bit;
  terminal = record { name = e.bit.name; bit = e.index };
  edge = e.edge;
  condition = option_map (λ c. (c.0, over net c.1)) e.condition;
}

abbrev pub check_use : (scope : ℕ) → (NetBit → ℕ) → (DelayedCopy → ℕ) → ModuleCheck → CheckUse
check_use scope net late c = record {
  scope = scope;
  place = c.place;
  kind = c.kind;
  refer = event_use net c.refer;
  datum = option_map (event_use net) c.datum;
  limits = c.limits;
  threshold = c.threshold;
  notifier = option_map net c.notifier;
  lates = option_map (λ cs. late cs.0 ∷ late cs.1 ∷ []) c.copies;
}

-- the Lates of an instance, by their numbers among the elements: one for each copy of its module, in the same order
abbrev pub is_late : Kind → Bool
is_late (Late delay) = true
is_late _ = false

abbrev pub is_late_in : (scope : ℕ) → ℕ × Component → Bool
is_late_in scope e = (e.1.scope == scope) && is_late e.1.kind

abbrev pub lates_in : List Component → (scope : ℕ) → List ℕ
lates_in cs scope = map (λ e. e.0) (filter (is_late_in scope) (enumerate_from 0 cs))

abbrev pub copy_place : Module → DelayedCopy → ℕ
copy_place m c = unwrap_or (position_from (λ d. is_same_copy c d.1) 0 (module_copies m)) 0

abbrev pub late_number : List Component → Instance → DelayedCopy → ℕ
late_number cs s c = slice_index_or (lates_in cs s.step.number) (copy_place s.step.definition c) 0

abbrev pub check_uses_of : List OwnNet → List Component → Source → Corner → ℤ → Instance → List CheckUse
check_uses_of all cs source corner tick s = map (check_use s.step.number (bit_number all source s) (late_number cs s)) (timing_checks corner tick s.step.definition)

-- by instance, and then in text order
abbrev pub check_uses : Source → Module → Corner → List CheckUse
check_uses source top corner = flat_map (check_uses_of (nets source top) (elements source top corner) source corner (tick_of source top)) (instances source top)

-- ---- the checks of a circuit

-- how a report names it, the net that its violations toggle (15.5), and where its text stands
abbrev pub check_of_use : CheckUse → Check
check_of_use u = record { scope = u.scope; kind = u.kind; refer = u.refer.terminal; datum = option_map (λ e. e.terminal) u.datum; notifier = u.notifier; place = u.place }

-- what it looks for: a check has two limits, of which the second is 0 where its kind has one
abbrev pub event_of_use : EventUse → Event
event_of_use e = record { net = e.net; edge = e.edge; condition = option_map (λ c. c.1) e.condition }

abbrev pub two_limits : List ℤ → List ℤ
two_limits [] = pos 0 ∷ pos 0 ∷ []
two_limits (l ∷ []) = l ∷ pos 0 ∷ []
two_limits (l ∷ m ∷ more) = l ∷ m ∷ []

abbrev pub timing_of_use : CheckUse → CheckTiming
timing_of_use u = record { kind = u.kind; refer = event_of_use u.refer; datum = option_map event_of_use u.datum; limits = two_limits u.limits; threshold = u.threshold; late = u.lates }

-- how its conditions are spelled
abbrev pub written_of : EventUse → Option (List Tok)
written_of e = option_map (λ c. c.0) e.condition

abbrev pub written_of_use : CheckUse → CheckConditions
written_of_use u = record { refer = written_of u.refer; datum = option_and_then written_of u.datum }
