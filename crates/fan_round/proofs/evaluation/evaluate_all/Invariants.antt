use Rattle.std.proofs.Common.{◌≡◌, ◌≤◌, ◌+◌, ◌*◌, [], length, map, take}
use Rattle.sg_logic.specs.declared.values.Value.TheVariants.{X}
use Rattle.sg_model.specs.Round.{element_list, element_value}
use Rattle.fan_round.specs.Lists.{at_places}
use Rattle.fan_round.specs.Nets.{stamp_seen}
use Rattle.fan_round.proofs.evaluation.evaluate_all.Given as goal

-- the elements so far are evaluated, each in a step, and room is left for the others
abbrev pub invariant-loop-element : goal.invariant-loop-element
invariant-loop-element g l = record {
  machine : g.E.Elements.machine l.elements ≡ g.E.Elements.machine l.fn.elements;
  net_count : g.E.Elements.net_count l.elements ≡ g.E.Elements.net_count l.fn.elements;
  lists : g.A.Agenda.lists l.agenda ≡ at_places (element_list (g.E.Elements.machine l.fn.elements) l.now l.before l.values (map stamp_seen l.stamps) (g.E.Elements.states l.fn.elements)) [] (take l.element-index l.work) (g.A.Agenda.lists l.fn.agenda);
  states : g.E.Elements.states l.elements ≡ at_places (element_value (g.E.Elements.machine l.fn.elements) l.before l.values) X (take l.element-index l.work) (g.E.Elements.states l.fn.elements);
  spare : 2 * length l.work ≤ g.A.Agenda.spare l.agenda + 2 * l.element-index;
  steps : l.steps ≡ l.fn.steps + l.element-index;
}
