use Rattle.std.proofs.Common.{◌≡◌, ◌<◌, [], length, map, take, slice_index_or, slice_set, sym, ◌∙◌, ap, subst, arith}
use Rattle.sg_model.specs.Agenda.{list_at, with_list}
use Rattle.sg_model.specs.Values.{value_at}
use Rattle.sg_model.specs.Round.{element_list, element_value}
use Rattle.fan_round.specs.Nets.{stamp_seen}
use Rattle.fan_round.proofs.ListLaws.{length-at_places}
use Rattle.fan_round.proofs.EvaluationLaws.{below_still, evaluated_lists, evaluated_states}
use Rattle.fan_round.proofs.evaluation.evaluate_all.Goals as goal

pub evaluate-requires-clause-element : goal.evaluate-requires-clause-element
evaluate-requires-clause-element g c =
    let lists = g.A.Agenda.lists in
    let same : length (lists c.loop-element.agenda) ≡ length (lists c.args.agenda.now) = ap length c.loop-element.invariant.lists ∙ length-at_places (element_list (g.E.Elements.machine c.args.elements.now) c.args.now c.args.before.now c.args.values.now (map stamp_seen c.args.stamps.now) (g.E.Elements.states c.args.elements.now)) [] (take c.loop-element.element-index c.args.work.now) (lists c.args.agenda.now) in
    subst (λ n. slice_index_or c.args.work.now c.loop-element.element-index 0 < n) (sym same) (c.requires.elements c.loop-element.element-index 0 c.loop-element-test.true)

pub evaluate-requires-clause-known : goal.evaluate-requires-clause-known
evaluate-requires-clause-known g c =
    subst (λ m. slice_index_or c.args.work.now c.loop-element.element-index 0 < length m.inputs) (sym c.loop-element.invariant.machine) (c.requires.known c.loop-element.element-index 0 c.loop-element-test.true)

pub loop-element-preserved : goal.loop-element-preserved
loop-element-preserved g c =
    let lists = g.A.Agenda.lists in
    let states = g.E.Elements.states in
    let before = c.args.before.now in
    let values = c.args.values.now in
    let stamps = map stamp_seen c.args.stamps.now in
    let work = c.args.work.now in
    let i = c.loop-element.element-index in
    let e = slice_index_or work i 0 in
    let known = c.evaluate.ensures in
    let made : lists c.evaluate.new.agenda ≡ with_list (lists c.loop-element.agenda) e (element_list (g.E.Elements.machine c.args.elements.now) c.args.now before values stamps (states c.loop-element.elements) e (list_at (lists c.loop-element.agenda) e)) =
    subst (λ m. lists c.evaluate.new.agenda ≡ with_list (lists c.loop-element.agenda) e (element_list m c.args.now before values stamps (states c.loop-element.elements) e (list_at (lists c.loop-element.agenda) e))) c.loop-element.invariant.machine known.lists in
    let computed : states c.evaluate.new.self ≡ slice_set (states c.loop-element.elements) e (element_value (g.E.Elements.machine c.args.elements.now) before values e (value_at (states c.loop-element.elements) e)) =
    subst (λ m. states c.evaluate.new.self ≡ slice_set (states c.loop-element.elements) e (element_value m before values e (value_at (states c.loop-element.elements) e))) c.loop-element.invariant.machine known.states in
    record {
      machine = known.machine ∙ c.loop-element.invariant.machine;
      lists = evaluated_lists (g.E.Elements.machine c.args.elements.now) c.args.now before values stamps work i 0 (lists c.args.agenda.now) (lists c.loop-element.agenda) (lists c.evaluate.new.agenda) (states c.args.elements.now) (states c.loop-element.elements)
          c.requires.once c.loop-element-test.true c.loop-element.invariant.lists c.loop-element.invariant.states made;
      states = evaluated_states (g.E.Elements.machine c.args.elements.now) before values work i 0 (states c.args.elements.now) (states c.loop-element.elements) (states c.evaluate.new.self) c.loop-element-test.true c.loop-element.invariant.states computed;
      spare = omega (arith, known.spare, c.loop-element.invariant.spare);
      net_count = known.net_count ∙ c.loop-element.invariant.net_count;
      steps = omega (arith, known.steps, c.loop-element.invariant.steps);
    }

pub evaluate-requires-clause-from_now : goal.evaluate-requires-clause-from_now
evaluate-requires-clause-from_now g c =
    let m = g.E.Elements.machine c.args.elements.now in
    below_still c.args.now (element_list m c.args.now c.args.before.now c.args.values.now (map stamp_seen c.args.stamps.now) (g.E.Elements.states c.args.elements.now)) c.args.work.now c.loop-element.element-index 0
    (g.A.Agenda.lists c.args.agenda.now) (g.A.Agenda.lists c.loop-element.agenda) c.requires.once c.loop-element-test.true (c.requires.elements c.loop-element.element-index 0 c.loop-element-test.true) c.requires.from_now c.loop-element.invariant.lists
