use Rattle.std.specs.Prelude.{◌<◌, ◌≤◌, length}
use Rattle.std.proofs.Common.{sym, refl, arith}
use Rattle.sim_times.proofs.SimulationLaws.{no_items}
use Rattle.sim_times.proofs.StepLaws.{set_nothing_more, some_items}
use Rattle.sim_times.proofs.steps.first_setting.Goals as goal

pub returns-then-not-is_empty-clause-some : goal.returns-then-not-is_empty-clause-some
returns-then-not-is_empty-clause-some c =
    let lt : c.loop-step.step-index < length c.args.steps.now = omega arith in
    let step = c.step-item.result in
    record {
      place = c.loop-step.step-index;
      step = step;
      within = lt;
      is = sym c.step-item.is;
      time_is = refl;
      sets = some_items step.sets.items step.sets.len c.is_empty.result c.is_empty.ensures step.sets.ok.0 c.if-not-is_empty.true;
      before = c.loop-step.invariant;
    }

pub loop-step-preserved : goal.loop-step-preserved
loop-step-preserved c =
    let lt : c.loop-step.step-index < length c.args.steps.now = omega arith in
    let step = c.step-item.result in
    set_nothing_more c.args.steps.now c.loop-step.step-index step c.step-item.is (no_items step.sets.items step.sets.len c.is_empty.result c.is_empty.ensures step.sets.ok.0 c.if-not-is_empty.false) lt c.loop-step.invariant

pub returns-clause-none : goal.returns-clause-none
returns-clause-none c =
    let most : length c.args.steps.now ≤ c.loop-step.step-index = c.loop-step-test.false in
    λ i blank l. c.loop-step.invariant i blank (omega (arith, most, l))
