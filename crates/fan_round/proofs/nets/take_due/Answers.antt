use Rattle.std.proofs.Common.{◌≡◌, ◌+◌, length, sym, ◌∙◌, arith}
use Rattle.sg_model.specs.Round.{due_changes}
use Rattle.sg_model.proofs.TakeLaws.{takes_on-step, takes_on-end}
use Rattle.fan_round.proofs.nets.take_due.Goals as goal

pub loop-driver-smaller : goal.loop-driver-smaller
loop-driver-smaller g c =
    let lists = g.A.Agenda.lists in
    let outputs = c.args.outputs.now in
    let step = takes_on-step c.args.now outputs (lists c.args.agenda.now) (lists c.loop-driver.agenda) (lists c.take_due.new.self) c.args.values.now c.loop-driver.values c.set_value.new.values c.in-Some.driver c.in-Some.value
    c.requires.outputs (sym c.requires.as_many) c.loop-driver.invariant.takes_on c.in-Some.ensures.some c.set_value.ensures.values in
    let fewer : length (due_changes c.args.now outputs (lists c.take_due.new.self)) + 1 ≡ length (due_changes c.args.now outputs (lists c.loop-driver.agenda)) = step.1 in
    omega arith

pub loop-driver-preserved : goal.loop-driver-preserved
loop-driver-preserved g c =
    let lists = g.A.Agenda.lists in
    record {
      takes_on = (takes_on-step c.args.now c.args.outputs.now (lists c.args.agenda.now) (lists c.loop-driver.agenda) (lists c.take_due.new.self) c.args.values.now c.loop-driver.values c.set_value.new.values c.in-Some.driver c.in-Some.value
          c.requires.outputs (sym c.requires.as_many) c.loop-driver.invariant.takes_on c.in-Some.ensures.some c.set_value.ensures.values).0;
      changed = c.set_value.ensures.changed;
      capacity = omega (arith, c.set_value.ensures.capacity, c.loop-driver.invariant.capacity);
    }

pub returns-clause-values : goal.returns-clause-values
returns-clause-values g c =
    let lists = g.A.Agenda.lists in
    (takes_on-end c.args.now c.args.outputs.now (lists c.args.agenda.now) (lists c.loop-driver.agenda) c.args.values.now c.loop-driver.values c.loop-driver.invariant.takes_on c.in_default.ensures.none.0).0

pub returns-clause-lists : goal.returns-clause-lists
returns-clause-lists g c =
    let lists = g.A.Agenda.lists in
    c.in_default.ensures.none.1 ∙ (takes_on-end c.args.now c.args.outputs.now (lists c.args.agenda.now) (lists c.loop-driver.agenda) c.args.values.now c.loop-driver.values c.loop-driver.invariant.takes_on c.in_default.ensures.none.0).1
