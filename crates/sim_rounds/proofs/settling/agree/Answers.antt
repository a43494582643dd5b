use Rattle.std.proofs.Common.{◌≡◌, ◌∙◌, below_more, sym}
use Rattle.sg_circuit.specs.Seen.{circuit_seen}
use Rattle.sg_model.specs.Values.{value_at}
use Rattle.sim_machine.specs.Simulated.{machine_of}
use Rattle.sim_machine.proofs.ElementLaws.{inputs_among, has_room}
use Rattle.sim_rounds.proofs.SettlingLaws.{item_of, agrees, disagrees, still_room}
use Rattle.sim_rounds.proofs.settling.agree.Goals as goal

pub compute-computed-requires-clause-before : goal.compute-computed-requires-clause-before
compute-computed-requires-clause-before g c =
    inputs_among (circuit_seen c.args.parts.now) c.args.parts.now c.loop-number.number c.item-item.result c.args.nets.now
    (item_of c.args.parts.now c.args.tables.now c.args.values.now c.args.inputs c.deref-item-items.result.now c.loop-number.number c.item-item.result c.requires.evaluable c.deref-item-items.ensures.value c.loop-number-test.true c.item-item.is) c.requires.nets

pub compute-computed-requires-clause-after : goal.compute-computed-requires-clause-after
compute-computed-requires-clause-after g c =
    inputs_among (circuit_seen c.args.parts.now) c.args.parts.now c.loop-number.number c.item-item.result c.args.nets.now
    (item_of c.args.parts.now c.args.tables.now c.args.values.now c.args.inputs c.deref-item-items.result.now c.loop-number.number c.item-item.result c.requires.evaluable c.deref-item-items.ensures.value c.loop-number-test.true c.item-item.is) c.requires.nets

pub compute-computed-requires-clause-room : goal.compute-computed-requires-clause-room
compute-computed-requires-clause-room g c =
    has_room (circuit_seen c.args.parts.now) c.args.parts.now c.loop-number.number c.item-item.result c.loop-number.inputs
    (item_of c.args.parts.now c.args.tables.now c.args.values.now c.args.inputs c.deref-item-items.result.now c.loop-number.number c.item-item.result c.requires.evaluable c.deref-item-items.ensures.value c.loop-number-test.true c.item-item.is) c.loop-number.invariant.room

pub compute-computed-requires-clause-takes : goal.compute-computed-requires-clause-takes
compute-computed-requires-clause-takes g c =
    (item_of c.args.parts.now c.args.tables.now c.args.values.now c.args.inputs c.deref-item-items.result.now c.loop-number.number c.item-item.result c.requires.evaluable c.deref-item-items.ensures.value c.loop-number-test.true c.item-item.is).takes

pub returns-then-ne : goal.returns-then-ne
returns-then-ne g c =
    disagrees c.args.parts.now c.args.nets.now c.args.values.now c.loop-number.number c.item-item.result c.compute-computed.result
    (item_of c.args.parts.now c.args.tables.now c.args.values.now c.args.inputs c.deref-item-items.result.now c.loop-number.number c.item-item.result c.requires.evaluable c.deref-item-items.ensures.value c.loop-number-test.true c.item-item.is) c.requires.evaluable.state_of_each
    c.compute-computed.ensures.value (sym c.ne.ensures ∙ c.if-ne.true)

pub loop-number-preserved : goal.loop-number-preserved
loop-number-preserved g c = record {
  computed = below_more (λ k. (machine_of (circuit_seen c.args.parts.now)).value k c.args.nets.now c.args.nets.now (value_at c.args.values.now k) ≡ value_at c.args.values.now k) c.loop-number.number c.loop-number.invariant.computed
      (agrees c.args.parts.now c.args.nets.now c.args.values.now c.loop-number.number c.item-item.result c.compute-computed.result
      (item_of c.args.parts.now c.args.tables.now c.args.values.now c.args.inputs c.deref-item-items.result.now c.loop-number.number c.item-item.result c.requires.evaluable c.deref-item-items.ensures.value c.loop-number-test.true c.item-item.is) c.requires.evaluable.state_of_each
      c.compute-computed.ensures.value (sym c.ne.ensures ∙ c.if-ne.false));
  room = still_room c.loop-number.inputs c.compute-computed.new.inputs (circuit_seen c.args.parts.now).elements c.compute-computed.ensures.room c.loop-number.invariant.room;
}
