-- A driver's last node has its latest transition.
use Rattle.std.proofs.Common.{◌≡◌, Some, None, reverse, ap, subst, sym, ◌∙◌}
use Rattle.sg_model.specs.Pending.{last_of}
use Rattle.sg_model.specs.Agenda.{list_at, Rises}
use Rattle.event_wheel.specs.declared.chains.Ends.{Ends}
use Rattle.event_wheel.specs.Slots.{node_at}
use Rattle.event_wheel.specs.Wheel.{WheelView}
use Rattle.event_wheel.proofs.LinkLaws.{is_some-of}
use Rattle.event_wheel.proofs.TableLaws.{table-rises}
use Rattle.event_wheel.proofs.AgendaLaws.{driver_in, last_is, last_some, last_nothing}
use Rattle.event_wheel.proofs.WriteLaws.{read_ends}
use Rattle.event_wheel.proofs.agenda.last_from.Goals as goal

pub read-node-requires : goal.read-node-requires
read-node-requires g c =
    let held = c.wheel.inside.chains.nodes in
    let D = c.wheel.inside.chains.drivers.items in
    let R = c.wheel.invariant.chained.by_driver in
    let within = driver_in held c.wheel.inside.chains.buckets.items D c.args.wheel.now c.args.driver c.wheel.view_is c.requires.driver in
    let last = sym (ap (λ (x : Ends). x.last) (read_ends D c.args.driver c.index.result.now within c.index.ensures)) ∙ (sym c.key.ensures ∙ c.in-Some.is) in
    let s = last_is held D R.chains c.args.driver c.in-Some.key R.indexed within last in
    is_some-of (node_at held c.in-Some.key) s.0 s.1

pub returns-in-Some-clause-last : goal.returns-in-Some-clause-last
returns-in-Some-clause-last g c =
    let held = c.wheel.inside.chains.nodes in
    let D = c.wheel.inside.chains.drivers.items in
    let R = c.wheel.invariant.chained.by_driver in
    let within = driver_in held c.wheel.inside.chains.buckets.items D c.args.wheel.now c.args.driver c.wheel.view_is c.requires.driver in
    let last = sym (ap (λ (x : Ends). x.last) (read_ends D c.args.driver c.index.result.now within c.index.ensures)) ∙ (sym c.key.ensures ∙ c.in-Some.is) in
    subst (λ (v : WheelView). Some (c.read-node.result.time, c.read-node.result.value) ≡ last_of (list_at v.lists c.args.driver)) c.wheel.view_is
    (sym (last_some held D R.chains c.args.driver c.in-Some.key c.read-node.result R.indexed within last c.read-node.ensures.node))

pub returns-in-Some-clause-rising : goal.returns-in-Some-clause-rising
returns-in-Some-clause-rising g c =
    let held = c.wheel.inside.chains.nodes in
    let D = c.wheel.inside.chains.drivers.items in
    let R = c.wheel.invariant.chained.by_driver in
    let within = driver_in held c.wheel.inside.chains.buckets.items D c.args.wheel.now c.args.driver c.wheel.view_is c.requires.driver in
    subst (λ (v : WheelView). Rises (reverse (list_at v.lists c.args.driver))) c.wheel.view_is (table-rises held D R.chains c.args.driver R.indexed within)

pub returns-clause-last : goal.returns-clause-last
returns-clause-last g c =
    let held = c.wheel.inside.chains.nodes in
    let D = c.wheel.inside.chains.drivers.items in
    let R = c.wheel.invariant.chained.by_driver in
    let within = driver_in held c.wheel.inside.chains.buckets.items D c.args.wheel.now c.args.driver c.wheel.view_is c.requires.driver in
    let last = sym (ap (λ (x : Ends). x.last) (read_ends D c.args.driver c.index.result.now within c.index.ensures)) ∙ (sym c.key.ensures ∙ c.in-None.is) in
    subst (λ (v : WheelView). None ≡ last_of (list_at v.lists c.args.driver)) c.wheel.view_is
    (sym (last_nothing held D R.chains c.args.driver R.indexed within last))

pub returns-clause-rising : goal.returns-clause-rising
returns-clause-rising g c =
    let held = c.wheel.inside.chains.nodes in
    let D = c.wheel.inside.chains.drivers.items in
    let R = c.wheel.invariant.chained.by_driver in
    let within = driver_in held c.wheel.inside.chains.buckets.items D c.args.wheel.now c.args.driver c.wheel.view_is c.requires.driver in
    subst (λ (v : WheelView). Rises (reverse (list_at v.lists c.args.driver))) c.wheel.view_is (table-rises held D R.chains c.args.driver R.indexed within)
