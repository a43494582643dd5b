-- The driver's last node goes.
use Rattle.std.proofs.Common.{◌≡◌, ◌<◌, [], length, ap, subst, sym, ◌∙◌, arith}
use Rattle.sg_model.specs.Pending.{without_last}
use Rattle.sg_model.specs.Agenda.{list_at, with_list}
use Rattle.event_wheel.specs.declared.chains.Ends.{Ends}
use Rattle.event_wheel.specs.Slots.{node_at}
use Rattle.event_wheel.specs.Kept.{table_of}
use Rattle.event_wheel.specs.Wheel.{WheelView}
use Rattle.event_wheel.proofs.LinkLaws.{is_some-of}
use Rattle.event_wheel.proofs.AgendaLaws.{cancel_drops_last, driver_in, last_is, list_none}
use Rattle.event_wheel.proofs.WriteLaws.{read_ends}
use Rattle.event_wheel.proofs.wheel.Wheel.cancel.Goals as goal

pub take-requires-clause-key : goal.take-requires-clause-key
take-requires-clause-key g c =
    let held = c.self.inside.chains.nodes in
    let D = c.self.inside.chains.drivers.items in
    let R = c.self.invariant.chained.by_driver in
    let within = driver_in held c.self.inside.chains.buckets.items D c.args.self.now c.args.driver c.self.view_is c.requires.driver in
    let last = sym (ap (λ (x : Ends). x.last) (read_ends D c.args.driver c.index.result.now within c.index.ensures)) ∙ (sym c.key.ensures ∙ c.in-Some.is) in
    let s = last_is held D R.chains c.args.driver c.in-Some.key R.indexed within last in
    is_some-of (node_at held c.in-Some.key) s.0 s.1

pub returns-in-Some-clause-lists : goal.returns-in-Some-clause-lists
returns-in-Some-clause-lists g c =
    let held = c.self.inside.chains.nodes in
    let D = c.self.inside.chains.drivers.items in
    let within = driver_in held c.self.inside.chains.buckets.items D c.args.self.now c.args.driver c.self.view_is c.requires.driver in
    let last = sym (ap (λ (x : Ends). x.last) (read_ends D c.args.driver c.index.result.now within c.index.ensures)) ∙ (sym c.key.ensures ∙ c.in-Some.is) in
    subst (λ (v : WheelView). table_of c.take.new.self.nodes c.take.new.self.drivers.items ≡ with_list v.lists c.args.driver (without_last (list_at v.lists c.args.driver))) c.self.view_is
    (cancel_drops_last held c.take.new.self.nodes c.self.inside.chains.buckets.items D c.take.new.self.buckets.items c.take.new.self.drivers.items c.take.new.self.near.items c.args.driver c.in-Some.key c.take.result c.take.ensures.taken within last)

pub returns-in_default-clause-lists : goal.returns-in_default-clause-lists
returns-in_default-clause-lists g c =
    let held = c.self.inside.chains.nodes in
    let D = c.self.inside.chains.drivers.items in
    let R = c.self.invariant.chained.by_driver in
    let within = driver_in held c.self.inside.chains.buckets.items D c.args.self.now c.args.driver c.self.view_is c.requires.driver in
    let last = sym (ap (λ (x : Ends). x.last) (read_ends D c.args.driver c.index.result.now within c.index.ensures)) ∙ (sym c.key.ensures ∙ c.in_default.is) in
    let none : list_at c.args.self.now.lists c.args.driver ≡ [] =
    subst (λ (v : WheelView). list_at v.lists c.args.driver ≡ []) c.self.view_is (list_none held D R.chains c.args.driver R.indexed within last) in
    let some : 0 < length (list_at c.args.self.now.lists c.args.driver) = c.requires.some in
    absurd (let e = ap length none in omega arith)
