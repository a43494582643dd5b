-- What is due is first in its bucket.
use Rattle.std.proofs.Common.{◌≡◌, ◌≢◌, ◌<◌, ◌%◌, Some, length, refl, ap, subst, sym, ◌∙◌, arith}
use Rattle.sg_model.specs.Agenda.{IsTaken, NothingBelow}
use Rattle.event_wheel.specs.declared.nodes.Node.{Node}
use Rattle.event_wheel.specs.declared.chains.Ends.{Ends}
use Rattle.event_wheel.specs.Slots.{node_at}
use Rattle.event_wheel.specs.Kept.{table_of}
use Rattle.event_wheel.specs.Wheel.{WheelView}
use Rattle.event_wheel.proofs.AgendaLaws.{nothing_due, unmet_none, unmet_other, take_gives_due}
use Rattle.event_wheel.proofs.SearchLaws.{first_held}
use Rattle.event_wheel.proofs.WriteLaws.{read_ends}
use Rattle.event_wheel.proofs.agenda.take_due_from.Goals as goal

pub returns-in_default-clause-none : goal.returns-in_default-clause-none
returns-in_default-clause-none g c =
    let held = c.wheel.inside.chains.nodes in
    let B = c.wheel.inside.chains.buckets.items in
    let some = c.wheel.invariant.chained.some in
    let bucket : c.bucket_of-bucket.result ≡ c.args.now % length B = c.bucket_of-bucket.ensures ∙ ap (λ xs. c.args.now % length xs) c.deref.ensures.value in
    let inside : c.args.now % length B < length B = omega arith in
    let within : c.bucket_of-bucket.result < length B = omega arith in (
      nothing_due held B c.wheel.inside.chains.drivers.items c.wheel.inside.chains.near.items c.args.wheel.now c.args.now c.bucket_of-bucket.result c.index.result.now.first c.wheel.invariant.chained c.wheel.view_is c.requires.below bucket
          (ap (λ (x : Ends). x.first) (read_ends B c.bucket_of-bucket.result c.index.result.now within c.index.ensures))
          (unmet_none (node_at held) c.index.result.now.first c.args.now (sym c.key.ensures ∙ c.in_default.is)),
      refl,
    )

pub read-requires : goal.read-requires
read-requires g c =
    let held = c.wheel.inside.chains.nodes in
    let B = c.wheel.inside.chains.buckets.items in
    let some = c.wheel.invariant.chained.some in
    let bucket : c.bucket_of-bucket.result ≡ c.args.now % length B = c.bucket_of-bucket.ensures ∙ ap (λ xs. c.args.now % length xs) c.deref.ensures.value in
    let inside : c.args.now % length B < length B = omega arith in
    let within : c.bucket_of-bucket.result < length B = omega arith in
    first_held (node_at held) B c.bucket_of-bucket.result c.index.result.now.first c.wheel.invariant.chained.by_time within
    (ap (λ (x : Ends). x.first) (read_ends B c.bucket_of-bucket.result c.index.result.now within c.index.ensures)) c.in-Some.key (sym c.key.ensures ∙ c.in-Some.is)

pub returns-then-read-now-clause-none : goal.returns-then-read-now-clause-none
returns-then-read-now-clause-none g c =
    let held = c.wheel.inside.chains.nodes in
    let B = c.wheel.inside.chains.buckets.items in
    let some = c.wheel.invariant.chained.some in
    let bucket : c.bucket_of-bucket.result ≡ c.args.now % length B = c.bucket_of-bucket.ensures ∙ ap (λ xs. c.args.now % length xs) c.deref.ensures.value in
    let inside : c.args.now % length B < length B = omega arith in
    let within : c.bucket_of-bucket.result < length B = omega arith in
    let other : c.read.result.time ≢ c.args.now = c.if-read-now.true in (
      nothing_due held B c.wheel.inside.chains.drivers.items c.wheel.inside.chains.near.items c.args.wheel.now c.args.now c.bucket_of-bucket.result c.index.result.now.first c.wheel.invariant.chained c.wheel.view_is c.requires.below bucket
          (ap (λ (x : Ends). x.first) (read_ends B c.bucket_of-bucket.result c.index.result.now within c.index.ensures))
          (unmet_other (node_at held) c.index.result.now.first c.in-Some.key c.args.now c.read.result (sym c.key.ensures ∙ c.in-Some.is) c.read.ensures.node other),
      refl,
    )

pub returns-clause-some : goal.returns-clause-some
returns-clause-some g c =
    let held = c.wheel.inside.chains.nodes in
    let B = c.wheel.inside.chains.buckets.items in
    let D = c.wheel.inside.chains.drivers.items in
    let R = c.wheel.invariant.chained.by_driver in
    let below = subst (λ (v : WheelView). NothingBelow c.args.now v.lists) (sym c.wheel.view_is) c.requires.below in
    let same : c.read.result ≡ c.take-node.result = (let y : Some c.read.result ≡ Some c.take-node.result = sym c.read.ensures.node ∙ c.take-node.ensures.taken.held in cc) in
    let now : c.read.result.time ≡ c.args.now = c.if-read-now.false in
    let due : c.take-node.result.time ≡ c.args.now = ap (λ (x : Node). x.time) (sym same) ∙ now in
    subst (λ (v : WheelView). IsTaken c.args.now v.lists (table_of c.take-node.new.self.nodes c.take-node.new.self.drivers.items) (c.take-node.result.driver, c.take-node.result.value)) c.wheel.view_is
    (take_gives_due held c.take-node.new.self.nodes B D c.take-node.new.self.buckets.items c.take-node.new.self.drivers.items c.take-node.new.self.near.items R.chains c.args.now c.in-Some.key c.take-node.result R.indexed c.take-node.ensures.taken below due)
