-- A bucket's chain begins at its first end.
use Rattle.std.proofs.Common.{◌<◌, length, ap, subst, sym}
use Rattle.event_wheel.specs.declared.chains.Ends.{Ends}
use Rattle.event_wheel.specs.Wheel.{WheelView, IsBucket}
use Rattle.event_wheel.proofs.AgendaLaws.{is_bucket}
use Rattle.event_wheel.proofs.WriteLaws.{read_ends}
use Rattle.event_wheel.proofs.wheel.Wheel.first_in_bucket.Goals as goal

pub returns : goal.returns
returns c =
    let B = c.self.inside.chains.buckets.items in
    let within : c.args.bucket < length B = subst (λ (v : WheelView). c.args.bucket < v.buckets) (sym c.self.view_is) c.requires in
    subst (IsBucket c.args.self.now.nodes c.args.self.now.buckets c.args.bucket) (sym c.key.ensures)
    (subst (λ (v : WheelView). IsBucket v.nodes v.buckets c.args.bucket c.index.result.now.first) c.self.view_is
    (is_bucket c.self.inside.chains.nodes B c.args.bucket c.index.result.now.first c.self.invariant.chained.by_time within
    (ap (λ (x : Ends). x.first) (read_ends B c.args.bucket c.index.result.now within c.index.ensures))))
