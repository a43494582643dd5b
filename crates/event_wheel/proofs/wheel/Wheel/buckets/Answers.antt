-- There are few buckets.
use Rattle.std.proofs.Common.{◌≤◌, length, arith}
use Rattle.event_wheel.proofs.wheel.Wheel.buckets.Goals as goal

pub overflow_cast-result : goal.overflow_cast-result
overflow_cast-result c =
    let few : length c.self.inside.chains.buckets.items ≤ 1048576 = c.self.invariant.few in
    let len = c.self.inside.chains.buckets.ok.0 in
    omega arith
