use Rattle.std.proofs.Common.{◌≡◌, ◌≤◌, length, nat_lt}
use Rattle.std.specs.Vec.{vec_capacity}
use Rattle.fan_round.specs.Lists.{IsListOf}
use Rattle.fan_round.proofs.work.list_every.Given as goal

abbrev pub invariant-loop-element : goal.invariant-loop-element
invariant-loop-element l = record {
  listed : IsListOf (λ e. nat_lt e l.element) l.work.items;
  many : length l.work.items ≡ l.element;
  capacity : vec_capacity l.fn.work ≤ vec_capacity l.work;
}
