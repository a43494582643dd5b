-- The number so far goes on by the digits that are left.
use Rattle.std.proofs.Common.{◌≡◌, ◌<◌, ◌^◌, drop}
use Rattle.sg_time.specs.Spelling.{number_from}
use Rattle.tally_violations.proofs.numbers.small_number.Given as goal

abbrev pub invariant-loop-b : goal.invariant-loop-b
invariant-loop-b l = record {
  completes : number_from l.n (drop l.b-index l.digits) ≡ number_from 0 l.digits;
  few : l.n < 2 ^ 60;
}
