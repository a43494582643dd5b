-- The number so far goes on by the digits that are left.
use Rattle.std.proofs.Common.{◌≡◌, length}
use Rattle.sg_time.specs.Spelling.{number_from}
use Rattle.vcd_form.proofs.ranges.number_of.Given as goal

abbrev pub invariant-loop-rest : goal.invariant-loop-rest
invariant-loop-rest l = number_from l.number l.rest ≡ number_from 0 l.digits

abbrev pub decreases-loop-rest : goal.decreases-loop-rest
decreases-loop-rest l = length l.rest
