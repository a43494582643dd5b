-- Whether the text is among those that are left is whether it is among all.
use Rattle.std.proofs.Common.{◌≡◌, length, map}
use Rattle.vl_specify.specs.Faults.{is_one_of}
use Rattle.vl_specify.proofs.faults.is_one_of.Given as goal

abbrev pub invariant-loop-rest : goal.invariant-loop-rest
invariant-loop-rest l = is_one_of (map (λ name. name.now) l.rest) l.text ≡ is_one_of (map (λ name. name.now) l.names) l.text

abbrev pub decreases-loop-rest : goal.decreases-loop-rest
decreases-loop-rest l = length l.rest
