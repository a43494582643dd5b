-- What is there, followed by what is left, is the whole.
use Rattle.std.proofs.Common.{◌≡◌, ◌++◌}
use Rattle.elab_ports.specs.Placing.{code_constants}
use Rattle.elab_ports.proofs.Placings.{constants_left}
use Rattle.elab_ports.proofs.constants.push_constants.Given as goal

abbrev pub invariant-loop-offset : goal.invariant-loop-offset
invariant-loop-offset l = l.list.items ++ constants_left l.start l.offset l.bits ≡ l.initial.list.items ++ code_constants l.start l.bits
