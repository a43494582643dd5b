use Rattle.std.proofs.Common.{◌≡◌, take, false}
use Rattle.fan_round.specs.Lists.{at_places}
use Rattle.fan_round.proofs.work.clear_work.Given as goal

abbrev pub invariant-loop-element : goal.invariant-loop-element
invariant-loop-element l = l.marks ≡ at_places (λ e b. false) false (take l.element-index l.element-items) l.fn.marks
