use Rattle.std.proofs.Common.{◌≡◌, ◌++◌, map, drop}
use Rattle.sim_rounds.specs.MomentsSeen.{pending_seen}
use Rattle.sim_save.specs.Lines.{pending_line, joined}
use Rattle.sim_save.proofs.writing.push_each_pending.Given as goal

abbrev pub invariant-loop-transition : goal.invariant-loop-transition
invariant-loop-transition l = l.text.items ++ joined (map pending_line (map (λ p. pending_seen p) (drop l.transition-index l.pending))) ≡ l.fn.text.items ++ joined (map pending_line (map (λ p. pending_seen p) l.pending))
