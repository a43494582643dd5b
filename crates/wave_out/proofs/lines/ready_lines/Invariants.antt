use Rattle.wave_out.specs.Ready.{HasLines}
use Rattle.wave_out.proofs.lines.ready_lines.Given as goal

-- the variables so far have their lines
abbrev pub invariant-loop-k : goal.invariant-loop-k
invariant-loop-k l = HasLines l.k l.variables l.lines.items
