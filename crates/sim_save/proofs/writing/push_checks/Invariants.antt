use Rattle.std.proofs.Common.{◌≡◌, ◌++◌, map, drop}
use Rattle.sim_save.specs.Lines.{check_line, joined}
use Rattle.sim_save.proofs.writing.push_checks.Given as goal

abbrev pub invariant-loop-known : goal.invariant-loop-known
invariant-loop-known l = l.text.items ++ joined (map check_line (drop l.known-index l.latest)) ≡ l.fn.text.items ++ joined (map check_line l.latest)
