-- What the code's terminals with a further condition stand for.
use Rattle.fit_checks.specs.declared.making.Side as code
use Rattle.fit_checks.specs.Written.{Run, terminal}
use Rattle.fit_checks.specs.WrittenSeen.{run_seen, terminal_seen}

abbrev pub side_seen : code.Side → Run
side_seen s = terminal (terminal_seen s.terminal) (run_seen s.further)
