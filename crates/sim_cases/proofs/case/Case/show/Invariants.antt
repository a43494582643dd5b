-- The run's ledger is that of its blank.
use Rattle.sim_cases.proofs.case.Case.show.Given as goal

abbrev pub ghosts-run : goal.ghosts-run
ghosts-run a = record { name = a.blank.name; parts = a.blank.parts }
