-- The ledger is that of the blank.
use Rattle.event_wheel.proofs.agenda.WheelAgenda.clear.Given as goal

abbrev pub ghosts-clear_from : goal.ghosts-clear_from
ghosts-clear_from a = record { name = a.blank.name; parts = a.blank.parts }
