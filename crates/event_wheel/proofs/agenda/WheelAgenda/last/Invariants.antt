-- The ledger is that of the blank.
use Rattle.event_wheel.proofs.agenda.WheelAgenda.last.Given as goal

abbrev pub ghosts-last_from : goal.ghosts-last_from
ghosts-last_from a = record { name = a.blank.name; parts = a.blank.parts }
