-- The ledger is that of the blank.
use Rattle.event_wheel.proofs.agenda.WheelAgenda.take_due.Given as goal

abbrev pub ghosts-take_due_from : goal.ghosts-take_due_from
ghosts-take_due_from a = record { name = a.blank.name; parts = a.blank.parts }
