-- The ledger is that of the blank.
use Rattle.event_wheel.proofs.agenda.WheelAgenda.drop_last.Given as goal

abbrev pub ghosts-cancel_from : goal.ghosts-cancel_from
ghosts-cancel_from a = record { name = a.blank.name; parts = a.blank.parts }
