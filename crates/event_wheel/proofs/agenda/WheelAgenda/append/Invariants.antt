-- The ledger is that of the blank.
use Rattle.event_wheel.proofs.agenda.WheelAgenda.append.Given as goal

abbrev pub ghosts-append_from : goal.ghosts-append_from
ghosts-append_from a = record { name = a.blank.name; parts = a.blank.parts }
