use Rattle.run_dump.proofs.stops.stop_and_dump.Given as goal

-- the steps of the engine are counted in the blank's ledger
abbrev pub ghosts-simulate_until : goal.ghosts-simulate_until
ghosts-simulate_until g a = record { name = a.blank.name; parts = a.blank.parts }
