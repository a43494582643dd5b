use Rattle.run_dump.proofs.stops.resume_and_dump.Given as goal

-- the steps of the engine are counted in the blank's ledger
abbrev pub ghosts-simulate_rest : goal.ghosts-simulate_rest
ghosts-simulate_rest g a = record { name = a.blank.name; parts = a.blank.parts }
