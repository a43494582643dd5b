use Rattle.why_history.proofs.watched.watch.Given as goal

-- the steps of the engine are counted in the blank's ledger
abbrev pub ghosts-simulate : goal.ghosts-simulate
ghosts-simulate a = record { name = a.blank.name; parts = a.blank.parts }
