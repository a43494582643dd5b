use Rattle.sim_rounds.proofs.settling.are_computed.Given as goal

-- the steps are counted in the blank's ledger
abbrev pub ghosts-agree : goal.ghosts-agree
ghosts-agree a = record { name = a.blank.name; parts = a.blank.parts }
