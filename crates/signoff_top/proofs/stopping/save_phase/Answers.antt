use Rattle.signoff_top.proofs.stopping.save_phase.Goals as goal

pub returns-in-Ok-clause-gives : goal.returns-in-Ok-clause-gives
returns-in-Ok-clause-gives c = record { outcome = c.in-Ok.ensures.read }
