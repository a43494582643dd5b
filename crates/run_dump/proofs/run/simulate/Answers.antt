use Rattle.run_dump.proofs.run.simulate.Goals as goal

pub returns-clause-ended : goal.returns-clause-ended
returns-clause-ended g c = (_, rw c.in_ok-sim.ensures at c.run.ensures.ended, c.run.ensures.evaluations)
