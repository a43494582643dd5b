use Rattle.run_dump.proofs.stops.simulate_until.Goals as goal

pub returns-clause-stopped : goal.returns-clause-stopped
returns-clause-stopped g c = (_, rw c.in_ok-sim.ensures at c.run_until.ensures.stopped)
