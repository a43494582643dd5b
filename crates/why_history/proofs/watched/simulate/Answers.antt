use Rattle.why_history.proofs.watched.simulate.Goals as goal

pub returns : goal.returns
returns g c = (_, rw c.in_ok-sim.ensures at c.run.ensures.ended)
