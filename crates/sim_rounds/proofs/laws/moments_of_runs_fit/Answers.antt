use Rattle.sim_rounds.proofs.MomentsFit.{moments_fit}
use Rattle.sim_rounds.proofs.laws.moments_of_runs_fit.Goals as goal

pub returns : goal.returns
returns c = moments_fit
