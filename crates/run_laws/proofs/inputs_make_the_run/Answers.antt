-- The law is a lemma.
use Rattle.run_laws.proofs.Circuits.{same_runs}
use Rattle.run_laws.proofs.inputs_make_the_run.Goals as goal

pub returns : goal.returns
returns c = same_runs
