use Rattle.sim_rounds.proofs.MachineLaws.{lawful, steady, later}
use Rattle.sim_rounds.proofs.laws.circuit_is_lawful.Goals as goal

pub returns : goal.returns
returns c = λ circuit. (lawful circuit, steady circuit, later circuit)
