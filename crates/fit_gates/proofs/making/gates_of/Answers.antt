-- What was made has the values of the expression.
use Rattle.fit_gates.proofs.MakingLaws.{ok-made}
use Rattle.fit_gates.proofs.making.gates_of.Goals as goal

pub returns : goal.returns
returns c = ok-made c.made.result _ _ _ _ c.made.ensures
