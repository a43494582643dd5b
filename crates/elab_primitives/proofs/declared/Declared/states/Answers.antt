-- They lie between two of the places.
use Rattle.elab_primitives.proofs.Cuts.{states-cut}
use Rattle.elab_primitives.proofs.declared.Declared.states.Goals as goal

pub returns : goal.returns
returns c = λ p h. states-cut p c.args.self.now c.deref.result.now c.deref.ensures.value h
