-- What is absent names nothing.
use Rattle.elab_variables.specs.Naming.{key_texts}
use Rattle.elab_variables.proofs.UsedNames.{none-named}
use Rattle.elab_variables.proofs.naming.OptionExpressionNaming.add_to.Goals as goal

pub returns-in-None : goal.returns-in-None
returns-in-None c = none-named (key_texts c.args.known.now.keys) c.args.self.now c.in-None.is
