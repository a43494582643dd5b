-- A select names no net that may be implicit.
use Rattle.elab_variables.specs.Naming.{key_texts}
use Rattle.elab_variables.proofs.UsedNames.{selected}
use Rattle.elab_variables.proofs.naming.add_leaf.Goals as goal

pub returns-in-Some : goal.returns-in-Some
returns-in-Some c = selected (key_texts c.args.known.now.keys) c.args.name c.args.select c.in-Some.field-0 c.in-Some.is
