-- Names that are used whole, where they may be implicit nets.
use Rattle.elab_variables.specs.Naming.{key_texts}
use Rattle.elab_variables.proofs.ItemNames.{implicit-named, none-implicit}
use Rattle.elab_variables.proofs.naming.add_implicit.Goals as goal

pub returns-in_ok-add_all : goal.returns-in_ok-add_all
returns-in_ok-add_all c = implicit-named (key_texts c.args.known.now.keys) _ c.args.definition.now c.deref.result.now c.deref.ensures.value c.if-definition.true c.in_ok-add_all.ensures

pub returns-else-definition : goal.returns-else-definition
returns-else-definition c = none-implicit (key_texts c.args.known.now.keys) c.args.definition.now c.if-definition.false
