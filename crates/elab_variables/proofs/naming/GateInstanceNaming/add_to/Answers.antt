-- The names of the terminals.
use Rattle.std.proofs.lemmas.Result.{on_ok_weaker}
use Rattle.elab_variables.specs.Naming.{key_texts}
use Rattle.elab_variables.proofs.UsedNames.{terminals-named}
use Rattle.elab_variables.proofs.naming.GateInstanceNaming.add_to.Goals as goal

pub returns : goal.returns
returns c = on_ok_weaker c.add_all.result (terminals-named (key_texts c.args.known.now.keys) _ c.args.self.now.terminals.items c.deref.result.now c.deref.ensures.value) c.add_all.ensures
