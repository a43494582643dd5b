-- The names of the connections.
use Rattle.std.proofs.lemmas.Result.{on_ok_weaker}
use Rattle.elab_variables.specs.Naming.{key_texts}
use Rattle.elab_variables.proofs.UsedNames.{ordered-named, connected-named}
use Rattle.elab_variables.proofs.naming.InstanceNaming.add_to.Goals as goal

pub returns-in-Ordered : goal.returns-in-Ordered
returns-in-Ordered c =
    on_ok_weaker c.add_all.result (ordered-named (key_texts c.args.known.now.keys) _ c.args.self.now.connections c.in-Ordered.values c.in-Ordered.is c.deref.result.now c.deref.ensures.value)
    c.add_all.ensures

pub returns-in-Named : goal.returns-in-Named
returns-in-Named c =
    on_ok_weaker c.add_all-in-Named.result (connected-named (key_texts c.args.known.now.keys) _ c.args.self.now.connections c.in-Named.values c.in-Named.is c.deref-in-Named.result.now
    c.deref-in-Named.ensures.value)
    c.add_all-in-Named.ensures
