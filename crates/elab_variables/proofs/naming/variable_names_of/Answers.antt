-- The ports, then the nets, then the implicit ones.
use Rattle.elab_variables.proofs.ItemNames.{all-named}
use Rattle.elab_variables.proofs.naming.variable_names_of.Goals as goal

pub returns : goal.returns
returns c =
    all-named c.args.definition.now c.new-known.result.keys c.add_all.new.known.keys c.add_all-2.new.known.keys c.add_implicit.new.known.keys c.in_ok-ports.ports.items c.args.nets.now
    c.deref.result.now
    c.deref.ensures.value c.in_ok-ports.ensures c.requires c.new-known.ensures.empty c.in_ok-add_all.ensures c.in_ok-add_all-2.ensures c.in_ok-add_implicit.ensures
