-- A name has the place of its variable.
use Rattle.elab_variables.proofs.TableSeen.{found-place}
use Rattle.elab_variables.proofs.tables.Table.find.Goals as goal

pub returns : goal.returns
returns c = found-place c.args.self.now c.self.inside.names.keys c.self.inside.rows.items c.self.inside.bits c.self.invariant c.self.view_is c.args.name.now c.get_index_of.result
    c.get_index_of.ensures.index
