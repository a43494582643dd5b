-- The name at a place is the variable's.
use Rattle.elab_variables.proofs.TableSeen.{within-names, name-is}
use Rattle.elab_variables.proofs.tables.Table.name.Goals as goal

pub index-requires : goal.index-requires
index-requires c = within-names c.args.self.now c.self.inside.names.keys c.self.inside.rows.items c.self.inside.bits c.self.invariant c.self.view_is c.args.place c.requires

pub returns : goal.returns
returns c = name-is c.args.self.now c.self.inside.names.keys c.self.inside.rows.items c.self.inside.bits c.self.invariant c.self.view_is c.args.place c.index.result.now c.requires c.index.ensures
