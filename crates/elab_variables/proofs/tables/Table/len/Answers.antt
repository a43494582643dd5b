-- There are as many rows as variables.
use Rattle.std.proofs.Common.{rules}
use Rattle.elab_variables.proofs.TableSeen.{as-long}
use Rattle.elab_variables.proofs.tables.Table.len.Goals as goal

pub returns : goal.returns
returns c = let e = as-long c.args.self.now c.self.inside.names.keys c.self.inside.rows.items c.self.inside.bits c.self.invariant c.self.view_is in search rules
