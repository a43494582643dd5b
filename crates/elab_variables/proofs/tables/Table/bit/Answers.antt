-- The bit at a place, by the row that has it.
use Rattle.std.proofs.Common.{rules}
use Rattle.elab_variables.proofs.BitPlaces.{below-count, variable-within, position-within, bit-is}
use Rattle.elab_variables.proofs.tables.Table.bit.Goals as goal

pub row_with-variable-requires-clause-below : goal.row_with-variable-requires-clause-below
row_with-variable-requires-clause-below c = below-count c.args.self.now c.self.inside.names.keys c.self.inside.rows.items c.self.inside.bits c.self.invariant c.self.view_is c.deref.result.now
    c.deref.ensures.value c.args.place c.requires

pub returns-clause-variable : goal.returns-clause-variable
returns-clause-variable c = variable-within c.args.self.now c.self.inside.names.keys c.self.inside.rows.items c.self.inside.bits c.self.invariant c.self.view_is c.deref.result.now
    c.deref.ensures.value c.args.place c.row_with-variable.result c.row_with-variable.ensures c.index.result.now (search rules)

pub returns-clause-position : goal.returns-clause-position
returns-clause-position c = position-within c.args.self.now c.self.inside.names.keys c.self.inside.rows.items c.self.inside.bits c.self.invariant c.self.view_is c.deref.result.now
    c.deref.ensures.value c.args.place c.row_with-variable.result c.row_with-variable.ensures c.index.result.now (search rules)

pub returns-clause-bit : goal.returns-clause-bit
returns-clause-bit c = bit-is c.args.self.now c.self.inside.names.keys c.self.inside.rows.items c.self.inside.bits c.self.invariant c.self.view_is c.deref.result.now c.deref.ensures.value
    c.args.place c.row_with-variable.result c.row_with-variable.ensures c.index.result.now (search rules)
