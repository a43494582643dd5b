-- The row at a place is the variable's.
use Rattle.std.proofs.Common.{rules, []}
use Rattle.elab_variables.proofs.TableSeen.{within-rows, range-is, reg-is, port-is, start-is, wide-is}
use Rattle.elab_variables.proofs.tables.Table.row.Goals as goal

pub index-requires : goal.index-requires
index-requires c =
    let lt = within-rows c.args.self.now c.self.inside.names.keys c.self.inside.rows.items c.self.inside.bits c.self.invariant c.self.view_is c.args.place c.requires in
    search rules

pub returns-clause-range : goal.returns-clause-range
returns-clause-range c = range-is c.args.self.now c.self.inside.names.keys c.self.inside.rows.items c.self.inside.bits c.self.invariant c.self.view_is c.args.place c.index.result.now c.requires
    (search rules) (record { ref_ptr = (0, 0); now = [] })

pub returns-clause-reg : goal.returns-clause-reg
returns-clause-reg c = reg-is c.args.self.now c.self.inside.names.keys c.self.inside.rows.items c.self.inside.bits c.self.invariant c.self.view_is c.args.place c.index.result.now c.requires
    (search rules) (record { ref_ptr = (0, 0); now = [] })

pub returns-clause-port : goal.returns-clause-port
returns-clause-port c = port-is c.args.self.now c.self.inside.names.keys c.self.inside.rows.items c.self.inside.bits c.self.invariant c.self.view_is c.args.place c.index.result.now c.requires
    (search rules) (record { ref_ptr = (0, 0); now = [] })

pub returns-clause-start : goal.returns-clause-start
returns-clause-start c = start-is c.args.self.now c.self.inside.names.keys c.self.inside.rows.items c.self.inside.bits c.self.invariant c.self.view_is c.args.place c.index.result.now c.requires
    (search rules) (record { ref_ptr = (0, 0); now = [] })

pub returns-clause-wide : goal.returns-clause-wide
returns-clause-wide c = wide-is c.args.self.now c.self.inside.names.keys c.self.inside.rows.items c.self.inside.bits c.self.invariant c.self.view_is c.args.place c.index.result.now c.requires
    (search rules) (record { ref_ptr = (0, 0); now = [] })
