-- A name that isn't found, or an index out of range, is a fault of the leaf.
use Rattle.std.proofs.Common.{◌∙◌, ap}
use Rattle.vl_tree.specs.Seen.{view_name}
use Rattle.elab_bits.specs.Words.{ends}
use Rattle.elab_bits.proofs.NamedAt.{named-at}
use Rattle.elab_bits.proofs.LeafFaults.{unknown-refused, index-refused, name-faultless, part-faultless}
use Rattle.elab_bits.proofs.faults.check_leaf.Goals as goal

pub returns-in_default-clause-refused : goal.returns-in_default-clause-refused
returns-in_default-clause-refused c = unknown-refused c.args.table.now (view_name c.args.name) c.args.select c.in_default.ensures

pub returns-in_default-select-clause-faultless : goal.returns-in_default-select-clause-faultless
returns-in_default-select-clause-faultless c = name-faultless c.args.table.now (view_name c.args.name) c.args.select c.in-Some.variable c.in_default-select.is c.in-Some.ensures

pub row-requires : goal.row-requires
row-requires c = (named-at c.args.table.now c.args.name.text.now c.in-Some.variable c.in-Some.ensures).below

pub returns-in-Some-ends-clause-faultless : goal.returns-in-Some-ends-clause-faultless
returns-in-Some-ends-clause-faultless c =
    part-faultless c.args.table.now (view_name c.args.name) c.args.select c.in-Some-select.select c.in-Some.variable c.in-Some-ends.field-0 c.in-Some-select.is c.in-Some.ensures
    (c.in-Some-ends.ensures ∙ ap (λ r. ends r c.in-Some-select.select) c.row.ensures.range)

pub returns-in-None-clause-refused : goal.returns-in-None-clause-refused
returns-in-None-clause-refused c =
    index-refused c.args.table.now (view_name c.args.name) c.args.select c.in-Some-select.select c.in-Some.variable c.in-Some-select.is c.in-Some.ensures
    (c.in-None.ensures ∙ ap (λ r. ends r c.in-Some-select.select) c.row.ensures.range)
