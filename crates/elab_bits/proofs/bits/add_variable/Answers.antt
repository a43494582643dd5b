-- The bits of the variable that is found.
use Rattle.std.proofs.lemmas.Result.{on_ok_weaker}
use Rattle.vl_tree.specs.Seen.{view_name}
use Rattle.elab_bits.proofs.InRow.{span-within}
use Rattle.elab_bits.proofs.NamedAt.{named-at}
use Rattle.elab_bits.proofs.LeafBits.{variable-added, unknown-whole}
use Rattle.elab_bits.proofs.bits.add_variable.Goals as goal

pub returns-in_default-clause-bits : goal.returns-in_default-clause-bits
returns-in_default-clause-bits c = unknown-whole c.args.table.now (view_name c.args.name) c.args.bits.now.items c.in_default.ensures

pub span_of-requires : goal.span_of-requires
span_of-requires c = (named-at c.args.table.now c.args.name.text.now c.in-Some.place c.in-Some.ensures).below

pub returns-clause-bits : goal.returns-clause-bits
returns-clause-bits c =
    on_ok_weaker c.add_all.result
    (variable-added c.args.table.now (view_name c.args.name) c.in-Some.place c.span_of.result.start c.span_of.result.width c.args.bits.now.items c.add_all.new.bits.items c.in-Some.ensures
    c.span_of.ensures.start c.span_of.ensures.width)
    c.add_all.ensures.bits

pub returns-clause-row : goal.returns-clause-row
returns-clause-row c = λ old.
    c.add_all.ensures.row c.args.table.now
    (span-within c.args.table.now c.in-Some.place c.span_of.result.start c.span_of.result.width (named-at c.args.table.now c.args.name.text.now c.in-Some.place c.in-Some.ensures).below
    c.span_of.ensures.start c.span_of.ensures.width)
    old
