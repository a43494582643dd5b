-- The bits of the variable that is found, between the ends that are.
use Rattle.std.proofs.Common.{◌<◌, ◌∙◌, ap, sym, subst}
use Rattle.std.proofs.lemmas.Result.{on_ok_weaker}
use Rattle.vl_tree.specs.Seen.{view_name}
use Rattle.elab_variables.specs.Seen.{variable_at}
use Rattle.elab_bits.specs.Words.{ends}
use Rattle.elab_bits.proofs.InRow.{span-within}
use Rattle.elab_bits.proofs.NamedAt.{named-at}
use Rattle.elab_bits.proofs.LeafBits.{part-added, unknown-part, part-outside}
use Rattle.elab_bits.proofs.Selects.{ends-below}
use Rattle.elab_bits.proofs.bits.add_select.Goals as goal

pub returns-in_default-clause-bits : goal.returns-in_default-clause-bits
returns-in_default-clause-bits c = unknown-part c.args.table.now (view_name c.args.name) c.args.select c.args.bits.now.items c.in_default.ensures

pub row-requires : goal.row-requires
row-requires c = (named-at c.args.table.now c.args.name.text.now c.in-Some.place c.in-Some.ensures).below

pub returns-in_default-ends-clause-bits : goal.returns-in_default-ends-clause-bits
returns-in_default-ends-clause-bits c =
    part-outside c.args.table.now (view_name c.args.name) c.args.select c.in-Some.place c.args.bits.now.items c.in-Some.ensures
    (c.in_default-ends.ensures ∙ ap (λ r. ends r c.args.select) c.row.ensures.range)

pub add_part-requires-clause-left : goal.add_part-requires-clause-left
add_part-requires-clause-left c =
    subst (λ w. c.in-Some-ends.left < w) (sym c.span_of.ensures.width)
    (ends-below (variable_at c.args.table.now c.in-Some.place).range c.args.select (c.in-Some-ends.left, c.in-Some-ends.right)
    (c.in-Some-ends.ensures ∙ ap (λ r. ends r c.args.select) c.row.ensures.range)).0

pub add_part-requires-clause-right : goal.add_part-requires-clause-right
add_part-requires-clause-right c =
    subst (λ w. c.in-Some-ends.right < w) (sym c.span_of.ensures.width)
    (ends-below (variable_at c.args.table.now c.in-Some.place).range c.args.select (c.in-Some-ends.left, c.in-Some-ends.right)
    (c.in-Some-ends.ensures ∙ ap (λ r. ends r c.args.select) c.row.ensures.range)).1

pub returns-clause-bits : goal.returns-clause-bits
returns-clause-bits c =
    on_ok_weaker c.add_part.result
    (part-added c.args.table.now (view_name c.args.name) c.args.select c.in-Some.place c.span_of.result.start (c.in-Some-ends.left, c.in-Some-ends.right) c.args.bits.now.items
    c.add_part.new.bits.items c.in-Some.ensures
    (c.in-Some-ends.ensures ∙ ap (λ r. ends r c.args.select) c.row.ensures.range) c.span_of.ensures.start)
    c.add_part.ensures.bits

pub returns-clause-row : goal.returns-clause-row
returns-clause-row c = λ old.
    c.add_part.ensures.row c.args.table.now
    (span-within c.args.table.now c.in-Some.place c.span_of.result.start c.span_of.result.width (named-at c.args.table.now c.args.name.text.now c.in-Some.place c.in-Some.ensures).below
    c.span_of.ensures.start c.span_of.ensures.width)
    old
