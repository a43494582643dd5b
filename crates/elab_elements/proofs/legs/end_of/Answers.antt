-- The bits of a variable end where those of the next begin.
use Rattle.std.proofs.Common.{sym, ◌∙◌, subst, ◌≤◌, ◌+◌, length}
use Rattle.elab_laws.specs.Handing.{all_bits}
use Rattle.elab_bits.proofs.InRow.{start-next, stands-within}
use Rattle.elab_elements.proofs.Own.{whole-row}
use Rattle.elab_elements.proofs.legs.end_of.Goals as goal

pub returns-then-next-count-clause-end : goal.returns-then-next-count-clause-end
returns-then-next-count-clause-end c =
    c.bits.ensures ∙ whole-row c.args.table.now (c.args.variable + 1) (c.if-next-count.true ∙ c.len-count.ensures) ∙ start-next c.args.table.now c.args.variable c.requires

pub returns-clause-end : goal.returns-clause-end
returns-clause-end c = c.row.ensures.start ∙ start-next c.args.table.now c.args.variable c.requires

pub returns-clause-within : goal.returns-clause-within
returns-clause-within c =
    subst (λ n. n ≤ length (all_bits c.args.table.now)) (sym (c.row.ensures.start ∙ start-next c.args.table.now c.args.variable c.requires)) (stands-within c.args.table.now c.args.variable c.requires)
