-- The copies stand in the row, and their nets are those of the member.
use Rattle.std.proofs.Common.{◌≡◌, ◌++◌, ◌+◌, ◌∙◌, ap, false, length, subst, sym, true}
use Rattle.std.proofs.lemmas.Result.{on_ok_weaker, IfErr-weaker}
use Rattle.elab_model.specs.Members.{check}
use Rattle.elab_numbering.specs.Refusals.{RefusesCount}
use Rattle.elab_nets.proofs.LateNets.{in-table, late-count, lates-are}
use Rattle.elab_nets.proofs.copies.add_lates.Goals as goal

pub returns-then-not-are_in_row-clause-nets : goal.returns-then-not-are_in_row-clause-nets
returns-then-not-are_in_row-clause-nets c = λ source s x has.
    let known : c.are_in_row.result ≡ true =
    c.are_in_row.ensures.1 (in-table s c.args.prepared.now c.own-copies.result.now has.ready (c.own-copies.ensures.row s.step.definition has.ready.copies)) in
    let never : true ≡ false = sym known ∙ c.if-not-are_in_row.true in
    absurd cc

pub returns-clause-nets : goal.returns-clause-nets
returns-clause-nets c =
    on_ok_weaker c.add_copies.result
    (λ h source s x has. h ∙ ap (λ ns. c.args.nets.now.items ++ ns)
    (lates-are s c.args.prepared.now c.args.scope c.args.member x has c.own-copies.result.now (c.own-copies.ensures.own s.step.definition (check x) has.ready.copies has.there)
    (c.are_in_row.ensures.0 c.if-not-are_in_row.false) source))
    c.add_copies.ensures.nets

pub returns-clause-refused : goal.returns-clause-refused
returns-clause-refused c =
    IfErr-weaker c.add_copies.result _ _
    (λ r h source s x has. subst (λ n. RefusesCount (length c.args.nets.now.items + n) r)
    (late-count s c.args.prepared.now c.args.scope c.args.member x has c.own-copies.result.now (c.own-copies.ensures.own s.step.definition (check x) has.ready.copies has.there)
    (c.are_in_row.ensures.0 c.if-not-are_in_row.false) source) h)
    c.add_copies.ensures.refused
