-- A name that was seen, or one more.
use Rattle.std.proofs.Common.{◌<◌, length, arith, ◌∙◌, ap}
use Rattle.elab_hierarchy.proofs.Once.{named, seen-again, one-more}
use Rattle.elab_hierarchy.proofs.definitions.names_of.Goals as goal

pub returns-then-not-branch-clause-refused : goal.returns-then-not-branch-clause-refused
returns-then-not-branch-clause-refused c =
    let lt : c.loop-part.part-index < length c.args.parts.now = omega arith in
    seen-again c.part-item.result c.name_of-name.result c.loop-part.names.keys c.args.parts.now c.loop-part.part-index c.in_ok-insert.field-0 lt (c.name_of-name.ensures ∙ ap named c.part-item.is) c.in_ok-insert.ensures.added c.if-not-branch.true c.loop-part.invariant

pub loop-part-preserved : goal.loop-part-preserved
loop-part-preserved c =
    let lt : c.loop-part.part-index < length c.args.parts.now = omega arith in
    one-more c.part-item.result c.name_of-name.result c.loop-part.names.keys c.insert.new.self.keys c.args.parts.now c.loop-part.part-index c.in_ok-insert.field-0 lt (c.name_of-name.ensures ∙ ap named c.part-item.is) c.in_ok-insert.ensures.added c.if-not-branch.false c.in_ok-insert.ensures.keys c.loop-part.invariant
