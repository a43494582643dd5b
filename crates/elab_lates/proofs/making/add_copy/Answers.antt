-- A copy that is known, or a new one.
use Rattle.std.proofs.Common.{refl}
use Rattle.std.specs.List.{list_any}
use Rattle.elab_lates.proofs.Adding.{had, had-not, known, added}
use Rattle.elab_lates.proofs.Tests.{same}
use Rattle.elab_lates.proofs.making.add_copy.Goals as goal

pub returns-then-not-branch : goal.returns-then-not-branch
returns-then-not-branch c = λ m before row h.
    let a = c.args.asked.now in
    known m before a h c.args.copy row c.insert.new.self.keys (had (list_any (same c.args.copy.copy) a.index.keys) c.in_ok-insert.field-0 c.in_ok-insert.ensures.added c.if-not-branch.true) c.in_ok-insert.ensures.keys _ refl refl refl

pub returns : goal.returns
returns c = λ m before row h.
    let a = c.args.asked.now in
    added m before a h c.args.copy row (had-not (list_any (same c.args.copy.copy) a.index.keys) c.in_ok-insert.field-0 c.in_ok-insert.ensures.added c.if-not-branch.false) _ c.in_ok-insert.ensures.keys
    c.in_ok-insert-2.ensures.keys c.in_ok-push.ensures.items
