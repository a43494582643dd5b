-- The part between two starts is the member's own.
use Rattle.std.proofs.Common.{◌+◌}
use Rattle.elab_ends.proofs.Spans.{read-at}
use Rattle.elab_lates.proofs.Found.{own-by}
use Rattle.elab_lates.proofs.copies.ModuleCopies.span.Goals as goal

pub returns-clause-own : goal.returns-clause-own
returns-clause-own c = λ m i are there.
    let self = c.args.self.now in
    let k = c.args.member in
    own-by m self are k i there c.in_ok-first.field-0.now c.in_ok-end.field-0.now c.deref-3.result.now c.get-3.result
    (read-at self.starts.items c.deref.result.now k c.in_ok-first.field-0.now c.deref.ensures.value c.in_ok-first.ensures.lookup.3.0 c.in_ok-first.ensures.lookup.1)
    (read-at self.starts.items c.deref-2.result.now (k + 1) c.in_ok-end.field-0.now c.deref-2.ensures.value c.in_ok-end.ensures.lookup.3.0 c.in_ok-end.ensures.lookup.1)
    c.deref-3.ensures.value c.get-3.ensures.lookup.0
