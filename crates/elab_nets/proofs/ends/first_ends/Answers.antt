-- The lookups find the part of the row that is the member's.
use Rattle.std.proofs.Common.{◌+◌, ◌-◌, ◌∙◌, ap, drop, length, take}
use Rattle.elab_nets.proofs.InnerNets.{read-at, is-within, are-first}
use Rattle.elab_nets.proofs.ends.first_ends.Goals as goal

pub returns-in_err-places-clause-ends : goal.returns-in_err-places-clause-ends
returns-in_err-places-clause-ends c = λ m i e ends there.
    let ps = c.args.ends.now in
    let k = c.args.member in
    absurd (is-within m ps k i ends there c.in_ok-first.field-0.now c.in_ok-end.field-0.now (length c.deref-3.result.now)
    (read-at ps.starts.items c.deref.result.now k c.in_ok-first.field-0.now c.deref.ensures.value c.in_ok-first.ensures.lookup.3.0 c.in_ok-first.ensures.lookup.1)
    (read-at ps.starts.items c.deref-2.result.now (k + 1) c.in_ok-end.field-0.now c.deref-2.ensures.value c.in_ok-end.ensures.lookup.3.0 c.in_ok-end.ensures.lookup.1)
    (ap length c.deref-3.ensures.value) c.in_err-places.ensures.lookup.0)

pub returns-clause-ends : goal.returns-clause-ends
returns-clause-ends c = λ m i e ends there.
    let ps = c.args.ends.now in
    let k = c.args.member in
    let first = c.in_ok-first.field-0.now in
    let end = c.in_ok-end.field-0.now in
    are-first m ps k i ends there first end c.in_ok-places.places.now
    (read-at ps.starts.items c.deref.result.now k first c.deref.ensures.value c.in_ok-first.ensures.lookup.3.0 c.in_ok-first.ensures.lookup.1)
    (read-at ps.starts.items c.deref-2.result.now (k + 1) end c.deref-2.ensures.value c.in_ok-end.ensures.lookup.3.0 c.in_ok-end.ensures.lookup.1)
    (c.in_ok-places.ensures.lookup.0.2 ∙ ap (λ xs. take (end - first) (drop first xs)) c.deref-3.ensures.value)
