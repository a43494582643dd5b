use Rattle.std.proofs.Common.{arith}
use Rattle.late_limits.proofs.CountLaws.{counts-are, read-among}
use Rattle.late_limits.proofs.counts.signal_counts.Goals as goal

pub count_all-requires-clause-there : goal.count_all-requires-clause-there
count_all-requires-clause-there c =
    let parts = c.args.parts.now in
    read-among parts.checks.items c.deref.result.now parts.check_timings.items c.deref-2.result.now c.deref-3.result.now c.in_ok-windows.windows c.deref.ensures.value c.deref-2.ensures.value c.deref-3.ensures.value c.in_ok-windows.ensures.windows

pub returns : goal.returns
returns c =
    let parts = c.args.parts.now in
    counts-are parts.checks.items c.deref.result.now parts.check_timings.items c.deref-2.result.now c.deref-3.result.now c.in_ok-windows.windows c.in_ok-counts.counts.items c.in-Ok.scopes _
    c.deref.ensures.value c.deref-2.ensures.value c.deref-3.ensures.value c.in_ok-windows.ensures.windows c.in_ok-windows.ensures.scopes (omega (arith, c.in-Ok.ensures.1, c.len.ensures, parts.scopes.ok.0)) c.in_ok-counts.ensures
