use Rattle.std.proofs.Common.{◌≡◌, length, subst, sym, arith}
use Rattle.sg_circuit.specs.Circuit.{Circuit}
use Rattle.late_limits.proofs.WindowLaws.{windows-among}
use Rattle.late_limits.proofs.FoundLaws.{found-is, lates-among, read-lates, read-windows, short-in}
use Rattle.late_limits.proofs.adjusting.adjust.Goals as goal

pub adjust_all-requires-clause-there : goal.adjust_all-requires-clause-there
adjust_all-requires-clause-there c =
    let parts = c.parts-parts.result.now in
    windows-among parts.checks.items parts.check_timings.items c.in_ok-windows.windows
    (read-windows parts.checks.items c.deref.result.now parts.check_timings.items c.deref-2.result.now c.in_ok-windows.windows c.deref.ensures.value c.deref-2.ensures.value c.in_ok-windows.ensures.windows)

pub adjust_all-requires-clause-lates : goal.adjust_all-requires-clause-lates
adjust_all-requires-clause-lates c =
    let parts = c.parts-parts.result.now in
    lates-among parts.elements.items c.in_ok-lates.lates (read-lates parts.elements.items c.deref-3.result.now c.in_ok-lates.lates c.deref-3.ensures.value c.in_ok-lates.ensures.lates)

pub adjust_all-requires-clause-short : goal.adjust_all-requires-clause-short
adjust_all-requires-clause-short c =
    let parts = c.parts-parts.result.now in
    short-in parts c.args.circuit.now c.args.limits.now c.in_ok-windows.windows c.parts-parts.ensures.seen c.requires.each_check c.requires.short
    (read-windows parts.checks.items c.deref.result.now parts.check_timings.items c.deref-2.result.now c.in_ok-windows.windows c.deref.ensures.value c.deref-2.ensures.value c.in_ok-windows.ensures.windows)

pub returns : goal.returns
returns c =
    let parts = c.parts-parts.result.now in
    found-is parts c.args.limits.now c.in_ok-windows.windows c.in_ok-lates.lates c.len-scopes.result c.in_ok-found.found c.args.circuit.now c.parts-parts.ensures.seen
    (read-windows parts.checks.items c.deref.result.now parts.check_timings.items c.deref-2.result.now c.in_ok-windows.windows c.deref.ensures.value c.deref-2.ensures.value c.in_ok-windows.ensures.windows)
    (read-lates parts.elements.items c.deref-3.result.now c.in_ok-lates.lates c.deref-3.ensures.value c.in_ok-lates.ensures.lates)
    (subst (λ (x : Circuit). length c.args.limits.now ≡ length x.check_timings) (sym c.parts-parts.ensures.seen) c.requires.each_check)
    c.in_ok-windows.ensures.scopes c.in_ok-lates.ensures.scopes (omega (arith, c.len-scopes.ensures, parts.scopes.ok.0)) c.in_ok-found.ensures
