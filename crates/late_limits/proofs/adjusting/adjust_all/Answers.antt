use Rattle.std.proofs.Common.{◌≡◌, subst, arith}
use Rattle.late_limits.specs.Found.{AreFound}
use Rattle.late_limits.proofs.FoundLaws.{found-more, found-none}
use Rattle.late_limits.proofs.adjusting.adjust_all.Goals as goal

pub loop-scope-init : goal.loop-scope-init
loop-scope-init c =
    let parts = c.args.parts.now in
    found-none parts.check_timings.items c.args.limits.now parts.elements.items c.args.windows.now c.args.lates.now (record { delays = c.new.result; zeroed = c.new-2.result }) c.new.ensures.items c.new-2.ensures.items

pub loop-scope-preserved : goal.loop-scope-preserved
loop-scope-preserved c =
    let parts = c.args.parts.now in
    found-more parts.check_timings.items c.args.limits.now parts.elements.items c.args.windows.now c.args.lates.now c.loop-scope.scope c.loop-scope.found c.adjust_scope.new.found c.of-checks.result.now c.of-late.result.now
    c.loop-scope.invariant c.of-checks.ensures c.of-late.ensures c.in_ok-adjust_scope.ensures

pub returns : goal.returns
returns c =
    let parts = c.args.parts.now in
    let end : c.loop-scope.scope ≡ c.args.scopes = omega arith in
    subst (λ n. AreFound parts.check_timings.items c.args.limits.now parts.elements.items c.args.windows.now c.args.lates.now n c.loop-scope.found) end c.loop-scope.invariant
