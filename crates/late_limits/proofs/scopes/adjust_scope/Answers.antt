use Rattle.std.proofs.Common.{◌∙◌, ap}
use Rattle.std.proofs.lemmas.Result.{on_ok_weaker}
use Rattle.late_limits.specs.Found.{signals_at}
use Rattle.late_limits.proofs.ScopeLaws.{read-adjusted, read-delays, read-zeroes, scope-found, zeroed-there}
use Rattle.late_limits.proofs.scopes.adjust_scope.Goals as goal

pub add_zeroes-requires-clause-pairs : goal.add_zeroes-requires-clause-pairs
add_zeroes-requires-clause-pairs c =
    let timings = c.args.parts.now.check_timings.items in
    let solution = c.in_ok-solution.solution in
    zeroed-there timings c.args.limits.now c.args.checks.now solution.zeroed.items c.deref-5.result.now solution.delays.items
    (read-adjusted timings c.deref.result.now c.args.limits.now c.args.checks.now solution.zeroed.items solution.delays.items c.deref.ensures.value c.in_ok-solution.ensures.adjusted) c.deref-5.ensures.value

pub returns : goal.returns
returns c =
    let timings = c.args.parts.now.check_timings.items in
    let elements = c.args.parts.now.elements.items in
    let limits = c.args.limits.now in
    let checks = c.args.checks.now in
    let solution = c.in_ok-solution.solution in
    let signals = c.solve_scope.new.signals in
    on_ok_weaker c.add_zeroes.result
    (λ e. scope-found timings limits elements checks c.args.lates.now signals solution.delays.items solution.zeroed.items c.args.found.now (record { delays = c.add_delays.new.found; zeroed = c.add_zeroes.new.found })
    (c.in_ok-solution.ensures.signals ∙ ap (λ ts. signals_at ts checks) c.deref.ensures.value)
    (read-adjusted timings c.deref.result.now limits checks solution.zeroed.items solution.delays.items c.deref.ensures.value c.in_ok-solution.ensures.adjusted) c.in_ok-solution.ensures.short
    (read-delays elements c.deref-2.result.now signals solution.delays.items c.deref-3.result.now c.args.lates.now c.args.found.now.delays.items c.add_delays.new.found.items c.deref-2.ensures.value c.deref-3.ensures.value c.in_ok-add_delays.ensures)
    (read-zeroes timings c.deref-4.result.now limits checks solution.zeroed.items c.deref-5.result.now c.args.found.now.zeroed.items c.add_zeroes.new.found.items c.deref-4.ensures.value c.deref-5.ensures.value e))
    c.add_zeroes.ensures
