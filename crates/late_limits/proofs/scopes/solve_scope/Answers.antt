use Rattle.late_limits.proofs.ScopeLaws.{pairs-are, solved, solved-short, solved-there}
use Rattle.late_limits.proofs.scopes.solve_scope.Goals as goal

pub solve-requires-clause-numbers : goal.solve-requires-clause-numbers
solve-requires-clause-numbers c =
    let timings = c.args.timings.now in
    let limits = c.args.limits.now in
    let checks = c.args.checks.now in
    let signals = c.meet_all.new.signals in
    solved-there timings limits checks signals c.count.result c.deref.result.now c.in_ok-meet_all.ensures c.count.ensures
    (pairs-are timings limits checks signals c.in_ok-pairs.pairs.items c.deref.result.now c.in_ok-meet_all.ensures c.in_ok-pairs.ensures c.deref.ensures.value)

pub solve-requires-clause-sizes : goal.solve-requires-clause-sizes
solve-requires-clause-sizes c =
    let timings = c.args.timings.now in
    let limits = c.args.limits.now in
    let checks = c.args.checks.now in
    let signals = c.meet_all.new.signals in
    solved-short timings limits checks signals c.count.result c.deref.result.now c.in_ok-meet_all.ensures c.count.ensures
    (pairs-are timings limits checks signals c.in_ok-pairs.pairs.items c.deref.result.now c.in_ok-meet_all.ensures c.in_ok-pairs.ensures c.deref.ensures.value) c.requires.short

pub returns-clause-adjusted : goal.returns-clause-adjusted
returns-clause-adjusted c =
    let timings = c.args.timings.now in
    let limits = c.args.limits.now in
    let checks = c.args.checks.now in
    let signals = c.meet_all.new.signals in
    let solution = c.in_ok-solution.solution in
    solved timings limits checks signals c.count.result c.deref.result.now solution.zeroed.items solution.delays.items c.in_ok-meet_all.ensures c.count.ensures
    (pairs-are timings limits checks signals c.in_ok-pairs.pairs.items c.deref.result.now c.in_ok-meet_all.ensures c.in_ok-pairs.ensures c.deref.ensures.value) c.in_ok-solution.ensures.adjusted
