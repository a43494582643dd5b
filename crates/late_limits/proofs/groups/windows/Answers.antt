use Rattle.std.specs.Prelude.{zip}
use Rattle.late_limits.specs.Grouping.{check_scope, is_among, pins_by}
use Rattle.late_limits.proofs.GroupLaws.{pins-end, pins-more, zip-past, zip-read}
use Rattle.late_limits.proofs.groups.windows.Goals as goal

pub loop-number-preserved : goal.loop-number-preserved
loop-number-preserved c =
    let checks = c.args.checks.now in
    let timings = c.args.timings.now in
    let check = c.index-checks-number.result in
    let timing = c.index-timings-number.result in
    let read = zip-read checks timings c.loop-number.number check timing c.requires c.loop-number-test.true c.index-checks-number.is c.index-timings-number.is in
    pins-more check_scope (is_among c.args.scopes) (zip checks timings) c.loop-number.number (check, timing) c.loop-number.pins.items c.add_window.new.pins.items
    (pins_by check_scope (is_among c.args.scopes) 0 (zip checks timings)) read.0 read.1 c.loop-number.invariant c.in_ok-add_window.ensures

pub returns : goal.returns
returns c =
    let all = zip c.args.checks.now c.args.timings.now in
    pins-end check_scope (is_among c.args.scopes) all c.loop-number.number c.loop-number.pins.items (pins_by check_scope (is_among c.args.scopes) 0 all)
    (zip-past c.args.checks.now c.args.timings.now c.loop-number.number c.loop-number-test.false) c.loop-number.invariant
