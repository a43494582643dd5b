-- What is pushed is a body from its front.
use Rattle.std.proofs.Common.{◌++◌, map, refl, subst, ◌∙◌, of_z, to_z, w8}
use Rattle.std.proofs.lemmas.Int.{to_z-of_z}
use Rattle.std.proofs.lemmas.Result.{err_from_is_err_and}
use Rattle.sim_rounds.specs.MomentsSeen.{change_seen, moment_seen, pending_seen}
use Rattle.sim_save.specs.Large.{IsTooLarge}
use Rattle.sim_save.specs.Lines.{body, check_line, end_line, joined, last_line, net_lines, pending_line, udp_line}
use Rattle.sim_save.proofs.Exits.{exit_by}
use Rattle.sim_save.proofs.PushLaws.{behind_head, behind_nets, behind_pending, behind_udps, behind_checks, behind_last, checks_on, larger, pending_on, udps_on}
use Rattle.sim_save.proofs.writing.push_body.Goals as goal

pub returns-in_err-push_nets-clause-large : goal.returns-in_err-push_nets-clause-large
returns-in_err-push_nets-clause-large c =
    let m = c.args.moment.now in
    let whole = body c.args.tick c.args.elements (moment_seen m) in
    let at_head = behind_head c.args.tick (to_z w8 (of_z w8 c.args.tick)) c.args.elements (moment_seen m) c.args.text.now.items c.push_head.new.text.items (to_z-of_z w8 c.args.tick c.ranges.tick) c.requires.empty c.in_ok-push_head.ensures in
    let front = c.push_head.new.text.items ++ joined (net_lines c.deref.result.now (map change_seen c.deref-2.result.now)) in
    exit_by (IsTooLarge whole) c.from_residual-in_err-push_nets.result c.in_err-push_nets.field-0.0 (err_from_is_err_and c.from_residual-in_err-push_nets.result c.from_residual-in_err-push_nets.ensures.1)
    (larger front (pending_on (moment_seen m)) whole c.in_err-push_nets.field-0.0 (behind_nets m c.deref.result.now c.deref-2.result.now c.push_head.new.text.items front whole c.deref.ensures.value c.deref-2.ensures.value at_head refl) c.in_err-push_nets.ensures.large)

pub returns-in_err-push_each_pending-clause-large : goal.returns-in_err-push_each_pending-clause-large
returns-in_err-push_each_pending-clause-large c =
    let m = c.args.moment.now in
    let whole = body c.args.tick c.args.elements (moment_seen m) in
    let at_head = behind_head c.args.tick (to_z w8 (of_z w8 c.args.tick)) c.args.elements (moment_seen m) c.args.text.now.items c.push_head.new.text.items (to_z-of_z w8 c.args.tick c.ranges.tick) c.requires.empty c.in_ok-push_head.ensures in
    let at_nets = behind_nets m c.deref.result.now c.deref-2.result.now c.push_head.new.text.items c.push_nets.new.text.items whole c.deref.ensures.value c.deref-2.ensures.value at_head c.in_ok-push_nets.ensures.nets in
    let front = c.push_nets.new.text.items ++ joined (map pending_line (map (λ p. pending_seen p) c.deref-3.result.now)) in
    exit_by (IsTooLarge whole) c.from_residual-in_err-push_each_pending.result c.in_err-push_each_pending.field-0.0 (err_from_is_err_and c.from_residual-in_err-push_each_pending.result c.from_residual-in_err-push_each_pending.ensures.1)
    (larger front (udps_on (moment_seen m)) whole c.in_err-push_each_pending.field-0.0 (behind_pending m c.deref-3.result.now c.push_nets.new.text.items front whole c.deref-3.ensures.value at_nets refl) c.in_err-push_each_pending.ensures.large)

pub returns-in_err-push_udps-clause-large : goal.returns-in_err-push_udps-clause-large
returns-in_err-push_udps-clause-large c =
    let m = c.args.moment.now in
    let whole = body c.args.tick c.args.elements (moment_seen m) in
    let at_head = behind_head c.args.tick (to_z w8 (of_z w8 c.args.tick)) c.args.elements (moment_seen m) c.args.text.now.items c.push_head.new.text.items (to_z-of_z w8 c.args.tick c.ranges.tick) c.requires.empty c.in_ok-push_head.ensures in
    let at_nets = behind_nets m c.deref.result.now c.deref-2.result.now c.push_head.new.text.items c.push_nets.new.text.items whole c.deref.ensures.value c.deref-2.ensures.value at_head c.in_ok-push_nets.ensures.nets in
    let at_pending = behind_pending m c.deref-3.result.now c.push_nets.new.text.items c.push_each_pending.new.text.items whole c.deref-3.ensures.value at_nets c.in_ok-push_each_pending.ensures.pending in
    let front = c.push_each_pending.new.text.items ++ joined (map udp_line c.deref-4.result.now) in
    exit_by (IsTooLarge whole) c.from_residual-in_err-push_udps.result c.in_err-push_udps.field-0.0 (err_from_is_err_and c.from_residual-in_err-push_udps.result c.from_residual-in_err-push_udps.ensures.1)
    (larger front (checks_on (moment_seen m)) whole c.in_err-push_udps.field-0.0 (behind_udps m c.deref-4.result.now c.push_each_pending.new.text.items front whole c.deref-4.ensures.value at_pending refl) c.in_err-push_udps.ensures.large)

pub returns-in_err-push_checks-clause-large : goal.returns-in_err-push_checks-clause-large
returns-in_err-push_checks-clause-large c =
    let m = c.args.moment.now in
    let whole = body c.args.tick c.args.elements (moment_seen m) in
    let at_head = behind_head c.args.tick (to_z w8 (of_z w8 c.args.tick)) c.args.elements (moment_seen m) c.args.text.now.items c.push_head.new.text.items (to_z-of_z w8 c.args.tick c.ranges.tick) c.requires.empty c.in_ok-push_head.ensures in
    let at_nets = behind_nets m c.deref.result.now c.deref-2.result.now c.push_head.new.text.items c.push_nets.new.text.items whole c.deref.ensures.value c.deref-2.ensures.value at_head c.in_ok-push_nets.ensures.nets in
    let at_pending = behind_pending m c.deref-3.result.now c.push_nets.new.text.items c.push_each_pending.new.text.items whole c.deref-3.ensures.value at_nets c.in_ok-push_each_pending.ensures.pending in
    let at_udps = behind_udps m c.deref-4.result.now c.push_each_pending.new.text.items c.push_udps.new.text.items whole c.deref-4.ensures.value at_pending c.in_ok-push_udps.ensures.udps in
    let front = c.push_udps.new.text.items ++ joined (map check_line c.deref-5.result.now) in
    exit_by (IsTooLarge whole) c.from_residual-in_err-push_checks.result c.in_err-push_checks.field-0.0 (err_from_is_err_and c.from_residual-in_err-push_checks.result c.from_residual-in_err-push_checks.ensures.1)
    (larger front (last_line (moment_seen m) ++ end_line) whole c.in_err-push_checks.field-0.0 (behind_checks m c.deref-5.result.now c.push_udps.new.text.items front whole c.deref-5.ensures.value at_udps refl) c.in_err-push_checks.ensures.large)

pub returns-in_err-check_size-clause-large : goal.returns-in_err-check_size-clause-large
returns-in_err-check_size-clause-large c =
    let m = c.args.moment.now in
    let whole = body c.args.tick c.args.elements (moment_seen m) in
    let at_head = behind_head c.args.tick (to_z w8 (of_z w8 c.args.tick)) c.args.elements (moment_seen m) c.args.text.now.items c.push_head.new.text.items (to_z-of_z w8 c.args.tick c.ranges.tick) c.requires.empty c.in_ok-push_head.ensures in
    let at_nets = behind_nets m c.deref.result.now c.deref-2.result.now c.push_head.new.text.items c.push_nets.new.text.items whole c.deref.ensures.value c.deref-2.ensures.value at_head c.in_ok-push_nets.ensures.nets in
    let at_pending = behind_pending m c.deref-3.result.now c.push_nets.new.text.items c.push_each_pending.new.text.items whole c.deref-3.ensures.value at_nets c.in_ok-push_each_pending.ensures.pending in
    let at_udps = behind_udps m c.deref-4.result.now c.push_each_pending.new.text.items c.push_udps.new.text.items whole c.deref-4.ensures.value at_pending c.in_ok-push_udps.ensures.udps in
    let at_checks = behind_checks m c.deref-5.result.now c.push_udps.new.text.items c.push_checks.new.text.items whole c.deref-5.ensures.value at_udps c.in_ok-push_checks.ensures.checks in
    let same = behind_last (moment_seen m) c.push_checks.new.text.items c.push_last.new.text.items whole at_checks c.in_ok-push_last.ensures in
    exit_by (IsTooLarge whole) c.from_residual-in_err-check_size.result c.in_err-check_size.field-0.0 (err_from_is_err_and c.from_residual-in_err-check_size.result c.from_residual-in_err-check_size.ensures.1)
    (subst (λ t. IsTooLarge t c.in_err-check_size.field-0.0) (c.deref-6.ensures.value ∙ same) c.in_err-check_size.ensures)

pub returns-clause-body : goal.returns-clause-body
returns-clause-body c =
    let m = c.args.moment.now in
    let whole = body c.args.tick c.args.elements (moment_seen m) in
    let at_head = behind_head c.args.tick (to_z w8 (of_z w8 c.args.tick)) c.args.elements (moment_seen m) c.args.text.now.items c.push_head.new.text.items (to_z-of_z w8 c.args.tick c.ranges.tick) c.requires.empty c.in_ok-push_head.ensures in
    let at_nets = behind_nets m c.deref.result.now c.deref-2.result.now c.push_head.new.text.items c.push_nets.new.text.items whole c.deref.ensures.value c.deref-2.ensures.value at_head c.in_ok-push_nets.ensures.nets in
    let at_pending = behind_pending m c.deref-3.result.now c.push_nets.new.text.items c.push_each_pending.new.text.items whole c.deref-3.ensures.value at_nets c.in_ok-push_each_pending.ensures.pending in
    let at_udps = behind_udps m c.deref-4.result.now c.push_each_pending.new.text.items c.push_udps.new.text.items whole c.deref-4.ensures.value at_pending c.in_ok-push_udps.ensures.udps in
    let at_checks = behind_checks m c.deref-5.result.now c.push_udps.new.text.items c.push_checks.new.text.items whole c.deref-5.ensures.value at_udps c.in_ok-push_checks.ensures.checks in
    behind_last (moment_seen m) c.push_checks.new.text.items c.push_last.new.text.items whole at_checks c.in_ok-push_last.ensures
