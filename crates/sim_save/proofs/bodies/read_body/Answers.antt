-- A half that is read to its end, or stops somewhere.
use Rattle.std.proofs.Common.{ℤ, refl, subst, sym, w8}
use Rattle.std.proofs.lemmas.Int.{to_z-of_z}
use Rattle.std.proofs.lemmas.Result.{err_from_is_err_and}
use Rattle.sim_rounds.specs.MomentsSeen.{moment_seen}
use Rattle.sim_rounds.specs.declared.moments.Moment as code_moment
use Rattle.sim_save.specs.Faults.{IsBodyOf}
use Rattle.sim_save.specs.Steps.{Head, Stops}
use Rattle.sim_save.specs.Taking.{counts_seen}
use Rattle.sim_save.specs.declared.kinds.Stop.TheVariants as stop
use Rattle.sim_save.proofs.Exits.{exit_by}
use Rattle.sim_save.proofs.NumberLaws.{fits_power}
use Rattle.sim_save.proofs.SectionLaws.{body_read, head_ends, through_checks, through_head, through_nets, through_pending, through_udps}
use Rattle.sim_save.proofs.bodies.read_body.Goals as goal

pub returns-in_default-clause-stops : goal.returns-in_default-clause-stops
returns-in_default-clause-stops c = subst (Stops Head c.args.half.now) (sym c.stop_at.ensures) (head_ends c.args.half.now c.in_default.ensures)

pub returns-in_err-at_pending-clause-stops : goal.returns-in_err-at_pending-clause-stops
returns-in_err-at_pending-clause-stops c =
    let half = c.args.half.now in
    let counts = counts_seen c.in-Some.head in
    let one = through_head counts half c.in-Some.at_nets.now c.in-Some.ensures in
    let end = c.in_err-at_pending.field-0.0 in
    exit_by (Stops Head half) c.from_residual.result end (err_from_is_err_and c.from_residual.result c.from_residual.ensures.1)
    (one end (c.in_err-at_pending.ensures.stops counts.udps counts.checks))

pub returns-in_err-at_udps-clause-stops : goal.returns-in_err-at_udps-clause-stops
returns-in_err-at_udps-clause-stops c =
    let half = c.args.half.now in
    let counts = counts_seen c.in-Some.head in
    let one = through_head counts half c.in-Some.at_nets.now c.in-Some.ensures in
    let two = through_nets c.read_nets.new.nets.items c.read_nets.new.changes.items c.in-Some.at_nets.now c.in_ok-at_pending.at_pending.now counts.nets counts.udps counts.checks c.in_ok-at_pending.ensures.read in
    exit_by (Stops Head half) c.from_residual-in_err-at_udps.result stop.NoMemory (err_from_is_err_and c.from_residual-in_err-at_udps.result c.from_residual-in_err-at_udps.ensures.1)
    (one stop.NoMemory (two stop.NoMemory (c.in_err-at_udps.ensures.wants counts.udps counts.checks)))

pub returns-in_err-at_checks-clause-stops : goal.returns-in_err-at_checks-clause-stops
returns-in_err-at_checks-clause-stops c =
    let half = c.args.half.now in
    let counts = counts_seen c.in-Some.head in
    let one = through_head counts half c.in-Some.at_nets.now c.in-Some.ensures in
    let two = through_nets c.read_nets.new.nets.items c.read_nets.new.changes.items c.in-Some.at_nets.now c.in_ok-at_pending.at_pending.now counts.nets counts.udps counts.checks c.in_ok-at_pending.ensures.read in
    let three = through_pending c.read_pending.new.pending.items c.in_ok-at_pending.at_pending.now c.in_ok-at_udps.at_udps.now counts.udps counts.checks c.in_ok-at_udps.ensures.read in
    let end = c.in_err-at_checks.field-0.0 in
    exit_by (Stops Head half) c.from_residual-in_err-at_checks.result end (err_from_is_err_and c.from_residual-in_err-at_checks.result c.from_residual-in_err-at_checks.ensures.1)
    (one end (two end (three end (c.in_err-at_checks.ensures.stops counts.checks))))

pub returns-in_err-at_ending-clause-stops : goal.returns-in_err-at_ending-clause-stops
returns-in_err-at_ending-clause-stops c =
    let half = c.args.half.now in
    let counts = counts_seen c.in-Some.head in
    let one = through_head counts half c.in-Some.at_nets.now c.in-Some.ensures in
    let two = through_nets c.read_nets.new.nets.items c.read_nets.new.changes.items c.in-Some.at_nets.now c.in_ok-at_pending.at_pending.now counts.nets counts.udps counts.checks c.in_ok-at_pending.ensures.read in
    let three = through_pending c.read_pending.new.pending.items c.in_ok-at_pending.at_pending.now c.in_ok-at_udps.at_udps.now counts.udps counts.checks c.in_ok-at_udps.ensures.read in
    let four = through_udps c.read_udps.new.udps.items c.in_ok-at_udps.at_udps.now c.in_ok-at_checks.at_checks.now counts.udps counts.checks c.in_ok-at_checks.ensures.read in
    let end = c.in_err-at_ending.field-0.0 in
    exit_by (Stops Head half) c.from_residual-in_err-at_ending.result end (err_from_is_err_and c.from_residual-in_err-at_ending.result c.from_residual-in_err-at_ending.ensures.1)
    (one end (two end (three end (four end c.in_err-at_ending.ensures.stops))))

pub returns-in_err-last-clause-stops : goal.returns-in_err-last-clause-stops
returns-in_err-last-clause-stops c =
    let half = c.args.half.now in
    let counts = counts_seen c.in-Some.head in
    let one = through_head counts half c.in-Some.at_nets.now c.in-Some.ensures in
    let two = through_nets c.read_nets.new.nets.items c.read_nets.new.changes.items c.in-Some.at_nets.now c.in_ok-at_pending.at_pending.now counts.nets counts.udps counts.checks c.in_ok-at_pending.ensures.read in
    let three = through_pending c.read_pending.new.pending.items c.in_ok-at_pending.at_pending.now c.in_ok-at_udps.at_udps.now counts.udps counts.checks c.in_ok-at_udps.ensures.read in
    let four = through_udps c.read_udps.new.udps.items c.in_ok-at_udps.at_udps.now c.in_ok-at_checks.at_checks.now counts.udps counts.checks c.in_ok-at_checks.ensures.read in
    let five = through_checks c.read_checks.new.latest.items c.in_ok-at_checks.at_checks.now c.in_ok-at_ending.at_ending.now counts.checks c.in_ok-at_ending.ensures.read in
    let end = c.in_err-last.field-0.0 in
    exit_by (Stops Head half) c.from_residual-in_err-last.result end (err_from_is_err_and c.from_residual-in_err-last.result c.from_residual-in_err-last.ensures.1)
    (one end (two end (three end (four end (five end c.in_err-last.ensures.stops)))))

pub returns-clause-read : goal.returns-clause-read
returns-clause-read c =
    let half = c.args.half.now in
    let counts = counts_seen c.in-Some.head in
    let moment : code_moment.Moment = record {
      time = c.in-Some.head.time;
      nets = c.read_nets.new.nets;
      stamps = c.read_nets.new.changes;
      pending = c.read_pending.new.pending;
      udps = c.read_udps.new.udps;
      latest = c.read_checks.new.latest;
      last = c.in_ok-last.last;
      evaluations = c.in_ok-last.evaluations;
    } in
    subst (λ (z : ℤ). IsBodyOf half z counts.elements (moment_seen moment)) (sym (to_z-of_z w8 c.in-Some.head.tick (fits_power c.in-Some.head.tick c.in-Some.ensures.0.tick)))
    (body_read counts moment half c.in-Some.at_nets.now c.in_ok-at_pending.at_pending.now c.in_ok-at_udps.at_udps.now c.in_ok-at_checks.at_checks.now c.in_ok-at_ending.at_ending.now
    c.in-Some.ensures c.in_ok-at_pending.ensures.read c.in_ok-at_udps.ensures.read c.in_ok-at_checks.ensures.read c.in_ok-at_ending.ensures.read c.in_ok-last.ensures.read refl)
