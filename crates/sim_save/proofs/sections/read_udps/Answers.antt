-- One state more.
use Rattle.std.proofs.Common.{◌<◌, length, subst, sym, arith}
use Rattle.std.proofs.lemmas.Result.{err_from_is_err_and}
use Rattle.sim_save.specs.Steps.{Stops, Udps}
use Rattle.sim_save.specs.declared.kinds.Stop.TheVariants as stop
use Rattle.sim_save.proofs.Exits.{exit_by}
use Rattle.sim_save.proofs.RoomLaws.{udp_runs_out}
use Rattle.sim_save.proofs.SectionLaws.{one_more, udp_ends, udp_more}
use Rattle.sim_save.proofs.sections.read_udps.Goals as goal

pub loop-left-preserved : goal.loop-left-preserved
loop-left-preserved c =
    let less : length c.loop-left.udps.items < c.args.count = omega (arith, c.loop-left-test.true, c.len.ensures, c.loop-left.udps.ok.0) in
    record {
      so_far = udp_more c.loop-left.udps.items c.push.new.self.items c.in-Some.state c.args.text.now c.loop-left.left.now c.in-Some.behind.now c.loop-left.invariant.so_far c.in-Some.ensures c.in_ok-push.ensures.items;
      within = one_more c.loop-left.udps.items c.push.new.self.items c.in-Some.state c.args.count c.in_ok-push.ensures.items less;
    }

pub returns-in_default-clause-stops : goal.returns-in_default-clause-stops
returns-in_default-clause-stops c = λ checks.
    let less : length c.loop-left.udps.items < c.args.count = omega (arith, c.loop-left-test.true, c.len.ensures, c.loop-left.udps.ok.0) in
    subst (Stops (Udps c.args.count checks) c.args.text.now) (sym c.stop_at.ensures)
    (udp_ends c.loop-left.udps.items c.args.text.now c.loop-left.left.now c.args.count checks c.loop-left.invariant.so_far less c.in_default.ensures)

pub returns-in_err-push-clause-stops : goal.returns-in_err-push-clause-stops
returns-in_err-push-clause-stops c = λ checks.
    let less : length c.loop-left.udps.items < c.args.count = omega (arith, c.loop-left-test.true, c.len.ensures, c.loop-left.udps.ok.0) in
    exit_by (Stops (Udps c.args.count checks) c.args.text.now) c.from_residual.result stop.NoMemory (err_from_is_err_and c.from_residual.result c.from_residual.ensures.1)
    (udp_runs_out c.loop-left.udps.items c.in-Some.state c.args.text.now c.loop-left.left.now c.in-Some.behind.now c.args.count checks c.loop-left.invariant.so_far less c.in-Some.ensures)
