-- One net more.
use Rattle.std.proofs.Common.{◌<◌, ◌≤◌, length, subst, sym, arith}
use Rattle.std.proofs.lemmas.Result.{err_from_is_err_and}
use Rattle.sim_save.specs.Steps.{Nets, Stops}
use Rattle.sim_save.specs.declared.kinds.Stop.TheVariants as stop
use Rattle.sim_save.proofs.Exits.{exit_by}
use Rattle.sim_save.proofs.RoomLaws.{net_runs_out}
use Rattle.sim_save.proofs.SectionLaws.{net_ends, net_more, no_nets_yet, one_more}
use Rattle.sim_save.proofs.sections.read_nets.Goals as goal

pub loop-left-init : goal.loop-left-init
loop-left-init c = record {
  so_far = no_nets_yet c.args.nets.now.items c.args.changes.now.items c.args.text.now c.requires.no_nets c.requires.no_changes;
  within = subst (λ vs. length vs ≤ c.args.count) (sym c.requires.no_nets) (omega arith);
}

pub loop-left-preserved : goal.loop-left-preserved
loop-left-preserved c =
    let less : length c.loop-left.nets.items < c.args.count = omega (arith, c.loop-left-test.true, c.len.ensures, c.loop-left.nets.ok.0) in
    record {
      so_far = net_more c.loop-left.nets.items c.push.new.self.items c.loop-left.changes.items c.push-in-loop-left.new.self.items c.in-Some.value c.in-Some.change c.args.text.now c.loop-left.left.now c.in-Some.behind.now
          c.loop-left.invariant.so_far c.in-Some.ensures c.in_ok-push.ensures.items c.in_ok-push-2.ensures.items;
      within = one_more c.loop-left.nets.items c.push.new.self.items c.in-Some.value c.args.count c.in_ok-push.ensures.items less;
    }

pub returns-in_default-clause-stops : goal.returns-in_default-clause-stops
returns-in_default-clause-stops c = λ udps checks.
    let less : length c.loop-left.nets.items < c.args.count = omega (arith, c.loop-left-test.true, c.len.ensures, c.loop-left.nets.ok.0) in
    subst (Stops (Nets c.args.count udps checks) c.args.text.now) (sym c.stop_at.ensures)
    (net_ends c.loop-left.nets.items c.loop-left.changes.items c.args.text.now c.loop-left.left.now c.args.count udps checks c.loop-left.invariant.so_far less c.in_default.ensures)

pub returns-in_err-push-clause-stops : goal.returns-in_err-push-clause-stops
returns-in_err-push-clause-stops c = λ udps checks.
    let less : length c.loop-left.nets.items < c.args.count = omega (arith, c.loop-left-test.true, c.len.ensures, c.loop-left.nets.ok.0) in
    exit_by (Stops (Nets c.args.count udps checks) c.args.text.now) c.from_residual.result stop.NoMemory (err_from_is_err_and c.from_residual.result c.from_residual.ensures.1)
    (net_runs_out c.loop-left.nets.items c.loop-left.changes.items c.in-Some.value c.in-Some.change c.args.text.now c.loop-left.left.now c.in-Some.behind.now c.args.count udps checks c.loop-left.invariant.so_far less c.in-Some.ensures)

pub returns-in_err-push-2-clause-stops : goal.returns-in_err-push-2-clause-stops
returns-in_err-push-2-clause-stops c = λ udps checks.
    let less : length c.loop-left.nets.items < c.args.count = omega (arith, c.loop-left-test.true, c.len.ensures, c.loop-left.nets.ok.0) in
    exit_by (Stops (Nets c.args.count udps checks) c.args.text.now) c.from_residual-in_err-push-2.result stop.NoMemory (err_from_is_err_and c.from_residual-in_err-push-2.result c.from_residual-in_err-push-2.ensures.1)
    (net_runs_out c.loop-left.nets.items c.loop-left.changes.items c.in-Some.value c.in-Some.change c.args.text.now c.loop-left.left.now c.in-Some.behind.now c.args.count udps checks c.loop-left.invariant.so_far less c.in-Some.ensures)
