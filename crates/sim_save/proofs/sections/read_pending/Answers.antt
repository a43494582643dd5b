-- One transition more.
use Rattle.std.proofs.lemmas.Result.{err_from_is_err_and}
use Rattle.sim_save.proofs.RoomLaws.{pending_runs_out}
use Rattle.sim_save.proofs.SectionLaws.{pending_more}
use Rattle.sim_save.proofs.sections.read_pending.Goals as goal

pub loop-transition-preserved : goal.loop-transition-preserved
loop-transition-preserved c =
    pending_more c.loop-transition.pending.items c.push.new.self.items c.in-Some.transition c.args.text.now c.loop-transition.left.now c.in-Some.behind.now c.loop-transition.invariant c.in-Some.ensures c.in_ok-push.ensures.items

pub returns-in_err-push-clause-wants : goal.returns-in_err-push-clause-wants
returns-in_err-push-clause-wants c = λ udps checks.
    rw (err_from_is_err_and c.from_residual.result c.from_residual.ensures.1).1
    (pending_runs_out c.loop-transition.pending.items c.in-Some.transition c.args.text.now c.loop-transition.left.now c.in-Some.behind.now udps checks c.loop-transition.invariant c.in-Some.ensures)
