use Rattle.sim_rounds.proofs.RestoredLaws.{HasPut}
use Rattle.sim_rounds.proofs.restoring.add_pending.Given as goal

abbrev pub invariant-loop-transition : goal.invariant-loop-transition
invariant-loop-transition g l = HasPut l.pending l.transition-index (g.A.Agenda.lists l.fn.agenda) (g.A.Agenda.lists l.agenda)
