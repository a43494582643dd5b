use Rattle.std.proofs.Common.{sym, refl}
use Rattle.sim_times.proofs.DueLaws.{empty_due, least_due}
use Rattle.sim_times.proofs.pending.is_any_due.Goals as goal

pub returns-in-Some-clause-due : goal.returns-in-Some-clause-due
returns-in-Some-clause-due g c = least_due c.args.now c.in-Some.time (g.A.Agenda.lists c.args.agenda.now) _ c.requires.rise c.requires.below c.in-Some.ensures.some refl

pub returns-in-None-clause-due : goal.returns-in-None-clause-due
returns-in-None-clause-due g c = sym (empty_due c.args.now (g.A.Agenda.lists c.args.agenda.now) c.in-None.ensures.none)
