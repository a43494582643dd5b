use Rattle.std.proofs.Common.{◌≤◌, length}
use Rattle.std.specs.Vec.{vec_capacity}
use Rattle.sg_model.specs.Round.{due_changes}
use Rattle.sg_model.proofs.TakeLaws.{TakesOn}
use Rattle.fan_round.specs.Nets.{AreChanged}
use Rattle.fan_round.proofs.nets.take_due.Given as goal

-- the due transitions that are left, applied to the nets as they are, come to the same
abbrev pub invariant-loop-driver : goal.invariant-loop-driver
invariant-loop-driver g l = record {
  takes_on : TakesOn l.now l.outputs (g.A.Agenda.lists l.fn.agenda) (g.A.Agenda.lists l.agenda) l.fn.values l.values;
  changed : AreChanged l.before l.values l.changed.items;
  capacity : vec_capacity l.fn.changed ≤ vec_capacity l.changed;
}

abbrev pub decreases-loop-driver : goal.decreases-loop-driver
decreases-loop-driver g l = length (due_changes l.now l.outputs (g.A.Agenda.lists l.agenda))
