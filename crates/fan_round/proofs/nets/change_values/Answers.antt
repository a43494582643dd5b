use Rattle.std.proofs.Common.{◌∙◌, ap, sym, map}
use Rattle.sg_model.specs.Round.{changed_by, due_changes}
use Rattle.sg_stimulus.specs.Seen.{set_seen}
use Rattle.fan_round.proofs.NetLaws.{changed_append}
use Rattle.fan_round.proofs.nets.change_values.Goals as goal

pub returns-clause-values : goal.returns-clause-values
returns-clause-values g c =
    c.apply.ensures.values ∙ (ap (λ vs. changed_by (map (λ x. set_seen x) c.args.handed.now) vs) c.take_due.ensures.values
    ∙ sym (changed_append (due_changes c.args.now c.args.outputs.now (g.A.Agenda.lists c.args.agenda.now)) (map (λ x. set_seen x) c.args.handed.now) c.args.values.now))
