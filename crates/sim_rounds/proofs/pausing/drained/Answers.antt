use Rattle.std.proofs.Common.{◌∙◌, ap, map, reverse}
use Rattle.std.proofs.lemmas.List.{reverse-reverse}
use Rattle.sim_rounds.specs.Moments.{pending_in}
use Rattle.sim_rounds.specs.MomentsSeen.{pending_seen}
use Rattle.sim_rounds.proofs.PausingLaws.{map_turned}
use Rattle.sim_rounds.proofs.pausing.drained.Goals as goal

pub returns : goal.returns
returns g c =
    ap (map (λ p. pending_seen p)) c.reverse.ensures.items ∙ (map_turned (λ p. pending_seen p) c.drain_all.new.pending.items ∙ (ap reverse c.in_ok-drain_all.ensures ∙ reverse-reverse (pending_in 0 (g.A.Agenda.lists c.args.agenda.now))))
