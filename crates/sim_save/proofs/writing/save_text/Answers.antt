use Rattle.sim_save.proofs.PushLaws.{twice_small}
use Rattle.sim_save.proofs.writing.save_text.Goals as goal

pub returns-clause-small : goal.returns-clause-small
returns-clause-small c = twice_small c.push_body.new.text.items c.extend_from_within.new.self.items c.push_body.new.text.len c.in_ok-extend_from_within.ensures.items c.in_ok-push_body.ensures.small
