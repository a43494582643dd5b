use Rattle.sg_stimulus.proofs.FittingLaws.{sets_not_seen}
use Rattle.sg_stimulus.proofs.fitting.sets_not.Goals as goal

pub returns : goal.returns
returns c = (λ t. (sets_not_seen c.args.net c.args.sets.now).0 (c.are_apart.ensures.0 t), λ h. c.are_apart.ensures.1 ((sets_not_seen c.args.net c.args.sets.now).1 h))
