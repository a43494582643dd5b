use Rattle.path_pick.proofs.ConditionLaws.{allowed-ifnone}
use Rattle.path_pick.proofs.conditions.is_allowed.Goals as goal

pub returns-in-IfNone : goal.returns-in-IfNone
returns-in-IfNone g c = λ paths conditions timings marked. allowed-ifnone paths c.args.path.now (g.N.Nets.values c.args.nets.now) c.args.flags.now conditions timings c.in-IfNone.is marked
