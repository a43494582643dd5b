use Rattle.std.proofs.Common.{◌∙◌, length}
use Rattle.fan_round.proofs.WorkLaws.{marked-start}
use Rattle.time_checks.proofs.touching.list_touched.Goals as goal

pub sort_checks-requires-clause-marked : goal.sort_checks-requires-clause-marked
sort_checks-requires-clause-marked c = marked-start c.deref_mut.result.now c.args.work.now.list.items (length c.args.watches.now) (c.deref_mut.ensures.value ∙ c.requires.idle.marks) c.requires.idle.list
