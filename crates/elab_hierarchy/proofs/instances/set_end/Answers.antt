-- The instance gets its end.
use Rattle.std.proofs.Common.{rules, length}
use Rattle.elab_hierarchy.proofs.Ended.{end-set}
use Rattle.elab_hierarchy.proofs.instances.set_end.Goals as goal

pub returns-clause-ended : goal.returns-clause-ended
returns-clause-ended c before after p e at = end-set c.args.list.now.items c.args.number c.len-end.result (length c.args.list.now.items) c.index_mut.result.now _ before after p c.index_mut.ensures.value (search rules) e at
