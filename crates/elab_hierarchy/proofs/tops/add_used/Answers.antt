-- A name that is used.
use Rattle.std.proofs.Common.{rules}
use Rattle.elab_hierarchy.proofs.Used.{name-used}
use Rattle.elab_hierarchy.proofs.tops.add_used.Goals as goal

pub returns-in_ok-insert : goal.returns-in_ok-insert
returns-in_ok-insert c = name-used c.args.used.now.keys c.insert.new.self.keys c.args.name c.args.instances.now (search rules) c.in_ok-insert.ensures.keys
