-- A name that is put into the set.
use Rattle.elab_variables.proofs.WithNames.{one-put}
use Rattle.elab_variables.proofs.naming.add_name.Goals as goal

pub returns : goal.returns
returns c = one-put c.args.known.now.keys c.insert.new.self.keys c.args.name c.in_ok-insert.ensures.keys
