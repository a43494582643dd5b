-- It is found by places as the definition finds it by bits.
use Rattle.std.proofs.Common.{◌∙◌}
use Rattle.elab_lates.proofs.Found.{found}
use Rattle.elab_lates.proofs.copies.ModuleCopies.find.Goals as goal

pub returns : goal.returns
returns c = λ m are row. c.get_index_of.ensures.index ∙ found m c.args.self.now are c.args.copy row
