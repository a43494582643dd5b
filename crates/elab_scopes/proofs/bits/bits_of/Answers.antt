-- The nets are those of the variable's bits.
use Rattle.elab_scopes.proofs.BitParts.{bits-here}
use Rattle.elab_scopes.proofs.bits.bits_of.Goals as goal

pub returns : goal.returns
returns c = λ all source s is.
    bits-here all source s c.args.here.now c.args.place c.row.result.start c.width_at.result c.part.result.now c.requires c.part.ensures c.row.ensures.start c.width_at.ensures is
