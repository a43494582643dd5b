-- An expression of one name, as it is seen.
use Rattle.elab_bits.proofs.Parts.{view-signal}
use Rattle.elab_ends.proofs.terms.expression_of.Goals as goal

pub returns : goal.returns
returns c = view-signal c.args.term.now.name c.args.term.now.select
