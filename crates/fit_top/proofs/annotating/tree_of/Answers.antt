use Rattle.std.proofs.Common.{map}
use Rattle.vl_token.specs.Seen.{lexeme}
use Rattle.fit_top.proofs.ReadAgain.{no_refusal}
use Rattle.fit_top.proofs.annotating.tree_of.Goals as goal

pub unreachable-requires : goal.unreachable-requires
unreachable-requires c = no_refusal (map lexeme c.args.tokens.now) c.requires (rw c.in-Err-Fault.field-0-is at c.in-Err-Fault.ensures.only)
