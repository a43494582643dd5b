use Rattle.vl_lex.specs.Seen.{texts}
use Rattle.fit_top.proofs.ReadAgain.{no_fault, tokens_read}
use Rattle.fit_top.proofs.annotating.tokens_of.Goals as goal

pub returns-in-Ok : goal.returns-in-Ok
returns-in-Ok c = tokens_read (texts c.args.files.now) c.in-Ok.tokens c.requires c.in-Ok.ensures.only

pub unreachable-requires : goal.unreachable-requires
unreachable-requires c = no_fault (texts c.args.files.now) _ _ c.requires (rw c.in-Err-Fault.field-0-is at c.in-Err-Fault.ensures.only)
