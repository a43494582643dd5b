use Rattle.std.proofs.Common.{◌∙◌, sym}
use Rattle.sdf_lex.proofs.OneReading.{only_of}
use Rattle.sdf_lex.proofs.reading.lex.Goals as goal

pub returns-clause-only : goal.returns-clause-only
returns-clause-only c o h = only_of c.args.bytes.now c.lex_small.result (sym c.is_too_large.ensures ∙ c.if-is_too_large.false) c.lex_small.ensures o h
