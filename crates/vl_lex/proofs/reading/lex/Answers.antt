use Rattle.vl_lex.specs.Seen.{texts}
use Rattle.vl_lex.proofs.OneReading.{only_of}
use Rattle.vl_lex.proofs.reading.lex.Goals as goal

pub returns-clause-only : goal.returns-clause-only
returns-clause-only c o h = only_of (texts c.args.files.now) c.lex_few.result c.lex_few.ensures o h
