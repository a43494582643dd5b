use Rattle.vl_lex.proofs.PlainFiles.{plain_file}
use Rattle.vl_lex.proofs.laws.plain_file.Goals as goal

pub returns : goal.returns
returns c = plain_file
