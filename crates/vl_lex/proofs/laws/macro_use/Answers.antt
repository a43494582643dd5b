use Rattle.vl_lex.proofs.MacroUses.{macro_use}
use Rattle.vl_lex.proofs.laws.macro_use.Goals as goal

pub returns : goal.returns
returns c = macro_use
