use Rattle.vl_lex.proofs.lexer.Lexer.define.Goals as goal

pub returns : goal.returns
returns c = rw (← c.blank_len-blanks.ensures.size, ← c.split_at.ensures.back) c.define_by.ensures
