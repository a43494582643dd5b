use Rattle.vl_lex.specs.StateBridge.{state}
use Rattle.vl_lex.specs.Directives.{with_macro}
use Rattle.vl_lex.proofs.StepLaws.{define_fault}
use Rattle.vl_lex.proofs.lexer.Lexer.define_checked.Goals as goal

pub returns-in-Err : goal.returns-in-Err
returns-in-Err c =
    define_fault c.args.origin c.args.start c.args.text.now (with_macro c.args.name.now c.args.text.now (state c.args.self.now)) (state c.args.self.now) c.in-Err.refused c.in-Err.ensures
