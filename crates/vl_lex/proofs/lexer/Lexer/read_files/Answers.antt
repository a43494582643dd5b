use Rattle.std.proofs.Common.{arith}
use Rattle.std.proofs.lemmas.Result.{err_from_is_err_and}
use Rattle.vl_lex.specs.StateBridge.{state}
use Rattle.vl_lex.proofs.StepLaws.{files_stop}
use Rattle.vl_lex.proofs.lexer.Lexer.read_files.Goals as goal

pub returns-in_err-read_file : goal.returns-in_err-read_file
returns-in_err-read_file c =
    let p = err_from_is_err_and c.from_residual.result c.from_residual.ensures.1 in
    rw (p.1, p.2) (files_stop 16 c.loop-rest.file c.args.files.now c.loop-rest.rest.now c.text-item.result c.deref.result.now (state c.args.self.now) (state c.loop-rest.self) (state c.read_file.new.self) (state c.read_file.new.self)
    c.in_err-read_file.field-0.0 (omega arith) c.text-item.is c.deref.ensures.value c.in_err-read_file.ensures c.loop-rest.invariant.so_far)
