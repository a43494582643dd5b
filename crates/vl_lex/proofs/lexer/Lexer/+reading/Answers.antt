use Rattle.std.proofs.Common.{◌-◌, arith}
use Rattle.std.proofs.lemmas.Result.{err_from_is_err_and}
use Rattle.vl_lex.specs.Effects.{effect, place_at}
use Rattle.vl_lex.specs.StateBridge.{state}
use Rattle.vl_lex.proofs.StepLaws.{step_done, step_fault, too_deep, one_less, read_on, read_stops}
use Rattle.vl_lex.proofs.lexer.Lexer.+reading.Goals as goal

pub advance-returns-in_err-text : goal.advance-returns-in_err-text
advance-returns-in_err-text t c =
    let p = err_from_is_err_and c.from_residual.result c.from_residual.ensures.1 in
    let a = c.args in
    rw (p.1, p.2) (step_fault a.left (effect a.origin a.at a.class a.bytes.now (state a.self.now)) (place_at a.origin a.at) (state c.step.new.self) (state c.step.new.self) c.in_err-text.field-0.0 c.in_err-text.ensures.steps)

pub advance-returns-in-None : goal.advance-returns-in-None
advance-returns-in-None t c =
    let a = c.args in
    step_done a.left (effect a.origin a.at a.class a.bytes.now (state a.self.now)) (place_at a.origin a.at) (state c.step.new.self) (rw c.in-None.is at c.in_ok-text.ensures.steps)

pub expand-returns-then-left-eq0 : goal.expand-returns-then-left-eq0
expand-returns-then-left-eq0 t c = rw (c.fault.ensures, c.if-left-eq0.true) (too_deep c.args.place c.args.text.now (state c.args.self.now))

pub expand-returns : goal.expand-returns
expand-returns t c = one_less c.args.left (c.args.left - 1) c.args.place c.args.text.now (state c.args.self.now) (state c.read.new.self) c.read.result (omega arith) c.read.ensures

pub read-returns-in_err-advance : goal.read-returns-in_err-advance
read-returns-in_err-advance t c =
    let p = err_from_is_err_and c.from_residual.result c.from_residual.ensures.1 in
    let q = c.first_piece-class in
    rw (p.1, p.2) (read_stops c.args.left c.args.origin c.loop-rest.at c.args.text.now c.loop-rest.rest.now c.split_at.result.0.now (state c.args.self.now) (state c.loop-rest.self) (state c.advance.new.self) (state c.advance.new.self)
    c.mode_at.result q.result.1 q.result.0 c.in_err-advance.field-0.0 c.mode_at.ensures q.ensures.piece c.split_at.ensures.front c.in_err-advance.ensures c.loop-rest.invariant.so_far)

pub read-loop-rest-preserved : goal.read-loop-rest-preserved
read-loop-rest-preserved t c =
    let q = c.first_piece-class in
    record {
      place = omega (arith, c.split_at.ensures.back_len);
      so_far = λ o h. c.loop-rest.invariant.so_far o (read_on c.args.left c.args.origin c.loop-rest.at c.loop-rest.rest.now c.split_at.result.0.now c.split_at.result.1.now (state c.loop-rest.self) (state c.advance.new.self)
          c.mode_at.result q.result.1 q.result.0 o c.mode_at.ensures q.ensures.piece c.split_at.ensures.front c.split_at.ensures.back c.in_ok-advance.ensures h);
    }
