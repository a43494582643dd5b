use Rattle.std.proofs.Common.{◌∙◌, sym, ap, arith}
use Rattle.std.specs.Prelude.{None}
use Rattle.std.proofs.Common.{ℕ, drop}
use Rattle.sdf_lex.specs.PieceBridge.{measured, run_of}
use Rattle.sdf_lex.proofs.RunLaws.{step_on, step_end}
use Rattle.sdf_lex.proofs.words.first_word.Goals as goal

pub loop-letter-preserved : goal.loop-letter-preserved
loop-letter-preserved c =
    let l = c.loop-letter in
    let behind = c.split_at.ensures.back ∙ ap (λ (n : ℕ). drop n l.rest.now) c.size.ensures in
    record {
      same = rw (c.bracket_with-bracket.ensures, c.with_last.ensures, c.size-size.ensures)
          (step_on l.size l.bracket l.ends l.rest.now c.split_at.result.1.now c.in-Some.letter (measured 0 None (run_of None c.args.text.now)) (sym c.next_letter.ensures.value ∙ c.in-Some.is) behind l.invariant.same);
      place = omega (arith, c.split_at.ensures.back_len, c.size.ensures, c.size-size.ensures, l.invariant.place);
    }

pub returns-clause-size : goal.returns-clause-size
returns-clause-size c =
    let l = c.loop-letter in
    sym (ap (λ w. w.0) (step_end l.size l.bracket l.ends l.rest.now (measured 0 None (run_of None c.args.text.now)) (sym c.next_letter.ensures.value ∙ c.in_default.is) l.invariant.same))

pub returns-clause-bracket : goal.returns-clause-bracket
returns-clause-bracket c =
    let l = c.loop-letter in
    sym (ap (λ w. w.1) (step_end l.size l.bracket l.ends l.rest.now (measured 0 None (run_of None c.args.text.now)) (sym c.next_letter.ensures.value ∙ c.in_default.is) l.invariant.same))
