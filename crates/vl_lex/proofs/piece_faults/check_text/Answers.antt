use Rattle.std.proofs.Common.{sym, ap, ◌∙◌, arith}
use Rattle.vl_lex.specs.Effects.{fault_of}
use Rattle.vl_lex.proofs.Splits.{check_on, check_stops}
use Rattle.vl_lex.proofs.piece_faults.check_text.Goals as goal

pub returns-in-Some : goal.returns-in-Some
returns-in-Some c =
    let p = c.first_piece-class in
    let is = ap (fault_of p.result.0) (sym c.split_at.ensures.front) ∙ sym c.fault_of.ensures.value ∙ c.in-Some.is in
    rw (c.fault.ensures, c.place_at.ensures) (c.loop-rest.invariant.so_far _ (check_stops c.args.origin c.loop-rest.at c.loop-rest.rest.now p.result.1 p.result.0 c.in-Some.found p.ensures.piece is))

pub loop-rest-preserved : goal.loop-rest-preserved
loop-rest-preserved c =
    let p = c.first_piece-class in
    let none = ap (fault_of p.result.0) (sym c.split_at.ensures.front) ∙ sym c.fault_of.ensures.value ∙ c.in_default.is in
    record {
      place = omega (arith, c.split_at.ensures.back_len);
      so_far = check_on c.args.origin c.args.start c.loop-rest.at c.args.text.now c.loop-rest.rest.now c.split_at.result.1.now p.result.1 p.result.0 c.loop-rest.invariant.so_far p.ensures.piece none c.split_at.ensures.back;
    }
