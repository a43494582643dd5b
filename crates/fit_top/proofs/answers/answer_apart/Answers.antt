use Rattle.std.proofs.Common.{map, subst}
use Rattle.std.proofs.lemmas.Result.{err_from_is_err_and}
use Rattle.std.specs.Prelude.{Err}
use Rattle.fit_words.specs.WordsSeen.{asked_seen}
use Rattle.fit_top.specs.Names.{IsOneOf}
use Rattle.fit_top.specs.Work.{answer_seen}
use Rattle.fit_top.proofs.Answered.{netlist_missed}
use Rattle.fit_top.proofs.IncludingLaws.{fails_input}
use Rattle.fit_top.proofs.Reading.{one_front, read_is}
use Rattle.fit_top.proofs.answers.answer_apart.Goals as goal

pub returns-in_err-netlists-clause-named : goal.returns-in_err-netlists-clause-named
returns-in_err-netlists-clause-named g c =
    let p = err_from_is_err_and c.from_residual.result c.from_residual.ensures.1 in
    rw (p.1, p.2)
    (fails_input (Unit {0}) (Unit {0}) (asked_seen c.args.asked.now) _ _ c.in_err-netlists.field-0.0
    (λ n one. one_front n (map (λ m. m.now) c.args.asked.now.netlists.items) (map (λ m. m.now) c.args.asked.now.sdf.items) (subst (λ l. IsOneOf (map (λ m. m.now) l) n) c.deref.ensures.value one))
    c.in_err-netlists.ensures.named)

pub returns-in_ok-missing_answer-in-Err-clause-right : goal.returns-in_ok-missing_answer-in-Err-clause-right
returns-in_ok-missing_answer-in-Err-clause-right g c = λ meeting held e m.
    netlist_missed answer_seen (asked_seen c.args.asked.now) meeting held c.in_ok-missing_answer-in-Err.field-0 c.in-Err.name.now m
    (read_is held c.args.asked.now.netlists.items _ _ (Err c.in-Err.name) c.deref.ensures.value (c.in_ok-netlists.ensures.gives held e) c.in-Err.is)
    c.in_ok-missing_answer-in-Err.ensures
