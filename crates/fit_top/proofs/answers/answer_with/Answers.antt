use Rattle.std.proofs.Common.{◌∙◌, ap, map, subst, sym}
use Rattle.std.proofs.lemmas.Result.{err_from_is_err_and}
use Rattle.std.specs.Prelude.{Ok, Err}
use Rattle.fit_words.specs.WordsSeen.{asked_seen}
use Rattle.fit_top.specs.Names.{IsOneOf}
use Rattle.fit_top.specs.Work.{answer_seen, input_seen}
use Rattle.fit_top.proofs.Answered.{sdf_missed, texts_by}
use Rattle.fit_top.proofs.IncludingLaws.{fails_input}
use Rattle.fit_top.proofs.MadeNames.{map_twice}
use Rattle.fit_top.proofs.Reading.{one_behind, read_is}
use Rattle.fit_top.proofs.answers.answer_with.Goals as goal

pub returns-in_err-sdf-clause-named : goal.returns-in_err-sdf-clause-named
returns-in_err-sdf-clause-named g c =
    let p = err_from_is_err_and c.from_residual.result c.from_residual.ensures.1 in
    rw (p.1, p.2)
    (fails_input (Unit {0}) (Unit {0}) (asked_seen c.args.asked.now) _ _ c.in_err-sdf.field-0.0
    (λ n one. one_behind n (map (λ m. m.now) c.args.asked.now.netlists.items) (map (λ m. m.now) c.args.asked.now.sdf.items) (subst (λ l. IsOneOf (map (λ m. m.now) l) n) c.deref.ensures.value one))
    c.in_err-sdf.ensures.named)

pub returns-in-Ok-clause-right : goal.returns-in-Ok-clause-right
returns-in-Ok-clause-right g c = λ meeting held e m n.
    texts_by answer_seen (asked_seen c.args.asked.now) meeting held c.text_answer.result (map input_seen c.args.netlists.items) (map input_seen c.in-Ok.sdf.items) _ m n
    (read_is held c.args.asked.now.sdf.items _ _ (Ok c.in-Ok.sdf) c.deref.ensures.value (c.in_ok-sdf.ensures.gives held e) c.in-Ok.is)
    (ap (map (λ t. t.items)) c.deref-in-Ok.ensures.value ∙ c.in_ok-texts-in-Ok.ensures ∙ sym (map_twice (λ f. f.bytes) input_seen c.args.netlists.items))
    c.text_answer.ensures.right

pub returns-clause-right : goal.returns-clause-right
returns-clause-right g c = λ meeting held e m n.
    sdf_missed answer_seen (asked_seen c.args.asked.now) meeting held c.in_ok-missing_answer-in-Err.field-0 c.in-Err.name.now (map input_seen c.args.netlists.items) m n
    (read_is held c.args.asked.now.sdf.items _ _ (Err c.in-Err.name) c.deref.ensures.value (c.in_ok-sdf.ensures.gives held e) c.in-Err.is)
    c.in_ok-missing_answer-in-Err.ensures
