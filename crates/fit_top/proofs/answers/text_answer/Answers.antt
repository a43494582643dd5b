use Rattle.std.proofs.Common.{◌∙◌, ap, flat_map, map, subst}
use Rattle.fit_words.specs.WordsSeen.{asked_seen}
use Rattle.fit_top.specs.Answer.{IsTextAnswer, refusal, unfit_line}
use Rattle.fit_top.specs.Work.{IsFit, answer_seen, input_seen}
use Rattle.fit_top.specs.declared.status.Status.TheVariants as status
use Rattle.fit_top.proofs.Answered.{unfit_by}
use Rattle.fit_top.proofs.answers.text_answer.Goals as goal

pub sdf_answer-requires : goal.sdf_answer-requires
sdf_answer-requires g c = (subst (IsFit (asked_seen c.args.asked.now) (map (λ t. t.items) c.args.texts.now)) c.in-Ok.is c.in_ok-outcome.ensures.fit).fitted.is_accepted

pub returns-in-Ok-clause-right : goal.returns-in-Ok-clause-right
returns-in-Ok-clause-right g c =
    subst (λ l. IsTextAnswer (asked_seen c.args.asked.now) (map (λ t. t.items) c.args.texts.now) (map input_seen l) (answer_seen c.in_ok-sdf_answer-in-Ok.field-0)) c.deref.ensures.value
    (c.in_ok-sdf_answer-in-Ok.ensures (map (λ t. t.items) c.args.texts.now)
    (subst (IsFit (asked_seen c.args.asked.now) (map (λ t. t.items) c.args.texts.now)) c.in-Ok.is c.in_ok-outcome.ensures.fit))

pub returns-clause-right : goal.returns-clause-right
returns-clause-right g c =
    unfit_by answer_seen (asked_seen c.args.asked.now) (map input_seen c.args.sdf.items) c.refusal.result (map (λ t. t.items) c.args.texts.now) c.in-Err.places.items
    (subst (IsFit (asked_seen c.args.asked.now) (map (λ t. t.items) c.args.texts.now)) c.in-Err.is c.in_ok-outcome.ensures.fit)
    (c.refusal.ensures ∙ ap (refusal status.Netlist) (c.in_ok-lines-in-Err.ensures
    ∙ ap (λ l. flat_map (unfit_line (map (λ n. n.now) l)) c.deref-in-Err-2.result.now) c.deref-in-Err.ensures.value
    ∙ ap (flat_map (unfit_line (map (λ n. n.now) c.args.asked.now.netlists.items))) c.deref-in-Err-2.ensures.value))
