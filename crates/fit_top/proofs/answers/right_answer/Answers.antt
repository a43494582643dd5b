use Rattle.std.proofs.Common.{◌∙◌, ap, arith, length, map, refl, sym}
use Rattle.std.proofs.lemmas.List.{length-map}
use Rattle.vl_lex.specs.Seen.{texts}
use Rattle.fit_changes.specs.Lines.{line_seen}
use Rattle.fit_changes.specs.Rounds.{written}
use Rattle.fit_sdf.specs.Counts.{count_seen}
use Rattle.fit_words.specs.WordsSeen.{asked_seen}
use Rattle.fit_top.specs.Work.{answer_seen}
use Rattle.fit_top.proofs.Answered.{answer_as, lines_with}
use Rattle.fit_top.proofs.answers.right_answer.Goals as goal

pub returns : goal.returns
returns c =
    answer_as answer_seen (asked_seen c.args.asked.now) c.changed_answer.result _ (texts c.args.fitted.texts.items) (written c.args.sdf.now.list.items) _ _ (map count_seen c.args.sdf.now.counts.items)
    (ap texts c.deref-2.ensures.value)
    (lines_with (asked_seen c.args.asked.now) (map line_seen c.args.fitted.lines.items) _ _ c.len.result _ c.args.sdf.now.list.items (ap (map line_seen) c.deref-3.ensures.value) c.in_ok-lines.ensures
    (c.len.ensures ∙ c.args.asked.now.netlists.ok.0 ∙ sym (length-map c.args.asked.now.netlists.items (λ n. n.now))) c.deref.ensures.value)
    c.changed_answer.ensures
