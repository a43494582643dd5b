-- The report, the files and the status.
use Rattle.std.specs.Prelude.{map}
use Rattle.std.proofs.Common.{◌∙◌, ap, refl}
use Rattle.std.proofs.lemmas.Result.{err_from_is_err_and}
use Rattle.fit_changes.specs.Lines.{line_seen}
use Rattle.fit_changes.specs.Rounds.{written}
use Rattle.fit_words.specs.WordsSeen.{asked_seen}
use Rattle.fit_sdf.specs.Counts.{count_seen}
use Rattle.fit_top.specs.Work.{made_seen}
use Rattle.fit_top.proofs.Answered.{added_with, fitted_with, made_with, told_with}
use Rattle.fit_top.proofs.answers.fitted_answer.Goals as goal

pub returns : goal.returns
returns c =
    fitted_with (asked_seen c.args.asked.now) (map (λ t. t.items) c.args.texts.now) (written c.args.sdf.now.list.items) (map line_seen c.args.lines.now) (map count_seen c.args.sdf.now.counts.items) _ _ _
    c.status_of.ensures
    (made_with _ _ _ _ _ (ap (map made_seen) c.new-made.ensures.items)
    (added_with c.args.asked.now.out.now _ _ _ _ _ _ c.in_ok-add_files.ensures (ap (map (λ n. n.now)) c.deref-4.ensures.value) refl)
    (added_with c.args.asked.now.out.now _ _ _ _ _ _ c.in_ok-add_files-2.ensures (ap (map (λ n. n.now)) c.deref-5.ensures.value) (ap (map (λ t. t.items)) c.deref-6.ensures.value ∙ c.in_ok-changed.ensures ∙ ap written c.deref-3.ensures.value)))
    (told_with _ _ (map line_seen c.args.lines.now) _ _ _ c.in_ok-report.ensures (ap (map (λ n. n.now)) c.deref.ensures.value ∙ c.in_ok-names.ensures) (ap (map count_seen) c.deref-2.ensures.value))

pub returns-in_err-changed : goal.returns-in_err-changed
returns-in_err-changed c = rw (err_from_is_err_and c.from_residual-in_err-changed.result c.from_residual-in_err-changed.ensures.1).1 tt

pub returns-in_err-add_files : goal.returns-in_err-add_files
returns-in_err-add_files c = rw (err_from_is_err_and c.from_residual-in_err-add_files.result c.from_residual-in_err-add_files.ensures.1).1 tt

pub returns-in_err-add_files-2 : goal.returns-in_err-add_files-2
returns-in_err-add_files-2 c = rw (err_from_is_err_and c.from_residual-in_err-add_files-2.result c.from_residual-in_err-add_files-2.ensures.1).1 tt
