use Rattle.std.proofs.Common.{◌∙◌, ap, sym}
use Rattle.std.specs.Option.{option_map}
use Rattle.fit_words.specs.WordsSeen.{asked_seen}
use Rattle.fit_top.proofs.Worked.{usage_left}
use Rattle.fit_top.proofs.answer.work.Goals as goal

pub returns-in_default-clause-left : goal.returns-in_default-clause-left
returns-in_default-clause-left g c =
    usage_left _ (g.F.Folders.meeting c.args.folders.now) c.told_of.result (g.S.Shelf.files c.args.shelf.now) (sym c.in_ok-asked.ensures.asked ∙ ap (option_map (λ x. asked_seen x)) c.in_default.is)
    (c.told_of.ensures.status ∙ ap (λ a. a.status) c.in_ok-usage_answer.ensures) (c.told_of.ensures.text ∙ ap (λ a. a.report) c.in_ok-usage_answer.ensures)
