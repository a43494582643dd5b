use Rattle.std.proofs.Common.{◌∙◌, ap, map, string_bytes}
use Rattle.fit_words.specs.Words.{made_name}
use Rattle.fit_top.proofs.Meetings.{met_by}
use Rattle.fit_top.proofs.answers.meets.Goals as goal

pub returns : goal.returns
returns g c = λ is_one e.
    met_by is_one c.are_met.result _ _ _ _ (c.are_met.ensures is_one e)
    (ap (map string_bytes) c.deref-2.ensures.value ∙ c.in_ok-made.ensures ∙ ap (λ l. map (made_name c.args.asked.now.out.now) (map (λ n. n.now) l)) c.deref.ensures.value
    ∙ ap (map (made_name c.args.asked.now.out.now)) c.in_ok-inputs.ensures)
    (ap (map (λ n. n.now)) c.deref-3.ensures.value ∙ c.in_ok-inputs.ensures)
