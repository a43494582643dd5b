use Rattle.std.proofs.Common.{sym, subst}
use Rattle.std.specs.Prelude.{option_map}
use Rattle.tally_top.specs.Answer.{waive_text}
use Rattle.tally_top.specs.Seen.{GivesText}
use Rattle.tally_top.proofs.inputs.read_waive.Goals as goal

pub returns-in-Some-clause-gives : goal.returns-in-Some-clause-gives
returns-in-Some-clause-gives g c = λ held e. subst (λ o. GivesText (waive_text (option_map (λ n. n.now) o) held) c.read_text.result) (sym c.in-Some.is) (c.read_text.ensures.gives held e)
