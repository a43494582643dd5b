-- One transition is gone, all others stay.
use Rattle.std.proofs.Common.{ap, sym, ◌∙◌, position}
use Rattle.pulse_list.specs.Plain.{is_of}
use Rattle.pulse_list.proofs.LatestLaws.{removed_first, nothing_found}
use Rattle.pulse_list.proofs.PairsLaws.{unchanged}
use Rattle.pulse_list.proofs.plain.remove_latest.Goals as goal

pub returns-in-Some-clause-pairs : goal.returns-in-Some-clause-pairs
returns-in-Some-clause-pairs c =
    removed_first c.args.driver _ _ c.in-Some.place (ap (position (is_of c.args.driver)) (sym c.deref.ensures.value) ∙ (sym c.place_of_latest.ensures ∙ c.in-Some.is)) c.remove.ensures.items

pub returns-in_default-clause-pairs : goal.returns-in_default-clause-pairs
returns-in_default-clause-pairs c =
    unchanged _ c.args.driver (nothing_found c.args.driver _ (ap (position (is_of c.args.driver)) (sym c.deref.ensures.value) ∙ (sym c.place_of_latest.ensures ∙ c.in_default.is)))
