use Rattle.std.proofs.Common.{◌∙◌, sym, refl}
use Rattle.fit_words.specs.WordsSeen.{asked_seen}
use Rattle.fit_top.proofs.IncludingLaws.{source_found, source_netlist}
use Rattle.fit_top.proofs.including.is_source.Goals as goal

pub returns-then-any_is : goal.returns-then-any_is
returns-then-any_is c = λ t. source_netlist (asked_seen c.args.asked.now) c.args.file.now c.args.asked.now.netlists.items c.deref.result.now c.deref.ensures.value (sym c.any_is.ensures ∙ c.if-any_is.true) refl

pub returns-else-any_is : goal.returns-else-any_is
returns-else-any_is c = λ t. source_found (asked_seen c.args.asked.now) c.args.file.now c.args.included.now c.requires (sym c.any_has_path.ensures ∙ t)
