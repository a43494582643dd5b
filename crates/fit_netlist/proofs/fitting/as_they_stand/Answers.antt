-- The texts without changes.
use Rattle.std.specs.Prelude.{map}
use Rattle.std.proofs.Common.{◌∙◌, ap}
use Rattle.vl_lex.specs.Seen.{texts}
use Rattle.fit_changes.specs.Lines.{line_seen}
use Rattle.fit_changes.specs.Rounds.{written}
use Rattle.fit_netlist.proofs.WritingLaws.{written-as-read}
use Rattle.fit_netlist.proofs.fitting.as_they_stand.Goals as goal

pub returns : goal.returns
returns c =
    (c.in_ok-texts.ensures ∙ ap written (c.deref.ensures.value ∙ c.in_ok-list.ensures) ∙ written-as-read (texts c.args.files.now), ap (map line_seen) c.new-lines.ensures.items)
