-- The rules are those of the definition.
use Rattle.std.specs.Prelude.{length, map}
use Rattle.std.proofs.Common.{sym}
use Rattle.std.proofs.lemmas.List.{length-map}
use Rattle.std.proofs.lemmas.Result.{on_ok_weaker}
use Rattle.fit_changes.specs.Lines.{line_seen}
use Rattle.fit_changes.proofs.LineLaws.{counted}
use Rattle.fit_changes.proofs.report.push_counts.Goals as goal

pub returns : goal.returns
returns c =
    on_ok_weaker c.push_some.result
    (λ e. counted c.args.text.now.items c.push_each.new.text.items c.push_some.new.text.items (map line_seen c.args.lines.now) (length c.args.lines.now) c.in_ok-push_each.ensures (sym (length-map c.args.lines.now line_seen)) e)
    c.push_some.ensures
