-- The key, the values, and the line's end.
use Rattle.std.proofs.Common.{◌≡◌, ◌+◌, ◌++◌, length, refl, rules}
use Rattle.tally_violations.specs.Figures.{values_text}
use Rattle.tally_violations.proofs.TextLaws.{line_told}
use Rattle.tally_violations.proofs.figures.push_group.Goals as goal

pub returns : goal.returns
returns c =
    let told : c.push_values.new.text.items ≡ c.push_key.new.text.items ++ values_text (length c.args.others.now + 1) c.args.first.now.time c.worst.result = search rules in
    line_told _ _ _ _ c.args.first.now c.args.others.now _ c.worst.result refl c.worst.ensures c.in_ok-push_key.ensures told c.in_ok-push.ensures.items
