-- The words before a comment.
use Rattle.std.proofs.Common.{◌∙◌, ap, map}
use Rattle.tally_violations.specs.Waivers.{begins_comment, plain_row}
use Rattle.tally_violations.proofs.WordLaws.{plain_words}
use Rattle.tally_violations.proofs.waivers.row_of.Goals as goal

pub returns : goal.returns
returns c = c.plain_row.ensures ∙ ap (plain_row c.args.line) (plain_words begins_comment c.args.words.now c.plain_len.result c.plain_len.ensures.size)
