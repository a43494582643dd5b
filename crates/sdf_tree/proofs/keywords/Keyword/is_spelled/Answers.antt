-- The comparison leaves case aside, and the word stands in lower case.
use Rattle.sdf_tree.proofs.KeywordLaws.{same_letters}
use Rattle.sdf_tree.proofs.keywords.Keyword.is_spelled.Goals as goal

pub returns : goal.returns
returns c = same_letters c.args.self c.bytes.result.now c.args.text.now c.eq_ignore_ascii_case.result c.bytes.ensures c.eq_ignore_ascii_case.ensures.test
