-- The part at a place.
use Rattle.vl_token.specs.Seen.{lexeme}
use Rattle.fit_parts.specs.Parts.{is_end}
use Rattle.fit_parts.proofs.CutLaws.{cut-at}
use Rattle.fit_parts.proofs.parts.part_end.Goals as goal

pub returns-clause-parts : goal.returns-clause-parts
returns-clause-parts c = cut-at is_end lexeme c.args.tokens.now c.args.at c.part_len.result c.requires c.part_len.ensures.len
