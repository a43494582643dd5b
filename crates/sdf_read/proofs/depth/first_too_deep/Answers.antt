-- One more token, the first that is too deep, or the end.
use Rattle.std.proofs.Common.{map, ap, ◌∙◌}
use Rattle.std.specs.Option.{option_map}
use Rattle.cond_expr.proofs.WordReading.{none_if_not_some}
use Rattle.sdf_lex.specs.Seen.{lexeme}
use Rattle.sdf_read.proofs.Depths.{at_first, goes_on, too_deep, not_deep, none_left}
use Rattle.sdf_read.proofs.depth.first_too_deep.Goals as goal

pub more-init : goal.more-init
more-init c = at_first (map lexeme c.args.tokens.now)

pub returns-then-is_too_deep : goal.returns-then-is_too_deep
returns-then-is_too_deep c = too_deep (map lexeme c.args.tokens.now) c.more.at c.more.depth c.depth_behind-behind.result c.more.invariant (lexeme c.in-Some.token) (c.token_at.ensures ∙ ap (option_map lexeme) c.in-Some.is) c.depth_behind-behind.ensures (c.is_too_deep.ensures.0 c.if-is_too_deep.true)

pub more-preserved : goal.more-preserved
more-preserved c = goes_on (map lexeme c.args.tokens.now) c.more.at c.more.depth c.depth_behind-behind.result c.more.invariant (lexeme c.in-Some.token) (c.token_at.ensures ∙ ap (option_map lexeme) c.in-Some.is) c.depth_behind-behind.ensures (not_deep c.is_too_deep.result c.depth_behind-behind.result c.is_too_deep.ensures c.if-is_too_deep.false)

pub returns : goal.returns
returns c = none_left (map lexeme c.args.tokens.now) c.more.at c.more.depth c.more.invariant (c.token_at.ensures ∙ ap (option_map lexeme) (none_if_not_some c.token_at.result c.in_default.not-Some))
