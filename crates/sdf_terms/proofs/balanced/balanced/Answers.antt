-- One more token, or the end.
use Rattle.std.proofs.Common.{map, sym, arith, ◌∙◌}
use Rattle.std.proofs.lemmas.Bool.{eqb-true}
use Rattle.cond_expr.proofs.WordReading.{none_if_not_some}
use Rattle.sdf_lex.specs.Seen.{lexeme}
use Rattle.sdf_terms.proofs.BalancedTokens.{begun, token_goes_on, token_advances, token_few, token_within, tokens_end, tokens_refused}
use Rattle.sdf_terms.proofs.balanced.balanced.Goals as goal

pub more-init : goal.more-init
more-init c = record { rest = begun (map lexeme c.args.tokens.now) c.args.at; few = omega arith; within = omega arith }

pub more-smaller : goal.more-smaller
more-smaller c = token_advances (map lexeme c.args.tokens.now) c.more.unclosed c.more.next c.in-Some.after (rw c.in-Some.is at c.unclosed_behind.ensures)

pub more-preserved : goal.more-preserved
more-preserved c =
    let step = rw c.in-Some.is at c.unclosed_behind.ensures in
    let few = token_few (map lexeme c.args.tokens.now) c.more.unclosed c.more.next c.in-Some.after step in
    let within = token_within (map lexeme c.args.tokens.now) c.more.unclosed c.more.next c.in-Some.after step in
    record {
      rest = token_goes_on (map lexeme c.args.tokens.now) c.more.unclosed c.more.next _ c.in-Some.after step c.more.invariant.rest;
      few = omega (arith, few, c.more.invariant.few);
      within = omega (arith, few, within, c.more.invariant.few);
    }

pub returns-then-not-ended : goal.returns-then-not-ended
returns-then-not-ended c = tokens_refused (map lexeme c.args.tokens.now) c.more.unclosed c.more.next _ (rw (none_if_not_some c.unclosed_behind.result c.in_default.not-Some) at c.unclosed_behind.ensures) (sym c.ended.ensures ∙ c.if-not-ended.true) c.more.invariant.rest

pub returns : goal.returns
returns c = tokens_end (map lexeme c.args.tokens.now) c.more.unclosed c.more.next _ (rw (none_if_not_some c.unclosed_behind.result c.in_default.not-Some) at c.unclosed_behind.ensures) (eqb-true c.more.unclosed 0 (sym c.ended.ensures ∙ c.if-not-ended.false)) c.more.invariant.rest
