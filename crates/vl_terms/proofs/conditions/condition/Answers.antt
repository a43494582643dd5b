-- A word goes on, and where none comes the condition ends or fails.
use Rattle.std.proofs.Common.{ℕ, map, sym, ◌∙◌}
use Rattle.std.proofs.lemmas.Result.{err_from_is_err_and}
use Rattle.cond_expr.specs.declared.scan.Phase.{Phase}
use Rattle.cond_expr.proofs.WordReading.{none_if_not_some, word_goes_on, word_advances, word_few, word_fails, words_end, words_refused}
use Rattle.vl_token.specs.Seen.{lexeme}
use Rattle.vl_tree.specs.declared.specify.Word.{Word}
use Rattle.vl_tree.specs.Conditions.{vocabulary}
use Rattle.vl_tree.specs.Seen.{view_word}
use Rattle.vl_tree.proofs.ConditionsExact.{is_vocabulary}
use Rattle.vl_terms.proofs.conditions.condition.Goals as goal

pub returns-in_err-one : goal.returns-in_err-one
returns-in_err-one c =
    let p = err_from_is_err_and c.from_residual.result c.from_residual.ensures.1 in
    rw (p.1, p.2) (word_fails vocabulary is_vocabulary view_word (map lexeme c.args.tokens.now) c.more.unclosed c.more.phase c.more.next _ c.more.words.items _ c.word.result c.in_err-one.was c.word.ensures c.more.invariant.rest)

pub more-smaller : goal.more-smaller
more-smaller c = word_advances vocabulary is_vocabulary view_word (map lexeme c.args.tokens.now) c.more.unclosed c.more.phase c.more.next (c.in-Some.one, c.in-Some.behind, c.in-Some.unclosed_then, c.in-Some.then) (rw c.in-Some.is at c.in_ok-one.ensures)

pub more-preserved : goal.more-preserved
more-preserved c =
    let w : Word × ℕ × ℕ × Phase = (c.in-Some.one, c.in-Some.behind, c.in-Some.unclosed_then, c.in-Some.then) in
    let read = rw c.in-Some.is at c.in_ok-one.ensures in
    let few = word_few vocabulary is_vocabulary view_word (map lexeme c.args.tokens.now) c.more.unclosed c.more.phase c.more.next w read c.more.invariant.few in
    record {
      rest = rw c.in_ok-push.ensures.items (word_goes_on vocabulary is_vocabulary view_word (map lexeme c.args.tokens.now) c.more.unclosed c.more.phase c.more.next w read _ c.more.words.items c.more.invariant.rest);
      few = few.0;
      within = few.1;
    }

pub returns : goal.returns
returns c =
    rw c.shrink_to_fit.ensures.items
    (words_end vocabulary is_vocabulary view_word (map lexeme c.args.tokens.now) c.more.unclosed c.more.phase c.more.next _ c.more.words.items (rw (none_if_not_some c.in_ok-one.field-0 c.in_default.not-Some) at c.in_ok-one.ensures) (sym c.ended.ensures ∙ c.if-not-ended.false) c.more.invariant.rest)

pub returns-then-not-ended : goal.returns-then-not-ended
returns-then-not-ended c = words_refused vocabulary is_vocabulary view_word (map lexeme c.args.tokens.now) c.more.unclosed c.more.phase c.more.next _ c.more.words.items (rw (none_if_not_some c.in_ok-one.field-0 c.in_default.not-Some) at c.in_ok-one.ensures) (sym c.ended.ensures ∙ c.if-not-ended.true) c.more.invariant.rest
