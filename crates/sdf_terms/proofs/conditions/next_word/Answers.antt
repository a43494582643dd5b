-- Each way out is one of the steps.
use Rattle.std.proofs.Common.{Some, map, sym, ◌∙◌}
use Rattle.cond_expr.proofs.MappedNames.{kind_of_mapped}
use Rattle.cond_expr.proofs.WordSteps.{index_taken, no_word_stands, word_refused, word_taken}
use Rattle.sdf_lex.specs.Seen.{lexeme}
use Rattle.sdf_tree.specs.Conditions.{vocabulary}
use Rattle.sdf_tree.specs.Seen.{view_tok, written_name}
use Rattle.sdf_tree.proofs.ConditionsExact.{is_vocabulary}
use Rattle.sdf_terms.proofs.conditions.next_word.Goals as goal

pub returns-then-is_select : goal.returns-then-is_select
returns-then-is_select c = index_taken vocabulary is_vocabulary view_tok (map lexeme c.args.tokens.now) c.args.at c.args.unclosed c.args.phase c.in_ok-word.word c.in_ok-word.next (sym c.is_select.ensures ∙ c.if-is_select.true) (sym c.takes_index.ensures ∙ c.if-not-takes_index.false) c.in_ok-word.ensures

pub returns-in-Ok-None : goal.returns-in-Ok-None
returns-in-Ok-None c = no_word_stands vocabulary is_vocabulary view_tok (map lexeme c.args.tokens.now) c.args.at (Some (c.args.unclosed, c.args.phase)) (rw c.in-Ok-None.field-0-is at c.in-Ok-None.ensures) (sym c.is_select.ensures ∙ c.if-is_select.false)

pub returns-in-Some : goal.returns-in-Some
returns-in-Some c =
    let one = rw c.in-Ok-Some.field-0-is at c.in-Ok-Some.ensures in
    word_taken vocabulary is_vocabulary view_tok (map lexeme c.args.tokens.now) c.args.at c.args.unclosed c.args.phase c.in-Ok-Some.word (c.in-Some.unclosed_then, c.in-Some.then) one.0 one.1 (rw (kind_of_mapped written_name c.in-Ok-Some.word) (sym c.after.ensures ∙ c.in-Some.is))

pub returns-in-None : goal.returns-in-None
returns-in-None c =
    let one = rw c.in-Ok-Some.field-0-is at c.in-Ok-Some.ensures in
    word_refused vocabulary is_vocabulary view_tok (map lexeme c.args.tokens.now) c.args.at c.args.unclosed c.args.phase c.in-Ok-Some.word one.0 one.1 (rw (kind_of_mapped written_name c.in-Ok-Some.word) (sym c.after.ensures ∙ c.in-None.is))
