-- The grammar of the timing checks of cells (IEEE 1497-2001, annex A).
use Rattle.std.specs.Prelude.{Bool, ◌||◌, not, List, Some, is_some}
use Rattle.cond_expr.specs.Token.{Tok}
use Rattle.grammar.specs.Rule.{◌∙∙◌, ◌▸◌, ◌◂◌, mapped, named, no_kind}
use Rattle.sdf_tree.specs.declared.keywords.Keyword.TheVariants as keyword
use Rattle.sdf_tree.specs.declared.tree.PairCheck.TheVariants as pair
use Rattle.sdf_tree.specs.declared.tree.SingleCheck.TheVariants as single
use Rattle.sdf_tree.specs.declared.tree.Skipped.TheVariants as skipped
use Rattle.sdf_tree.specs.declared.tree.WindowCheck.TheVariants as window
use Rattle.sdf_tree.specs.declared.words.Divider.{Divider}
use Rattle.sdf_tree.specs.Entries.{spec, cond, plain_terminal, edge_terminal}
use Rattle.sdf_tree.specs.Kinds.{Kind, is_left, is_right, is_port, is_select, is_word, is_word_that, pair_of, window_of, single_of, skipped_check_of, names}
use Rattle.sdf_tree.specs.Rules.{Grammar, token, mark, placed, either}
use Rattle.sdf_tree.specs.Values.{value, port, edge_word, is_edge, balanced}
use Rattle.sdf_tree.specs.Written.{Terminal, Value, CheckBody, pair_check, window_check, single_check, skipped_check, Check}

-- ---- terminals

abbrev pub conditional_terminal : List Tok × Terminal → Terminal
conditional_terminal x = record { condition = Some x.0; edge = x.1.edge; port = x.1.port }

-- behind the parenthesis of a terminal: edge port ")" | COND [ text ] condition spec ")"
unfoldable pub terminal_rest_parts : Divider → Grammar Terminal
terminal_rest_parts divider =
    either (mapped edge_terminal (edge_word ∙∙ (port divider ◂ mark is_right))) (mapped conditional_terminal (cond ∙∙ (spec divider ◂ mark is_right)))

abbrev pub terminal_rest_starts : Kind → Bool
terminal_rest_starts k = is_edge k || is_word keyword.Cond k

abbrev pub terminal_rest : Divider → Grammar Terminal
terminal_rest divider = named terminal_rest_starts no_kind (terminal_rest_parts divider)

-- terminal = port | "(" edge port ")" | "(" COND [ text ] condition spec ")"
unfoldable pub terminal_parts : Divider → Grammar Terminal
terminal_parts divider = either (mapped plain_terminal (port divider)) (mark is_left ▸ terminal_rest divider)

abbrev pub terminal_starts : Divider → Kind → Bool
terminal_starts divider k = is_port divider k || is_left k

abbrev pub terminal : Divider → Grammar Terminal
terminal divider = named (terminal_starts divider) is_select (terminal_parts divider)

-- ---- checks

abbrev pub is_pair : Kind → Bool
is_pair = is_word_that (λ w. is_some (pair_of w))

abbrev pub is_window : Kind → Bool
is_window = is_word_that (λ w. is_some (window_of w))

abbrev pub is_single : Kind → Bool
is_single = is_word_that (λ w. is_some (single_of w))

abbrev pub is_skipped_check : Kind → Bool
is_skipped_check = is_word_that (λ w. is_some (skipped_check_of w))

abbrev pub TwoTerminals : Type 0
TwoTerminals = Terminal × (Terminal × Value)

-- terminal terminal value
unfoldable pub two_terminals_parts : Divider → Grammar TwoTerminals
two_terminals_parts divider = terminal divider ∙∙ (terminal divider ∙∙ value)

abbrev pub two_terminals : Divider → Grammar TwoTerminals
two_terminals divider = named (terminal_starts divider) no_kind (two_terminals_parts divider)

-- check-body = (SETUP | HOLD | RECOVERY | REMOVAL | SKEW) terminal terminal value | (SETUPHOLD | RECREM) terminal terminal value value
--     | (WIDTH | PERIOD) terminal value | (BIDIRECTSKEW | NOCHANGE) balanced
unfoldable pub check_body_parts : Divider → Grammar CheckBody
check_body_parts divider =
    either (mapped (λ x. pair_check x.0 x.1.0 x.1.1.0 x.1.1.1) (token (λ t. names pair_of pair.Setup t.meaning) is_pair ∙∙ two_terminals divider))
    (either (mapped (λ x. window_check x.0 x.1.0.0 x.1.0.1.0 x.1.0.1.1 x.1.1) (token (λ t. names window_of window.SetupHold t.meaning) is_window ∙∙ (two_terminals divider ∙∙ value)))
    (either (mapped (λ x. single_check x.0 x.1.0 x.1.1) (token (λ t. names single_of single.Width t.meaning) is_single ∙∙ (terminal divider ∙∙ value)))
    (mapped skipped_check (token (λ t. names skipped_check_of skipped.NoChange t.meaning) is_skipped_check ◂ balanced))))

abbrev pub check_starts : Kind → Bool
check_starts k = is_pair k || (is_window k || (is_single k || is_skipped_check k))

abbrev pub check_continues : Kind → Bool
check_continues k = not (is_right k)

abbrev pub check_body : Divider → Grammar CheckBody
check_body divider = named check_starts check_continues (check_body_parts divider)

-- check = "(" check-body ")"
unfoldable pub check_parts : Divider → Grammar Check
check_parts divider = mapped (λ x. record { place = x.0; body = x.1 }) (placed (mark is_left ▸ (check_body divider ◂ mark is_right)))

abbrev pub check : Divider → Grammar Check
check divider = named is_left no_kind (check_parts divider)
