-- The rules of values, lists, ports, conditions and tokens that are passed over are movable.
use Rattle.std.proofs.Common.{suc, Bool}
use Rattle.std.specs.Prelude.{◌==◌}
use Rattle.grammar.specs.Rule.{only_if, one}
use Rattle.cond_expr.specs.Vocabulary.{any_word, is_word}
use Rattle.sdf_tree.specs.declared.words.Divider.{Divider}
use Rattle.sdf_tree.specs.Conditions.{vocabulary, condition_parts, condition}
use Rattle.sdf_tree.specs.Kinds.{kind_of, is_left, is_right, is_colon, is_text, is_select, is_number, is_port}
use Rattle.sdf_tree.specs.Values.{text_parts, text, number_parts, number, others_parts, others, numbers_parts, numbers, value_parts, value, delay_rest_parts, delay_rest, delay_parts, delay, may_end, may_come, list_parts, list, port_parts, port, is_edge, edge_parts, edge_word, is_inside, unclosed_after, balanced_continue, balanced_parts, balanced}
use Rattle.sdf_windows.specs.Movable.{Moves}
use Rattle.sdf_windows.proofs.Movable as moves
use Rattle.sdf_windows.proofs.Building.{the_token, the_mark, then, made, behind, before, called, with_place, or, perhaps, where_so, by_state}

pub text_moves : Moves text
unfolding text_parts
text_moves = called _ _ (the_token _ is_text)

pub number_moves : Moves number
unfolding number_parts
number_moves = called _ _ (before (the_token _ is_number) (perhaps (the_mark is_select)))

pub others_moves : Moves others
unfolding others_parts
others_moves =
    let maybe = perhaps number_moves in
    called _ _ (behind (the_mark is_colon) (then maybe (behind (the_mark is_colon) maybe)))

pub numbers_moves : Moves numbers
unfolding numbers_parts
numbers_moves = called _ _ (or (made _ (then number_moves (perhaps others_moves))) (made _ others_moves))

pub value_moves : Moves value
unfolding value_parts
value_moves = called _ _ (made _ (behind (the_mark is_left) (before (perhaps numbers_moves) (the_mark is_right))))

-- ---- delays

pub delay_rest_moves : Moves delay_rest
unfolding delay_rest_parts
delay_rest_moves =
    let error = before (perhaps value_moves) (the_mark is_right) in
    let with_limits = then value_moves (then value_moves error) in
    called _ _ (or (made _ with_limits) (made _ (before (perhaps numbers_moves) (the_mark is_right))))

pub delay_moves : Moves delay
unfolding delay_parts
delay_moves = called _ _ (made _ (with_place (behind (the_mark is_left) delay_rest_moves)))

pub list_moves : (limited : Bool) → Moves (list limited)
unfolding list_parts
list_moves limited = called _ _ (by_state is_left (λ n. only_if (may_come limited n) delay) (λ n _. suc n) (may_end limited) (λ n. where_so (may_come limited n) delay_moves) 0)

-- ---- ports

pub port_moves : (divider : Divider) → Moves (port divider)
unfolding port_parts
port_moves divider = called _ _ (made _ (then (the_token _ (is_port divider)) (perhaps (the_token _ is_select))))

pub edge_word_moves : Moves edge_word
unfolding edge_parts
edge_word_moves = called _ _ (the_token _ is_edge)

-- ---- conditions

word_moves : Moves (any_word vocabulary)
word_moves = or (the_token vocabulary.word (is_word vocabulary)) (the_token _ is_select)

pub condition_moves : Moves condition
unfolding condition_parts
condition_moves = record { movable = record { moved = λ front ts i xs j s. ((moves.repetition_moves word_moves.movable).moved front ts i xs j s.0, s.1) } }

-- ---- what is passed over

pub balanced_moves : Moves balanced
unfolding balanced_parts
balanced_moves = made _ (by_state balanced_continue (λ n. one kind_of (is_inside n)) unclosed_after (λ n. n == 0) (λ n. record { movable = moves.token_moves (λ t. is_inside n (kind_of t)) }) 0)
