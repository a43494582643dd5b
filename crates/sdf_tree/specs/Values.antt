-- The grammar of values and of lists of delays (IEEE 1497-2001, annex A), of ports, and of tokens that are passed over.
use Rattle.std.specs.Prelude.{ℕ, suc, ◌-◌, Bool, ◌||◌, ◌&&◌, not, nat_lt, ◌==◌, List, Option, Some, None}
use Rattle.grammar.specs.Rule.{◌∙∙◌, ◌▸◌, ◌◂◌, mapped, named, no_kind, one, only_if}
use Rattle.grammar.specs.States.{many_by}
use Rattle.sdf_lex.specs.Tokens.{Lexeme}
use Rattle.sdf_tree.specs.declared.tree.Edge.{Edge}
use Rattle.sdf_tree.specs.declared.tree.Edge.TheVariants as edge
use Rattle.sdf_tree.specs.declared.words.Divider.{Divider}
use Rattle.sdf_tree.specs.Kinds.{Kind, kind_of, is_left, is_right, is_colon, is_text, is_select, is_number, is_port, is_plain, is_any_word, is_word_that, edge_of, names, text_of, word_text, port_path, select_of}
use Rattle.sdf_tree.specs.Rules.{Grammar, token, mark, placed, either, optional}
use Rattle.sdf_tree.specs.Written.{Number, Value, Limits, Delay, Port}
use Rattle.std.specs.Prelude.{is_some, if◌then◌else◌}

-- text
unfoldable pub text_parts : Grammar (List ℕ)
text_parts = token (λ t. text_of t.meaning) is_text

abbrev pub text : Grammar (List ℕ)
text = named is_text no_kind text_parts

-- number: a word that begins like one. A bit select at its end belongs to the word.
abbrev pub number_word : Grammar Number
number_word = token (λ t. record { place = t.place; text = word_text t.meaning }) is_number

unfoldable pub number_parts : Grammar Number
number_parts = number_word ◂ optional (mark is_select)

abbrev pub number : Grammar Number
number = named is_number is_select number_parts

-- ---- values

abbrev pub no_value : Value
no_value = record { min = None; typ = None; max = None }

-- a number stands for all corners, unless others follow
abbrev pub value_of : Number → Option (Option Number × Option Number) → Value
value_of n None = record { min = Some n; typ = Some n; max = Some n }
value_of n (Some rest) = record { min = Some n; typ = rest.0; max = rest.1 }

abbrev pub value_or_none : Option Value → Value
value_or_none None = no_value
value_or_none (Some v) = v

-- others = ":" [ number ] ":" [ number ]
unfoldable pub others_parts : Grammar (Option Number × Option Number)
others_parts = mark is_colon ▸ (optional number ∙∙ (mark is_colon ▸ optional number))

abbrev pub numbers_continue : Kind → Bool
numbers_continue k = is_any_word k || (is_select k || is_colon k)

abbrev pub others : Grammar (Option Number × Option Number)
others = named is_colon numbers_continue others_parts

-- numbers = number [ others ] | others
unfoldable pub numbers_parts : Grammar Value
numbers_parts = either (mapped (λ x. value_of x.0 x.1) (number ∙∙ optional others)) (mapped (λ x. record { min = None; typ = x.0; max = x.1 }) others)

abbrev pub numbers_starts : Kind → Bool
numbers_starts k = is_number k || is_colon k

abbrev pub numbers : Grammar Value
numbers = named numbers_starts numbers_continue numbers_parts

-- value = "(" [ numbers ] ")"
unfoldable pub value_parts : Grammar Value
value_parts = mapped value_or_none (mark is_left ▸ (optional numbers ◂ mark is_right))

abbrev pub value : Grammar Value
value = named is_left no_kind value_parts

-- ---- delays

-- Behind the parenthesis of a delay: value value [ value ] ")" | [ numbers ] ")"
abbrev pub limits_of : Value → Option Value → Limits
limits_of reject error = record { reject = reject; error = error }

unfoldable pub delay_rest_parts : Grammar (Value × Option Limits)
delay_rest_parts =
    either (mapped (λ x. (x.0, Some (limits_of x.1.0 x.1.1))) (value ∙∙ (value ∙∙ (optional value ◂ mark is_right))))
    (mapped (λ v. (value_or_none v, None)) (optional numbers ◂ mark is_right))

abbrev pub delay_rest_starts : Kind → Bool
delay_rest_starts k = is_left k || (numbers_starts k || is_right k)

abbrev pub delay_rest : Grammar (Value × Option Limits)
delay_rest = named delay_rest_starts no_kind delay_rest_parts

-- delay = "(" value value [ value ] ")" | value
unfoldable pub delay_parts : Grammar Delay
delay_parts = mapped (λ x. record { place = x.0; delay = x.1.0; limits = x.1.1 }) (placed (mark is_left ▸ delay_rest))

abbrev pub delay : Grammar Delay
delay = named is_left no_kind delay_parts

-- 1, 2, 3, 6 or 12 of them; any number where that isn't limited
abbrev pub is_delay_count : ℕ → Bool
is_delay_count n = (n == 1) || ((n == 2) || ((n == 3) || ((n == 6) || (n == 12))))

abbrev pub may_end : (limited : Bool) → ℕ → Bool
may_end limited n = not (n == 0) && (not limited || is_delay_count n)

abbrev pub may_come : (limited : Bool) → ℕ → Bool
may_come limited n = not limited || nat_lt n 12

-- list = delay { delay }, of such a number
unfoldable pub list_parts : Bool → Grammar (List Delay)
list_parts limited = many_by kind_of is_left (λ n. only_if (may_come limited n) delay) (λ n _. suc n) (may_end limited) 0

abbrev pub list : Bool → Grammar (List Delay)
list limited = named is_left is_left (list_parts limited)

-- ---- ports

-- port = names with the divider between [ select ]
unfoldable pub port_parts : Divider → Grammar Port
port_parts divider = mapped (λ x. record { path = x.0; bit = x.1 }) (token (λ t. port_path t.meaning) (is_port divider) ∙∙ optional (token (λ t. select_of t.meaning) is_select))

abbrev pub port : Divider → Grammar Port
port divider = named (is_port divider) is_select (port_parts divider)

-- edge: posedge, negedge, 01, 10, 0z, z1, 1z or z0
abbrev pub is_edge : Kind → Bool
is_edge = is_word_that (λ w. is_some (edge_of w))

unfoldable pub edge_parts : Grammar Edge
edge_parts = token (λ t. names edge_of edge.Posedge t.meaning) is_edge

abbrev pub edge_word : Grammar Edge
edge_word = named is_edge no_kind edge_parts

-- ---- what is passed over

-- a token among paired parentheses, of which so many are open
abbrev pub is_inside : ℕ → Kind → Bool
is_inside unclosed k = is_plain k || (is_left k || (not (unclosed == 0) && is_right k))

-- how many are open after a token
abbrev pub unclosed_after : ℕ → Lexeme → ℕ
unclosed_after unclosed t = if is_left (kind_of t) then suc unclosed else if is_right (kind_of t) then unclosed - 1 else unclosed

-- balanced: any tokens with paired parentheses
abbrev pub balanced_continue : Kind → Bool
balanced_continue k = is_plain k || is_left k

unfoldable pub balanced_parts : Grammar (List Lexeme)
balanced_parts = many_by kind_of balanced_continue (λ n. one kind_of (is_inside n)) unclosed_after (λ n. n == 0) 0

abbrev pub balanced : Grammar (Unit {0})
balanced = mapped (λ _. tt) balanced_parts
