-- The grammar of the numbers of specify blocks: amounts, lists of delays, limits and specparams (IEEE 1364-2005, 4.10.3, 14.3,
-- 14.6.1 and 15.1).
use Rattle.std.specs.Prelude.{ℕ, suc, Bool, ◌||◌, not, nat_lt, ◌==◌, List, [], ◌∷◌, Option, Some, None}
use Rattle.grammar.specs.Rule.{◌∙∙◌, ◌▸◌, ◌◂◌, one, mapped, named, no_kind, only_if}
use Rattle.grammar.specs.States.{many_by}
use Rattle.vl_token.specs.declared.symbols.Symbol.TheVariants.{Comma, Colon, Minus, Assign, LeftParen, RightParen}
use Rattle.vl_tree.specs.Expressions.{name, mtm}
use Rattle.vl_tree.specs.Kinds.{Kind, kind_of, is_name, is_pulse_name, is_number, is_symbol, text_of, number_of}
use Rattle.vl_tree.specs.Primitives.{is_there}
use Rattle.vl_tree.specs.Rules.{Grammar, mark, either, optional}
use Rattle.vl_tree.specs.Tree.{Named, Amount, a_number, a_parameter, Amounts, one_amount, three_amounts, SignedAmount, Limit, one_limit, three_limits, Specparam, a_value, pulse_limits}

-- amount = number | name
unfoldable pub amount_parts : Grammar Amount
amount_parts = either (mapped (λ t. a_number t.place (number_of t.meaning)) (one kind_of is_number)) (mapped a_parameter name)

abbrev pub amount_starts : Kind → Bool
amount_starts k = is_number k || is_name k

abbrev pub amount : Grammar Amount
amount = named amount_starts no_kind amount_parts

-- amounts = amount [ ":" amount ":" amount ]
abbrev pub amounts_of : Amount → Option (Amount × Amount) → Amounts
amounts_of a None = one_amount a
amounts_of a (Some p) = three_amounts a p.0 p.1

unfoldable pub amounts_parts : Grammar Amounts
amounts_parts = mapped (λ x. amounts_of x.0 x.1) (amount ∙∙ optional (mark Colon ▸ (amount ∙∙ (mark Colon ▸ amount))))

abbrev pub amounts : Grammar Amounts
amounts = named amount_starts (is_symbol Colon) amounts_parts

-- ---- lists of delays

-- path-delay = amounts | "(" amounts ")"
unfoldable pub path_delay_parts : Grammar Amounts
path_delay_parts = either amounts (mark LeftParen ▸ (amounts ◂ mark RightParen))

abbrev pub path_delay_starts : Kind → Bool
path_delay_starts k = is_symbol LeftParen k || amount_starts k

abbrev pub path_delay : Grammar Amounts
path_delay = named path_delay_starts (is_symbol Colon) path_delay_parts

-- 1, 2, 3, 6 or 12 (IEEE 1364-2005, 14.3.1); any number where that isn't limited
abbrev pub is_delay_count : ℕ → Bool
is_delay_count n = (n == 1) || ((n == 2) || ((n == 3) || ((n == 6) || (n == 12))))

abbrev pub may_close : Bool → ℕ → Bool
may_close limited n = not limited || is_delay_count n

-- another delay behind n of them
abbrev pub next_delay : Bool → ℕ → Grammar Amounts
next_delay limited n = only_if (not limited || nat_lt n 12) (mark Comma ▸ path_delay)

abbrev pub delays_continue : Kind → Bool
delays_continue k = is_symbol Comma k || is_symbol Colon k

abbrev pub more_delays : Bool → Grammar (List Amounts)
more_delays limited = many_by kind_of delays_continue (next_delay limited) (λ n _. suc n) (may_close limited) 1

-- delays = amounts | "(" path-delay { "," path-delay } ")", of such a number
unfoldable pub delays_parts : Bool → Grammar (List Amounts)
delays_parts limited = either (mapped (λ a. a ∷ []) amounts) (mark LeftParen ▸ (mapped (λ x. x.0 ∷ x.1) (path_delay ∙∙ more_delays limited) ◂ mark RightParen))

abbrev pub delays : Bool → Grammar (List Amounts)
delays limited = named path_delay_starts (is_symbol Colon) (delays_parts limited)

-- ---- limits

-- limit-amount = [ "-" ] amount, the sign where signs are allowed
unfoldable pub signed_amount_parts : Bool → Grammar SignedAmount
signed_amount_parts signs = mapped (λ x. record { negative = is_there x.0; amount = x.1 }) (optional (only_if signs (mark Minus)) ∙∙ amount)

abbrev pub signed_amount_starts : Kind → Bool
signed_amount_starts k = is_symbol Minus k || amount_starts k

abbrev pub signed_amount : Bool → Grammar SignedAmount
signed_amount signs = named signed_amount_starts no_kind (signed_amount_parts signs)

-- plain-limit = limit-amount [ ":" limit-amount ":" limit-amount ]
abbrev pub limit_of : SignedAmount → Option (SignedAmount × SignedAmount) → Limit
limit_of a None = one_limit a
limit_of a (Some p) = three_limits a p.0 p.1

unfoldable pub plain_limit_parts : Bool → Grammar Limit
plain_limit_parts signs = mapped (λ x. limit_of x.0 x.1) (signed_amount signs ∙∙ optional (mark Colon ▸ (signed_amount signs ∙∙ (mark Colon ▸ signed_amount signs))))

abbrev pub plain_limit : Bool → Grammar Limit
plain_limit signs = named signed_amount_starts (is_symbol Colon) (plain_limit_parts signs)

-- limit = plain-limit | "(" plain-limit ")"
unfoldable pub limit_parts : Bool → Grammar Limit
limit_parts signs = either (plain_limit signs) (mark LeftParen ▸ (plain_limit signs ◂ mark RightParen))

abbrev pub limit_starts : Kind → Bool
limit_starts k = is_symbol LeftParen k || signed_amount_starts k

abbrev pub limit : Bool → Grammar Limit
limit signs = named limit_starts (is_symbol Colon) (limit_parts signs)

-- ---- specparams

-- a name of pulse limits
unfoldable pub pulse_name_parts : Grammar Named
pulse_name_parts = mapped (λ t. record { text = text_of t.meaning; place = t.place }) (one kind_of is_pulse_name)

abbrev pub pulse_name : Grammar Named
pulse_name = named is_pulse_name no_kind pulse_name_parts

-- specparam = name "=" mtm | pulse-name "=" "(" mtm [ "," mtm ] ")"
unfoldable pub specparam_parts : Grammar Specparam
specparam_parts =
    either (mapped (λ x. a_value x.0 x.1) (name ∙∙ (mark Assign ▸ mtm)))
    (mapped (λ x. pulse_limits x.0 x.1.0 x.1.1) (pulse_name ∙∙ (mark Assign ▸ (mark LeftParen ▸ (mtm ∙∙ (optional (mark Comma ▸ mtm) ◂ mark RightParen))))))

abbrev pub specparam_starts : Kind → Bool
specparam_starts k = is_name k || is_pulse_name k

abbrev pub specparam : Grammar Specparam
specparam = named specparam_starts (is_symbol Colon) specparam_parts
