-- The grammar of names, ranges, expressions and delays (IEEE 1364-2005, annex A: A.2.2.3, A.2.5, A.8 and A.9.3).
use Rattle.std.specs.Prelude.{ℕ, zero, suc, ℤ, pos, neg_ℤ, Bool, ◌||◌, List, [], ◌∷◌, Option, Some, None}
use Rattle.sg_time.specs.Spelling.{Number}
use Rattle.grammar.specs.Rule.{◌∙∙◌, ◌▸◌, ◌◂◌, one, mapped, named, no_kind, nothing}
use Rattle.grammar.specs.Stated.{forked}
use Rattle.vl_token.specs.declared.symbols.Symbol.TheVariants.{Comma, Colon, Hash, Minus, LeftBracket, RightBracket, LeftBrace, RightBrace, LeftParen, RightParen}
use Rattle.vl_tree.specs.declared.expressions.Select.{Select}
use Rattle.vl_tree.specs.declared.expressions.Select.TheVariants.{Bit, Part}
use Rattle.vl_tree.specs.declared.names.Range.{Range}
use Rattle.vl_tree.specs.Kinds.{Kind, kind_of, is_name, is_number, is_whole, is_sized, is_symbol, text_of, number_of, bits_of}
use Rattle.vl_tree.specs.Rules.{Grammar, mark, placed, either, optional, listed}
use Rattle.vl_tree.specs.Tree.{Named, Expression, signal, sized, concatenation, expressions, MinTypMax, one_number, three_numbers, Delay}

-- name
unfoldable pub name_parts : Grammar Named
name_parts = mapped (λ t. record { text = text_of t.meaning; place = t.place }) (one kind_of is_name)

abbrev pub name : Grammar Named
name = named is_name no_kind name_parts

-- names = name { "," name }
unfoldable pub names_parts : Grammar (List Named)
names_parts = listed name

abbrev pub names : Grammar (List Named)
names = named is_name (is_symbol Comma) names_parts

-- int = [ "-" ] whole
abbrev pub signed : Option (Unit {0}) → ℕ → ℤ
signed None n = pos n
signed (Some minus) n = neg_ℤ (pos n)

abbrev pub whole : Grammar ℕ
whole = mapped (λ t. (number_of t.meaning).digits) (one kind_of is_whole)

unfoldable pub int_parts : Grammar ℤ
int_parts = mapped (λ x. signed x.0 x.1) (optional (mark Minus) ∙∙ whole)

abbrev pub int_starts : Kind → Bool
int_starts k = is_symbol Minus k || is_whole k

abbrev pub int : Grammar ℤ
int = named int_starts no_kind int_parts

-- range = "[" int ":" int "]"
unfoldable pub range_parts : Grammar Range
range_parts = mapped (λ x. record { place = x.0; left = x.1.0; right = x.1.1 }) (placed (mark LeftBracket ▸ (int ∙∙ (mark Colon ▸ (int ◂ mark RightBracket)))))

abbrev pub range : Grammar Range
range = named (is_symbol LeftBracket) no_kind range_parts

-- select = "[" int "]" | "[" int ":" int "]"
unfoldable pub select_parts : Grammar Select
select_parts = forked kind_of (λ x. Bit x.0) (λ x. Part x.0 x.1) (mark LeftBracket ▸ int) (mark RightBracket) (mark Colon ▸ (int ◂ mark RightBracket))

abbrev pub select : Grammar Select
select = named (is_symbol LeftBracket) no_kind select_parts

-- name [ select ]
unfoldable pub signal_parts : Grammar Expression
signal_parts = mapped (λ x. signal x.0 x.1) (name ∙∙ optional select)

abbrev pub signal_rule : Grammar Expression
signal_rule = named is_name (is_symbol LeftBracket) signal_parts

-- sized
unfoldable pub sized_parts : Grammar Expression
sized_parts = mapped (λ t. sized t.place (bits_of t.meaning)) (one kind_of is_sized)

abbrev pub sized_rule : Grammar Expression
sized_rule = named is_sized no_kind sized_parts

-- expr = name [ select ] | sized | "{" expr { "," expr } "}", with braces at most d deep
abbrev pub expression_starts : Kind → Bool
expression_starts k = is_name k || (is_sized k || is_symbol LeftBrace k)

unfoldable pub expression_parts : ℕ → Grammar Expression
expression_parts zero = either signal_rule (either sized_rule nothing)
expression_parts (suc d) =
    let part = named expression_starts (is_symbol LeftBracket) (expression_parts d) in
    either signal_rule (either sized_rule (either (mapped (λ x. concatenation x.0 (expressions x.1)) (placed (mark LeftBrace ▸ (listed part ◂ mark RightBrace)))) nothing))

abbrev pub expression_to : ℕ → Grammar Expression
expression_to d = named expression_starts (is_symbol LeftBracket) (expression_parts d)

-- braces nest at most so deep
abbrev pub max_braces : ℕ
max_braces = 64

abbrev pub expression : Grammar Expression
expression = expression_to max_braces

-- number
unfoldable pub number_parts : Grammar Number
number_parts = mapped (λ t. number_of t.meaning) (one kind_of is_number)

abbrev pub number : Grammar Number
number = named is_number no_kind number_parts

-- mtm = number [ ":" number ":" number ]
abbrev pub mtm_of : Number → Option (Number × Number) → MinTypMax
mtm_of n None = one_number n
mtm_of n (Some p) = three_numbers n p.0 p.1

unfoldable pub mtm_parts : Grammar MinTypMax
mtm_parts = mapped (λ x. mtm_of x.0 x.1) (number ∙∙ optional (mark Colon ▸ (number ∙∙ (mark Colon ▸ number))))

abbrev pub mtm : Grammar MinTypMax
mtm = named is_number (is_symbol Colon) mtm_parts

-- mtm [ "," mtm [ "," mtm ] ]
abbrev pub mtms_of : MinTypMax → Option (MinTypMax × Option MinTypMax) → List MinTypMax
mtms_of a None = a ∷ []
mtms_of a (Some (b, None)) = a ∷ b ∷ []
mtms_of a (Some (b, Some c)) = a ∷ b ∷ c ∷ []

unfoldable pub mtms_parts : Grammar (List MinTypMax)
mtms_parts = mapped (λ x. mtms_of x.0 x.1) (mtm ∙∙ optional (mark Comma ▸ (mtm ∙∙ optional (mark Comma ▸ mtm))))

abbrev pub mtms_continues : Kind → Bool
mtms_continues k = is_symbol Colon k || is_symbol Comma k

abbrev pub mtms : Grammar (List MinTypMax)
mtms = named is_number mtms_continues mtms_parts

-- delay = "#" number | "#" "(" mtm [ "," mtm [ "," mtm ] ] ")"
unfoldable pub delay_parts : Grammar Delay
delay_parts =
    mapped (λ x. record { place = x.0; values = x.1 })
    (placed (forked kind_of (λ x. one_number x.1 ∷ []) (λ x. x.1) (mark Hash) number (mark LeftParen ▸ (mtms ◂ mark RightParen))))

abbrev pub delay : Grammar Delay
delay = named (is_symbol Hash) no_kind delay_parts
