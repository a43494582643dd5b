-- What words are, and small texts read by computation.
use Rattle.std.proofs.Common.{◌≡◌, ℕ, true, false, List, [], ◌∷◌, Some, None, Ok, Err, refl}
use Rattle.std.specs.Prelude.{codes, pos, neg_ℤ}
use Rattle.grammar.specs.States.{read_by}
use Rattle.cond_expr.specs.declared.tokens.Op.TheVariants as op
use Rattle.cond_expr.specs.declared.tokens.Tok.TheVariants as tok
use Rattle.sg_logic.specs.declared.values.Value.TheVariants as value
use Rattle.sdf_lex.specs.Tokens.{Meaning, Lexeme, word_token, selected_token, select_token, operator_token, left_token, right_token, colon_token}
use Rattle.vl_token.specs.Constants.{low_bits}
use Rattle.sdf_tree.specs.declared.keywords.Keyword.TheVariants as word
use Rattle.sdf_tree.specs.declared.words.Divider.TheVariants.{Point, Slash}
use Rattle.sdf_tree.specs.Conditions.{condition_parts, condition}
use Rattle.sdf_tree.specs.Keywords.{keyword_of}
use Rattle.sdf_tree.specs.Values as values
use Rattle.sdf_tree.specs.Values.{number_parts, others_parts, numbers_parts, value_parts, delay_rest_parts, delay_parts, list_parts, port_parts}
use Rattle.sdf_tree.specs.Written.{Number}
use Rattle.sdf_lex.specs.Names.{is_name}
use Rattle.sdf_tree.specs.Words.{is_port_path, is_instance_path, constant_of, joined_power}

-- ---- words

either_case : keyword_of (codes "IoPath") ≡ Some word.IoPath
unfolding keyword_of
either_case = refl

no_word : keyword_of (codes "IOPATHS") ≡ None
unfolding keyword_of
no_word = refl

a_path : is_port_path Slash (codes "u1/CK") ≡ true
unfolding is_port_path
a_path = refl

other_divider : is_port_path Point (codes "u1/CK") ≡ false
unfolding is_port_path
other_divider = refl

empty_name : is_port_path Slash (codes "u1//CK") ≡ false
unfolding is_port_path
empty_name = refl

-- a backslash, and a divider behind it
escaped_divider : is_name (92 ∷ 47 ∷ codes "a") ≡ true
escaped_divider = refl

brackets_of_an_instance : is_instance_path Slash (codes "u[0]/v[1]") ≡ true
unfolding is_instance_path
brackets_of_an_instance = refl

brackets_before_a_port : is_port_path Slash (codes "g[0]/u/Y") ≡ true
unfolding is_port_path
brackets_before_a_port = refl

no_brackets_of_a_port : is_port_path Slash (codes "u/v[0]") ≡ false
unfolding is_port_path
no_brackets_of_a_port = refl

one_bit : constant_of (codes "1'b0") ≡ Some value.Zero
unfolding constant_of low_bits
one_bit = refl

zeros_before_a_width : constant_of (codes "01'b1") ≡ Some value.One
unfolding constant_of low_bits
zeros_before_a_width = refl

two_bits : constant_of (codes "02'b01") ≡ None
unfolding constant_of
two_bits = refl

no_constant : constant_of (codes "01") ≡ None
unfolding constant_of
no_constant = refl

in_one_word : joined_power (codes "10ps") ≡ Some (neg_ℤ (pos 11))
in_one_word = refl

-- ---- values

abbrev token : Meaning → Lexeme
token m = record { meaning = m; place = record { file = 0; byte = 0 } }

abbrev number : List ℕ → Number
number text = record { place = record { file = 0; byte = 0 }; text = text }

abbrev left : Lexeme
left = token left_token

abbrev right : Lexeme
right = token right_token

abbrev word_of : List ℕ → Lexeme
word_of text = token (word_token text)

-- ( 1 : 2 : 3 )
three_corners : values.value.read (left ∷ word_of (codes "1") ∷ token colon_token ∷ word_of (codes "2") ∷ token colon_token ∷ word_of (codes "3") ∷ right ∷ []) 0
    ≡ Ok (record { min = Some (number (codes "1")); typ = Some (number (codes "2")); max = Some (number (codes "3")) }, 7)
unfolding value_parts numbers_parts others_parts number_parts keyword_of
three_corners = refl

-- ( )
no_value : values.value.read (left ∷ right ∷ []) 0 ≡ Ok (values.no_value, 2)
unfolding value_parts
no_value = refl

-- four values and a parenthesis: it fails there, where lists of any length go on
abbrev four : List Lexeme
four = left ∷ right ∷ left ∷ right ∷ left ∷ right ∷ left ∷ right ∷ right ∷ []

four_values : (values.list true).read four 0 ≡ Err 8
unfolding list_parts delay_parts delay_rest_parts read_by
four_values = refl

-- \S == 01'b1 up to a parenthesis, and \S is called S
abbrev name_and_constant : List Lexeme
name_and_constant = word_of (92 ∷ codes "S") ∷ token (operator_token op.Equal) ∷ word_of (codes "01'b1") ∷ left ∷ []

a_condition : condition.read name_and_constant 0 ≡ Ok (tok.Name (codes "S") ∷ tok.Op op.Equal ∷ tok.Const value.One ∷ [], 3)
unfolding condition_parts constant_of keyword_of low_bits read_by
a_condition = refl

-- a path and a bit of it
a_bit : (values.port Slash).read (token (selected_token (codes "u1/D[2]") (codes "u1/D")) ∷ token (select_token (pos 2)) ∷ right ∷ []) 0 ≡ Ok (record { path = codes "u1/D"; bit = Some (pos 2) }, 2)
unfolding port_parts is_port_path
a_bit = refl
