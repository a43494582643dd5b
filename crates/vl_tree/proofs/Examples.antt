-- Small texts that the rules spell, and where others fail.
use Rattle.std.proofs.Common.{ℕ, [], ◌∷◌, None, refl, true, false}
use Rattle.std.specs.Prelude.{pos, negsuc}
use Rattle.sg_text.specs.declared.places.Place.{Place}
use Rattle.grammar.specs.Reads.{FailsAt}
use Rattle.grammar.specs.Rule.{read_up_to}
use Rattle.grammar.proofs.Laws.{all_found, all_failed}
use Rattle.vl_token.specs.declared.symbols.Symbol.{Symbol}
use Rattle.vl_token.specs.declared.symbols.Symbol.TheVariants.{Colon, Comma, Minus, LeftBracket, RightBracket, LeftParen, RightParen}
use Rattle.vl_token.specs.Tokens.{Lexeme, Meaning, symbol_token, number_token, byte_token}
use Rattle.vl_tree.specs.Expressions.{int_parts, range_parts, range}
use Rattle.vl_tree.specs.Items.{connections_parts, instance_parts, instance}
use Rattle.vl_tree.specs.Kinds.{kind_of}
use Rattle.vl_tree.specs.Primitives.{symbol_parts, cell_parts, cells_parts, row_parts, row, cell_of, row_of}
use Rattle.vl_tree.specs.Tree.{by_order}
use Rattle.vl_tree.proofs.ExpressionsExact.{range-exact}
use Rattle.vl_tree.proofs.ItemsExact.{instance-exact}
use Rattle.vl_tree.proofs.PrimitivesExact.{row-exact}

abbrev here : Place
here = record { file = 0; byte = 7 }

abbrev at_seven : Meaning → Lexeme
at_seven m = record { meaning = m; place = here }

abbrev mark_token : Symbol → Lexeme
mark_token s = at_seven (symbol_token s)

abbrev number_there : ℕ → Lexeme
number_there n = at_seven (number_token (record { negative = false; digits = n; exponent = pos 0 }) true)

abbrev byte_there : ℕ → Lexeme
byte_there b = at_seven (byte_token b)

-- [3:-1]
a_range : range.language.Spells (mark_token LeftBracket ∷ number_there 3 ∷ mark_token Colon ∷ mark_token Minus ∷ number_there 1 ∷ mark_token RightBracket ∷ []) 0 (record { place = here; left = pos 3; right = negsuc 0 }) 6
unfolding range_parts int_parts
a_range = all_found kind_of range range-exact (mark_token LeftBracket ∷ number_there 3 ∷ mark_token Colon ∷ mark_token Minus ∷ number_there 1 ∷ mark_token RightBracket ∷ []) (record { place = here; left = pos 3; right = negsuc 0 }) refl

-- [3] is no range: its bracket fails
no_range : FailsAt range.language (mark_token LeftBracket ∷ number_there 3 ∷ mark_token RightBracket ∷ []) 2
unfolding range_parts int_parts
no_range = all_failed kind_of range range-exact (mark_token LeftBracket ∷ number_there 3 ∷ mark_token RightBracket ∷ []) 2 refl

-- () has no connection
no_connection : instance.language.Spells (mark_token LeftParen ∷ mark_token RightParen ∷ []) 0 (record { place = here; name = None; connections = by_order [] }) 2
unfolding instance_parts connections_parts
no_connection = all_found kind_of instance instance-exact (mark_token LeftParen ∷ mark_token RightParen ∷ []) (record { place = here; name = None; connections = by_order [] }) refl

-- (,) has two that are empty
two_empty : instance.language.Spells (mark_token LeftParen ∷ mark_token Comma ∷ mark_token RightParen ∷ []) 0 (record { place = here; name = None; connections = by_order (None ∷ None ∷ []) }) 3
unfolding instance_parts connections_parts read_up_to
two_empty = all_found kind_of instance instance-exact (mark_token LeftParen ∷ mark_token Comma ∷ mark_token RightParen ∷ []) (record { place = here; name = None; connections = by_order (None ∷ None ∷ []) }) refl

-- (01) 1 : 0 ;
a_row : row.language.Spells (byte_there 40 ∷ byte_there 48 ∷ byte_there 49 ∷ byte_there 41 ∷ byte_there 49 ∷ byte_there 58 ∷ byte_there 48 ∷ byte_there 59 ∷ []) 0 (row_of here (cell_of 48 49 ∷ cell_of 49 0 ∷ []) None (cell_of 48 0)) 8
unfolding row_parts cells_parts cell_parts symbol_parts read_up_to
a_row = all_found kind_of row row-exact (byte_there 40 ∷ byte_there 48 ∷ byte_there 49 ∷ byte_there 41 ∷ byte_there 49 ∷ byte_there 58 ∷ byte_there 48 ∷ byte_there 59 ∷ []) (row_of here (cell_of 48 49 ∷ cell_of 49 0 ∷ []) None (cell_of 48 0)) refl

-- a row without cells fails at its colon
no_row : FailsAt row.language (byte_there 58 ∷ byte_there 48 ∷ byte_there 59 ∷ []) 0
unfolding row_parts cells_parts cell_parts symbol_parts
no_row = all_failed kind_of row row-exact (byte_there 58 ∷ byte_there 48 ∷ byte_there 59 ∷ []) 0 refl
