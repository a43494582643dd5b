-- The pieces that a written SDF file is made of, in the order of the text.
use Rattle.std.specs.Prelude.{ℕ, ℤ, List, [], ◌∷◌, ◌++◌, length, map, Option, Some, None, codes, decimal, flat_map, if◌then◌else◌}
use Rattle.std.specs.Char.{is_ascii_digit}
use Rattle.std.specs.Fmt.{signed_decimal}
use Rattle.std.specs.List.{range_with_len}
use Rattle.sg_text.specs.Names.{is_name_byte}
use Rattle.cond_expr.specs.declared.tokens.Tok.TheVariants as tok
use Rattle.cond_expr.specs.Token.{Tok}
use Rattle.sg_circuit.specs.Circuit.{Circuit, Variable, scope_at}
use Rattle.sdf_lex.specs.declared.letters.Letter.{Letter}
use Rattle.sdf_lex.specs.declared.letters.Letter.TheVariants.{Plain, Escaped}
use Rattle.sdf_lex.specs.Pieces.{Piece, blank_piece, word_piece, text_piece, symbol_piece, mark_piece}
use Rattle.sdf_tree.specs.declared.tree.Edge.{Edge}
use Rattle.sdf_tree.specs.Written.{PathCondition, always, otherwise, if_words}
use Rattle.written_model.specs.declared.parts.Part.{Part}
use Rattle.written_model.specs.declared.parts.Part.TheVariants as part
use Rattle.written_model.specs.Entries.{Numbers, LegEntry, PathEntry, EventKey, CheckEntry, legs, paths, checks}
use Rattle.written_model.specs.Names.{name_of, names_to}
use Rattle.written_model.specs.Text.{value_letter, operator_text, edge_text, tick_text}
use Rattle.written_model.specs.Tree.{datum_of, cell_type_of, delay_entries, check_entries, parts_of}
use Rattle.written_reading.specs.Meanings.{index_in_front, around}

-- ---- letters

abbrev pub plain_letters : List ℕ → List Letter
plain_letters bytes = map (λ b. Plain b) bytes

abbrev pub letter : ℕ → Letter
letter b = if is_name_byte b then Plain b else Escaped b

abbrev pub first_letter : ℕ → Letter
first_letter b = if is_ascii_digit b then Escaped b else letter b

abbrev pub name_letters : List ℕ → List Letter
name_letters [] = []
name_letters (b ∷ bs) = first_letter b ∷ map letter bs

abbrev pub index_letters : Option ℤ → List Letter
index_letters None = []
index_letters (Some i) = Plain 91 ∷ (plain_letters (signed_decimal i) ++ Plain 93 ∷ [])

abbrev pub bit_letters : (name : List ℕ) → Option ℤ → List Letter
bit_letters name index = name_letters name ++ index_letters index

abbrev pub names_letters : List (List ℕ) → List Letter
names_letters [] = []
names_letters (n ∷ []) = name_letters n
names_letters (n ∷ m ∷ more) = name_letters n ++ Plain 47 ∷ names_letters (m ∷ more)

-- ---- single pieces

abbrev pub word : List ℕ → Piece
word text = word_piece (plain_letters text)

abbrev pub blank : Piece
blank = blank_piece 32

abbrev pub line_end : Piece
line_end = blank_piece 10

abbrev pub left : Piece
left = mark_piece 40

abbrev pub right : Piece
right = mark_piece 41

-- ---- conditions

-- a token, with an index that stands right behind it, and a blank
abbrev pub token_pieces : Tok → (behind : Option ℤ) → List Piece
token_pieces (tok.Name name) behind = word_piece (bit_letters name behind) ∷ blank ∷ []
token_pieces (tok.Index i) behind = []
token_pieces (tok.Const v) behind = word (codes "1'b" ++ value_letter v ∷ []) ∷ blank ∷ []
token_pieces (tok.Op o) behind = symbol_piece (operator_text o) ∷ blank ∷ []
token_pieces tok.Left behind = left ∷ blank ∷ []
token_pieces tok.Right behind = right ∷ blank ∷ []

abbrev pub words_pieces : List Tok → List Piece
words_pieces [] = []
words_pieces (t ∷ ts) = token_pieces t (index_in_front ts) ++ words_pieces ts

-- ---- ports and terminals

abbrev pub port_pieces : List Variable → ℕ → List Piece
port_pieces vs net = word_piece (bit_letters (name_of vs net).name (name_of vs net).index) ∷ []

abbrev pub terminal_pieces : Option Edge → (port : List Piece) → List Piece
terminal_pieces None port = port
terminal_pieces (Some edge) port = left ∷ word (edge_text edge) ∷ blank ∷ (port ++ right ∷ [])

abbrev pub conditional_pieces : Option (List Tok) → (terminal : List Piece) → List Piece
conditional_pieces None terminal = terminal
conditional_pieces (Some words) terminal = left ∷ word (codes "COND") ∷ blank ∷ (words_pieces words ++ (terminal ++ right ∷ []))

abbrev pub event_pieces : List Variable → EventKey → List Piece
event_pieces vs k = conditional_pieces k.condition (terminal_pieces k.edge (port_pieces vs k.net))

-- ---- entries

abbrev pub value_pieces : List ℕ → List Piece
value_pieces number = left ∷ word number ∷ right ∷ []

abbrev pub delay_pieces : Numbers → List Piece
delay_pieces n = blank ∷ left ∷ (value_pieces (decimal n.delay) ++ blank ∷ (value_pieces (decimal n.reject) ++ blank ∷ (value_pieces (decimal n.error) ++ right ∷ [])))

abbrev pub leg_pieces : List Variable → LegEntry → List Piece
leg_pieces vs e = left ∷ word (codes "PORT") ∷ blank ∷ (port_pieces vs e.net ++ (flat_map delay_pieces e.numbers ++ right ∷ []))

abbrev pub io_path_pieces : List Variable → PathEntry → List Piece
io_path_pieces vs e =
    left ∷ word (codes "IOPATH") ∷ blank
    ∷ (terminal_pieces e.key.edge (port_pieces vs e.key.input) ++ blank ∷ (port_pieces vs e.key.output ++ (flat_map delay_pieces e.numbers ++ right ∷ [])))

abbrev pub under_condition : PathCondition → (path : List Piece) → List Piece
under_condition always path = path
under_condition (if_words words) path = conditional_pieces (Some words) path
under_condition otherwise path = left ∷ word (codes "CONDELSE") ∷ blank ∷ (path ++ right ∷ [])

abbrev pub path_pieces : List Variable → PathEntry → List Piece
path_pieces vs e = under_condition e.key.condition (io_path_pieces vs e)

abbrev pub two_terminals : (keyword : List ℕ) → (first second : List Piece) → List Piece
two_terminals keyword first second = left ∷ word keyword ∷ blank ∷ (first ++ blank ∷ second)

abbrev pub terminals_pieces : Part → (refer datum : List Piece) → List Piece
terminals_pieces part.Setup refer datum = two_terminals (codes "SETUP") datum refer
terminals_pieces part.Hold refer datum = two_terminals (codes "HOLD") datum refer
terminals_pieces part.Recovery refer datum = two_terminals (codes "RECOVERY") refer datum
terminals_pieces part.Removal refer datum = two_terminals (codes "REMOVAL") refer datum
terminals_pieces part.Skew refer datum = two_terminals (codes "SKEW") refer datum
terminals_pieces part.Width refer datum = left ∷ word (codes "WIDTH") ∷ blank ∷ refer
terminals_pieces part.Period refer datum = left ∷ word (codes "PERIOD") ∷ blank ∷ refer

abbrev pub check_pieces : List Variable → CheckEntry → List Piece
check_pieces vs e = terminals_pieces e.key.part (event_pieces vs e.key.refer) (event_pieces vs (datum_of e.key)) ++ blank ∷ (value_pieces (signed_decimal e.limit) ++ right ∷ [])

-- ---- cells

abbrev pub line : List Piece → List Piece
line ps = ps ++ line_end ∷ []

abbrev pub delays_pieces : Circuit → ℕ → List Piece
delays_pieces c s = flat_map (λ e. line (leg_pieces (scope_at c s).variables e)) (legs c s) ++ flat_map (λ e. line (path_pieces (scope_at c s).variables e)) (paths c s)

abbrev pub checks_pieces : Circuit → ℕ → List Piece
checks_pieces c s = flat_map (λ e. line (check_pieces (scope_at c s).variables e)) (checks c s)

abbrev pub delay_front : List Piece
delay_front = left ∷ word (codes "DELAY") ∷ blank ∷ left ∷ word (codes "ABSOLUTE") ∷ line_end ∷ []

abbrev pub check_front : List Piece
check_front = left ∷ word (codes "TIMINGCHECK") ∷ line_end ∷ []

abbrev pub parts_pieces : Circuit → ℕ → List Piece
parts_pieces c s = around (delay_entries c s) delay_front (right ∷ right ∷ line_end ∷ []) (delays_pieces c s) ++ around (check_entries c s) check_front (right ∷ line_end ∷ []) (checks_pieces c s)

abbrev pub instance_pieces : List (List ℕ) → List Piece
instance_pieces [] = []
instance_pieces (n ∷ ns) = blank ∷ word_piece (names_letters (n ∷ ns)) ∷ []

abbrev pub cell_head_pieces : (module_name : List ℕ) → (names : List (List ℕ)) → List Piece
cell_head_pieces module_name names =
    left ∷ word (codes "CELL") ∷ blank ∷ left ∷ word (codes "CELLTYPE") ∷ blank ∷ text_piece (cell_type_of module_name) ∷ right ∷ blank ∷ left ∷ word (codes "INSTANCE")
    ∷ (instance_pieces names ++ right ∷ line_end ∷ [])

abbrev pub cell_pieces : Circuit → ℕ → List Piece
cell_pieces c s = around (parts_of c s) (cell_head_pieces (scope_at c s).module_name (names_to c s)) (right ∷ line_end ∷ []) (parts_pieces c s)

-- ---- the file

abbrev pub head_pieces : (tick : ℤ) → List Piece
head_pieces tick =
    left ∷ word (codes "DELAYFILE") ∷ blank ∷ left ∷ word (codes "SDFVERSION") ∷ blank ∷ text_piece (codes "3.0") ∷ right ∷ blank ∷ left ∷ word (codes "DIVIDER") ∷ blank ∷ word (codes "/") ∷ right
    ∷ blank ∷ left ∷ word (codes "TIMESCALE") ∷ blank ∷ word (tick_text tick) ∷ right ∷ line_end ∷ []

unfoldable pub pieces : Circuit → List Piece
pieces c = head_pieces c.tick ++ (flat_map (cell_pieces c) (range_with_len 0 (length c.scopes)) ++ right ∷ line_end ∷ [])
