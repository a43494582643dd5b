-- What the tokens of a written SDF file mean, in the order of the text.
use Rattle.std.specs.Prelude.{ℕ, ℤ, List, [], ◌∷◌, ◌++◌, length, Option, Some, None, codes, decimal, flat_map}
use Rattle.std.specs.Fmt.{signed_decimal}
use Rattle.std.specs.List.{range_with_len}
use Rattle.cond_expr.specs.declared.tokens.Tok.TheVariants as tok
use Rattle.cond_expr.specs.Token.{Tok}
use Rattle.sg_circuit.specs.Circuit.{Circuit, Variable, scope_at}
use Rattle.sdf_lex.specs.Tokens.{Meaning, word_token, selected_token, select_token, text_token, operator_token, left_token, right_token}
use Rattle.sdf_tree.specs.declared.tree.Edge.{Edge}
use Rattle.sdf_tree.specs.Written.{PathCondition, always, otherwise, if_words}
use Rattle.written_model.specs.declared.parts.Part.{Part}
use Rattle.written_model.specs.declared.parts.Part.TheVariants as part
use Rattle.written_model.specs.Entries.{Numbers, LegEntry, PathEntry, EventKey, CheckEntry, legs, paths, checks}
use Rattle.written_model.specs.Names.{name_text, index_text, names_text, BitName, name_of, names_to}
use Rattle.written_model.specs.Text.{value_letter, edge_text, tick_text}
use Rattle.written_model.specs.Tree.{datum_of, cell_type_of, delay_entries, check_entries, parts_of}

-- a word of the language
abbrev pub word : List ℕ → Meaning
word text = word_token text

-- ---- conditions

-- the index that stands right behind a token
abbrev pub index_in_front : List Tok → Option ℤ
index_in_front (tok.Index i ∷ ts) = Some i
index_in_front _ = None

abbrev pub name_meaning : (name : List ℕ) → Option ℤ → Meaning
name_meaning name None = word_token name
name_meaning name (Some i) = selected_token (name ++ index_text (Some i)) name

abbrev pub token_meaning : Tok → (behind : Option ℤ) → Meaning
token_meaning (tok.Name name) behind = name_meaning (name_text name) behind
token_meaning (tok.Index i) behind = select_token i
token_meaning (tok.Const v) behind = word (codes "1'b" ++ value_letter v ∷ [])
token_meaning (tok.Op o) behind = operator_token o
token_meaning tok.Left behind = left_token
token_meaning tok.Right behind = right_token

-- one for each token
abbrev pub words_meanings : List Tok → List Meaning
words_meanings [] = []
words_meanings (t ∷ ts) = token_meaning t (index_in_front ts) ∷ words_meanings ts

-- ---- ports and terminals

abbrev pub select_meanings : Option ℤ → List Meaning
select_meanings None = []
select_meanings (Some i) = select_token i ∷ []

abbrev pub bit_meanings : BitName → List Meaning
bit_meanings n = name_meaning (name_text n.name) n.index ∷ select_meanings n.index

abbrev pub port_meanings : List Variable → ℕ → List Meaning
port_meanings vs net = bit_meanings (name_of vs net)

abbrev pub terminal_meanings : Option Edge → (port : List Meaning) → List Meaning
terminal_meanings None port = port
terminal_meanings (Some edge) port = left_token ∷ word (edge_text edge) ∷ (port ++ right_token ∷ [])

abbrev pub conditional_meanings : Option (List Tok) → (terminal : List Meaning) → List Meaning
conditional_meanings None terminal = terminal
conditional_meanings (Some words) terminal = left_token ∷ word (codes "COND") ∷ (words_meanings words ++ (terminal ++ right_token ∷ []))

abbrev pub event_meanings : List Variable → EventKey → List Meaning
event_meanings vs k = conditional_meanings k.condition (terminal_meanings k.edge (port_meanings vs k.net))

-- ---- entries

abbrev pub value_meanings : List ℕ → List Meaning
value_meanings number = left_token ∷ word number ∷ right_token ∷ []

abbrev pub delay_meanings : Numbers → List Meaning
delay_meanings n = left_token ∷ (value_meanings (decimal n.delay) ++ (value_meanings (decimal n.reject) ++ (value_meanings (decimal n.error) ++ right_token ∷ [])))

abbrev pub leg_meanings : List Variable → LegEntry → List Meaning
leg_meanings vs e = left_token ∷ word (codes "PORT") ∷ (port_meanings vs e.net ++ (flat_map delay_meanings e.numbers ++ right_token ∷ []))

abbrev pub io_path_meanings : List Variable → PathEntry → List Meaning
io_path_meanings vs e =
    left_token ∷ word (codes "IOPATH")
    ∷ (terminal_meanings e.key.edge (port_meanings vs e.key.input) ++ (port_meanings vs e.key.output ++ (flat_map delay_meanings e.numbers ++ right_token ∷ [])))

abbrev pub under_condition : PathCondition → (path : List Meaning) → List Meaning
under_condition always path = path
under_condition (if_words words) path = conditional_meanings (Some words) path
under_condition otherwise path = left_token ∷ word (codes "CONDELSE") ∷ (path ++ right_token ∷ [])

abbrev pub path_meanings : List Variable → PathEntry → List Meaning
path_meanings vs e = under_condition e.key.condition (io_path_meanings vs e)

abbrev pub terminals_meanings : Part → (refer datum : List Meaning) → List Meaning
terminals_meanings part.Setup refer datum = left_token ∷ word (codes "SETUP") ∷ (datum ++ refer)
terminals_meanings part.Hold refer datum = left_token ∷ word (codes "HOLD") ∷ (datum ++ refer)
terminals_meanings part.Recovery refer datum = left_token ∷ word (codes "RECOVERY") ∷ (refer ++ datum)
terminals_meanings part.Removal refer datum = left_token ∷ word (codes "REMOVAL") ∷ (refer ++ datum)
terminals_meanings part.Skew refer datum = left_token ∷ word (codes "SKEW") ∷ (refer ++ datum)
terminals_meanings part.Width refer datum = left_token ∷ word (codes "WIDTH") ∷ refer
terminals_meanings part.Period refer datum = left_token ∷ word (codes "PERIOD") ∷ refer

abbrev pub check_meanings : List Variable → CheckEntry → List Meaning
check_meanings vs e = terminals_meanings e.key.part (event_meanings vs e.key.refer) (event_meanings vs (datum_of e.key)) ++ (value_meanings (signed_decimal e.limit) ++ right_token ∷ [])

-- ---- cells

-- a list between two others, unless there are no such entries
abbrev pub around : {A B : Type 0} → (entries : List A) → (first last inner : List B) → List B
around [] first last inner = []
around (e ∷ es) first last inner = first ++ (inner ++ last)

abbrev pub delays_meanings : Circuit → ℕ → List Meaning
delays_meanings c s = flat_map (leg_meanings (scope_at c s).variables) (legs c s) ++ flat_map (path_meanings (scope_at c s).variables) (paths c s)

abbrev pub checks_meanings : Circuit → ℕ → List Meaning
checks_meanings c s = flat_map (check_meanings (scope_at c s).variables) (checks c s)

abbrev pub parts_meanings : Circuit → ℕ → List Meaning
parts_meanings c s =
    around (delay_entries c s) (left_token ∷ word (codes "DELAY") ∷ left_token ∷ word (codes "ABSOLUTE") ∷ []) (right_token ∷ right_token ∷ []) (delays_meanings c s)
    ++ around (check_entries c s) (left_token ∷ word (codes "TIMINGCHECK") ∷ []) (right_token ∷ []) (checks_meanings c s)

abbrev pub instance_meanings : List (List ℕ) → List Meaning
instance_meanings [] = []
instance_meanings (n ∷ ns) = word (names_text (n ∷ ns)) ∷ []

abbrev pub cell_head_meanings : (module_name : List ℕ) → (names : List (List ℕ)) → List Meaning
cell_head_meanings module_name names =
    left_token ∷ word (codes "CELL") ∷ left_token ∷ word (codes "CELLTYPE") ∷ text_token (cell_type_of module_name) ∷ right_token ∷ left_token ∷ word (codes "INSTANCE")
    ∷ (instance_meanings names ++ right_token ∷ [])

abbrev pub cell_meanings : Circuit → ℕ → List Meaning
cell_meanings c s = around (parts_of c s) (cell_head_meanings (scope_at c s).module_name (names_to c s)) (right_token ∷ []) (parts_meanings c s)

-- ---- the file

abbrev pub head_meanings : (tick : ℤ) → List Meaning
head_meanings tick =
    left_token ∷ word (codes "DELAYFILE") ∷ left_token ∷ word (codes "SDFVERSION") ∷ text_token (codes "3.0") ∷ right_token ∷ left_token ∷ word (codes "DIVIDER") ∷ word (codes "/") ∷ right_token
    ∷ left_token ∷ word (codes "TIMESCALE") ∷ word (tick_text tick) ∷ right_token ∷ []

unfoldable pub meanings : Circuit → List Meaning
meanings c = head_meanings c.tick ++ (flat_map (cell_meanings c) (range_with_len 0 (length c.scopes)) ++ right_token ∷ [])
