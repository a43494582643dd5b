-- The text of a written SDF file (IEEE 1497-2001, annex A): it spells the tree, an entry a line.
use Rattle.std.specs.Prelude.{ℕ, ◌/◌, ◌%◌, ◌==◌, ℤ, pos, ◌-ℤ◌, nat_abs, List, [], ◌∷◌, ◌++◌, length, Option, Some, None, codes, decimal, flat_map, if◌then◌else◌}
use Rattle.std.specs.Fmt.{signed_decimal}
use Rattle.std.specs.List.{range_with_len}
use Rattle.sg_logic.specs.declared.values.Value.{Value}
use Rattle.sg_logic.specs.declared.values.Value.TheVariants.{Zero, One, X, Z}
use Rattle.cond_expr.specs.declared.tokens.Op.{Op}
use Rattle.cond_expr.specs.declared.tokens.Op.TheVariants as op
use Rattle.cond_expr.specs.declared.tokens.Tok.TheVariants as tok
use Rattle.cond_expr.specs.Token.{Tok}
use Rattle.sg_circuit.specs.Circuit.{Circuit, Variable, scope_at}
use Rattle.sdf_tree.specs.declared.tree.Edge.{Edge}
use Rattle.sdf_tree.specs.declared.tree.Edge.TheVariants.{Posedge}
use Rattle.sdf_tree.specs.Written.{PathCondition, always, otherwise, if_words}
use Rattle.written_model.specs.declared.parts.Part.{Part}
use Rattle.written_model.specs.declared.parts.Part.TheVariants as part
use Rattle.written_model.specs.Names.{name_text, index_text, names_text, BitName, name_of, names_to}
use Rattle.written_model.specs.Entries.{Numbers, LegEntry, PathEntry, EventKey, CheckEntry, legs, paths, checks}
use Rattle.written_model.specs.Tree.{datum_of, cell_type_of}

-- ---- conditions

abbrev pub value_letter : Value → ℕ
value_letter Zero = 48
value_letter One = 49
value_letter X = 120
value_letter Z = 122

abbrev pub operator_text : Op → List ℕ
operator_text op.Tilde = codes "~"
operator_text op.Bang = codes "!"
operator_text op.And = codes "&"
operator_text op.Or = codes "|"
operator_text op.Xor = codes "^"
operator_text op.Equal = codes "=="
operator_text op.Unequal = codes "!="
operator_text op.CaseEqual = codes "==="
operator_text op.CaseUnequal = codes "!=="
operator_text op.TildeXor = codes "~^"
operator_text op.XorTilde = codes "^~"
operator_text op.AndAnd = codes "&&"
operator_text op.OrOr = codes "||"

abbrev pub token_text : Tok → List ℕ
token_text (tok.Name name) = name_text name
token_text (tok.Index i) = index_text (Some i)
token_text (tok.Const v) = codes "1'b" ++ value_letter v ∷ []
token_text (tok.Op o) = operator_text o
token_text tok.Left = codes "("
token_text tok.Right = codes ")"

-- one blank between two tokens, but an index stands right behind its name
abbrev pub gap : Tok → List ℕ
gap (tok.Index i) = []
gap _ = codes " "

abbrev pub words_behind : List Tok → List ℕ
words_behind ts = flat_map (λ t. gap t ++ token_text t) ts

abbrev pub words_text : List Tok → List ℕ
words_text [] = []
words_text (t ∷ ts) = token_text t ++ words_behind ts

-- ---- ports and terminals

abbrev pub bit_text : BitName → List ℕ
bit_text n = name_text n.name ++ index_text n.index

abbrev pub port_text : List Variable → ℕ → List ℕ
port_text vs net = bit_text (name_of vs net)

abbrev pub edge_text : Edge → List ℕ
edge_text Posedge = codes "posedge"
edge_text _ = codes "negedge"

abbrev pub terminal_text : Option Edge → (port : List ℕ) → List ℕ
terminal_text None port = port
terminal_text (Some edge) port = codes "(" ++ (edge_text edge ++ (codes " " ++ (port ++ codes ")")))

abbrev pub conditional_text : Option (List Tok) → (terminal : List ℕ) → List ℕ
conditional_text None terminal = terminal
conditional_text (Some words) terminal = codes "(COND " ++ (words_text words ++ (codes " " ++ (terminal ++ codes ")")))

abbrev pub event_text : List Variable → EventKey → List ℕ
event_text vs k = conditional_text k.condition (terminal_text k.edge (port_text vs k.net))

-- ---- entries

abbrev pub value_text : List ℕ → List ℕ
value_text number = codes "(" ++ (number ++ codes ")")

-- a blank and a delay with its limits
abbrev pub delay_text : Numbers → List ℕ
delay_text n = codes " (" ++ (value_text (decimal n.delay) ++ (codes " " ++ (value_text (decimal n.reject) ++ (codes " " ++ (value_text (decimal n.error) ++ codes ")")))))

abbrev pub leg_text : List Variable → LegEntry → List ℕ
leg_text vs e = codes "(PORT " ++ (port_text vs e.net ++ (flat_map delay_text e.numbers ++ codes ")"))

abbrev pub io_path_text : List Variable → PathEntry → List ℕ
io_path_text vs e = codes "(IOPATH " ++ (terminal_text e.key.edge (port_text vs e.key.input) ++ (codes " " ++ (port_text vs e.key.output ++ (flat_map delay_text e.numbers ++ codes ")"))))

abbrev pub under_condition : PathCondition → (path : List ℕ) → List ℕ
under_condition always path = path
under_condition (if_words words) path = conditional_text (Some words) path
under_condition otherwise path = codes "(CONDELSE " ++ (path ++ codes ")")

abbrev pub path_text : List Variable → PathEntry → List ℕ
path_text vs e = under_condition e.key.condition (io_path_text vs e)

abbrev pub terminals_text : Part → (refer datum : List ℕ) → List ℕ
terminals_text part.Setup refer datum = codes "(SETUP " ++ (datum ++ (codes " " ++ refer))
terminals_text part.Hold refer datum = codes "(HOLD " ++ (datum ++ (codes " " ++ refer))
terminals_text part.Recovery refer datum = codes "(RECOVERY " ++ (refer ++ (codes " " ++ datum))
terminals_text part.Removal refer datum = codes "(REMOVAL " ++ (refer ++ (codes " " ++ datum))
terminals_text part.Skew refer datum = codes "(SKEW " ++ (refer ++ (codes " " ++ datum))
terminals_text part.Width refer datum = codes "(WIDTH " ++ refer
terminals_text part.Period refer datum = codes "(PERIOD " ++ refer

abbrev pub check_text : List Variable → CheckEntry → List ℕ
check_text vs e = terminals_text e.key.part (event_text vs e.key.refer) (event_text vs (datum_of e.key)) ++ (codes " " ++ (value_text (signed_decimal e.limit) ++ codes ")"))

-- ---- cells

abbrev pub line : List ℕ → List ℕ
line text = text ++ 10 ∷ []

-- a text between two others, unless it is empty
abbrev pub enclosed : (first last inner : List ℕ) → List ℕ
enclosed first last [] = []
enclosed first last (b ∷ bs) = first ++ ((b ∷ bs) ++ last)

abbrev pub delay_lines : Circuit → ℕ → List ℕ
delay_lines c s = flat_map (λ e. line (leg_text (scope_at c s).variables e)) (legs c s) ++ flat_map (λ e. line (path_text (scope_at c s).variables e)) (paths c s)

abbrev pub check_lines : Circuit → ℕ → List ℕ
check_lines c s = flat_map (λ e. line (check_text (scope_at c s).variables e)) (checks c s)

abbrev pub parts_text : Circuit → ℕ → List ℕ
parts_text c s = enclosed (line (codes "(DELAY (ABSOLUTE")) (line (codes "))")) (delay_lines c s) ++ enclosed (line (codes "(TIMINGCHECK")) (line (codes ")")) (check_lines c s)

-- the top has no names
abbrev pub instance_text : List (List ℕ) → List ℕ
instance_text [] = []
instance_text (n ∷ ns) = codes " " ++ names_text (n ∷ ns)

abbrev pub cell_line : Circuit → ℕ → List ℕ
cell_line c s = line (codes "(CELL (CELLTYPE \"" ++ (cell_type_of (scope_at c s).module_name ++ (codes "\") (INSTANCE" ++ (instance_text (names_to c s) ++ codes ")"))))

-- the lines of a scope, unless it has nothing to write
abbrev pub cell_text : Circuit → ℕ → List ℕ
cell_text c s = enclosed (cell_line c s) (line (codes ")")) (parts_text c s)

-- ---- the file

-- 100, 10 or 1, and the unit, of a time that is so many powers of ten below 100 s
abbrev pub count_text : ℕ → List ℕ
count_text n = if n == 0 then codes "100" else if n == 1 then codes "10" else codes "1"

abbrev pub unit_text : ℕ → List ℕ
unit_text n =
    if n == 0 then codes "s" else if n == 1 then codes "ms" else if n == 2 then codes "us" else if n == 3 then codes "ns"
    else if n == 4 then codes "ps" else codes "fs"

abbrev pub text_below : ℕ → List ℕ
text_below n = count_text (n % 3) ++ unit_text (n / 3)

abbrev pub tick_text : ℤ → List ℕ
tick_text power = text_below (nat_abs (pos 2 -ℤ power))

abbrev pub head_line : (tick : ℤ) → List ℕ
head_line tick = line (codes "(DELAYFILE (SDFVERSION \"3.0\") (DIVIDER /) (TIMESCALE " ++ (tick_text tick ++ codes ")"))

unfoldable pub text : Circuit → List ℕ
text c = head_line c.tick ++ (flat_map (cell_text c) (range_with_len 0 (length c.scopes)) ++ line (codes ")"))
