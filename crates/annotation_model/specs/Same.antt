-- What entries ask of edges and of conditions (IEEE 1497-2001, port edges and conditions of delay and timing check entries).
use Rattle.std.specs.Prelude.{ℕ, suc, zero, ◌==◌, ◌&&◌, int_le, Bool, true, false, List, [], ◌∷◌, length, reverse, Option, Some, None, bytes_eq, if◌then◌else◌}
use Rattle.sg_logic.specs.Values.{is_same}
use Rattle.sg_logic.specs.declared.edges.Edge.{Edge}
use Rattle.sg_logic.specs.declared.edges.TheConstants.{POSEDGE, NEGEDGE}
use Rattle.cond_expr.specs.declared.tokens.Op.{Op}
use Rattle.cond_expr.specs.declared.tokens.Op.TheVariants as op
use Rattle.cond_expr.specs.declared.tokens.Tok.TheVariants as tok
use Rattle.cond_expr.specs.Token.{Tok}
use Rattle.sdf_tree.specs.declared.tree.Edge as sdf
use Rattle.sdf_tree.specs.declared.tree.Edge.TheVariants.{Posedge, Negedge}

-- ---- edges

-- the edge that a word of a file is; a change by its two values is none of those that netlists have
abbrev pub edge_of : sdf.Edge → Option Edge
edge_of Posedge = Some POSEDGE
edge_of Negedge = Some NEGEDGE
edge_of _ = None

abbrev pub bits_eq : List Bool → List Bool → Bool
bits_eq [] [] = true
bits_eq (true ∷ xs) (true ∷ ys) = bits_eq xs ys
bits_eq (false ∷ xs) (false ∷ ys) = bits_eq xs ys
bits_eq _ _ = false

abbrev pub is_edge : Option Edge → Option Edge → Bool
is_edge (Some e) (Some f) = bits_eq e.has f.has
is_edge None f = false
is_edge (Some e) None = false

-- without an edge any will do; edges are the same where their changes are (IEEE 1364-2005, 15.4)
abbrev pub fits_edge : Option sdf.Edge → Option Edge → Bool
fits_edge None edge = true
fits_edge (Some word) edge = is_edge (edge_of word) edge

-- ---- conditions

-- how many parentheses are open behind the front of a list, None where one closes that none opened
abbrev pub open_after : Option ℕ → Tok → Option ℕ
open_after None t = None
open_after (Some n) tok.Left = Some (suc n)
open_after (Some zero) tok.Right = None
open_after (Some (suc n)) tok.Right = Some n
open_after (Some n) _ = Some n

abbrev pub open_behind : Option ℕ → List Tok → Option ℕ
open_behind n [] = n
open_behind n (t ∷ ts) = open_behind (open_after n t) ts

abbrev pub is_zero : Option ℕ → Bool
is_zero None = false
is_zero (Some n) = n == 0

-- each parenthesis that opens is closed, and none closes first
abbrev pub is_balanced : List Tok → Bool
is_balanced ts = is_zero (open_behind (Some 0) ts)

abbrev pub before_right : List Tok → Option (List Tok)
before_right (tok.Right ∷ ts) = Some (reverse ts)
before_right _ = None

-- what stands between the first token and the last, where these are parentheses
abbrev pub within : List Tok → Option (List Tok)
within (tok.Left ∷ ts) = before_right (reverse ts)
within _ = None

abbrev pub off : List Tok → (List Tok → List Tok) → Option (List Tok) → List Tok
off ts more None = ts
off ts more (Some inner) = if is_balanced inner then more inner else ts

-- without the pairs of parentheses that enclose all, up to so many
abbrev pub without_pairs : ℕ → List Tok → List Tok
without_pairs zero ts = ts
without_pairs (suc n) ts = off ts (without_pairs n) (within ts)

abbrev pub bare : List Tok → List Tok
bare ts = without_pairs (length ts) ts

abbrev pub op_number : Op → ℕ
op_number op.Tilde = 0
op_number op.Bang = 1
op_number op.And = 2
op_number op.Or = 3
op_number op.Xor = 4
op_number op.Equal = 5
op_number op.Unequal = 6
op_number op.CaseEqual = 7
op_number op.CaseUnequal = 8
op_number op.TildeXor = 9
op_number op.XorTilde = 10
op_number op.AndAnd = 11
op_number op.OrOr = 12

abbrev pub token_eq : Tok → Tok → Bool
token_eq (tok.Name a) (tok.Name b) = bytes_eq a b
token_eq (tok.Index i) (tok.Index j) = int_le i j && int_le j i
token_eq (tok.Const v) (tok.Const w) = is_same v w
token_eq (tok.Op o) (tok.Op p) = op_number o == op_number p
token_eq tok.Left tok.Left = true
token_eq tok.Right tok.Right = true
token_eq _ _ = false

abbrev pub tokens_eq : List Tok → List Tok → Bool
tokens_eq [] [] = true
tokens_eq (x ∷ xs) (y ∷ ys) = token_eq x y && tokens_eq xs ys
tokens_eq _ _ = false

-- Whether a netlist's condition and an entry's are the same, token by token, each without outer parentheses. Names are what they
-- are called, without backslashes, and constants are their values.
abbrev pub same_condition : (written words : List Tok) → Bool
same_condition written words = tokens_eq (bare written) (bare words)

-- without a condition any will do
abbrev pub fits_words : Option (List Tok) → Option (List Tok) → Bool
fits_words None written = true
fits_words (Some words) None = false
fits_words (Some words) (Some written) = same_condition written words
