-- The grammar of paths of specify blocks (IEEE 1364-2005, clause 14 and annex A.7).
use Rattle.std.specs.Prelude.{Bool, true, false, ◌||◌, List, [], ◌∷◌, length, ◌==◌, Option, Some, None}
use Rattle.sg_text.specs.declared.words.Keyword.TheVariants as keyword
use Rattle.grammar.specs.Rule.{◌∙∙◌, ◌▸◌, ◌◂◌, one, mapped, named, no_kind, followed, only_if}
use Rattle.vl_token.specs.declared.symbols.Symbol.TheVariants.{Comma, Colon, Plus, Minus, Assign, LeftParen, RightParen, LeftBracket, RightBracket}
use Rattle.vl_token.specs.declared.symbols.Symbol.TheVariants as symbol
use Rattle.vl_tree.specs.declared.paths.Arrow.{Arrow}
use Rattle.vl_tree.specs.declared.paths.Arrow.TheVariants.{Parallel, Full}
use Rattle.vl_tree.specs.declared.paths.EdgePair.{EdgePair}
use Rattle.vl_tree.specs.declared.paths.Polarity.{Polarity}
use Rattle.vl_tree.specs.declared.paths.Polarity.TheVariants.{Positive, Negative}
use Rattle.vl_tree.specs.Amounts.{delays}
use Rattle.vl_tree.specs.Conditions.{condition}
use Rattle.vl_tree.specs.Expressions.{name, select}
use Rattle.vl_tree.specs.Kinds.{Kind, kind_of, is_name, is_pair, is_symbol, is_word, pair_of}
use Rattle.vl_tree.specs.Rules.{Grammar, word, mark, placed, either, optional, listed}
use Rattle.vl_tree.specs.Tree.{Term, EdgeWord, posedge, negedge, pairs, PathCondition, always, if_none, if_words, DataSource, Destination, SpecifyPath, Amounts}

-- term = name [ select ]
unfoldable pub term_parts : Grammar Term
term_parts = mapped (λ x. record { name = x.0; select = x.1 }) (name ∙∙ optional select)

abbrev pub term : Grammar Term
term = named is_name (is_symbol LeftBracket) term_parts

-- terms = term { "," term }
unfoldable pub terms_parts : Grammar (List Term)
terms_parts = listed term

abbrev pub terms_continue : Kind → Bool
terms_continue k = is_symbol LeftBracket k || is_symbol Comma k

abbrev pub terms : Grammar (List Term)
terms = named is_name terms_continue terms_parts

-- polarity = "+" | "-"
unfoldable pub polarity_parts : Grammar Polarity
polarity_parts = either (mapped (λ _. Positive) (mark Plus)) (mapped (λ _. Negative) (mark Minus))

abbrev pub polarity_starts : Kind → Bool
polarity_starts k = is_symbol Plus k || is_symbol Minus k

abbrev pub polarity : Grammar Polarity
polarity = named polarity_starts no_kind polarity_parts

-- ---- edges

-- edge = "posedge" | "negedge"
unfoldable pub edge_parts : Grammar EdgeWord
edge_parts = either (mapped (λ _. posedge) (word keyword.Posedge)) (mapped (λ _. negedge) (word keyword.Negedge))

abbrev pub edge_starts : Kind → Bool
edge_starts k = is_word keyword.Posedge k || is_word keyword.Negedge k

abbrev pub edge : Grammar EdgeWord
edge = named edge_starts no_kind edge_parts

-- check-edge = edge | "edge" "[" pair { "," pair } "]"
unfoldable pub pair_parts : Grammar EdgePair
pair_parts = mapped (λ t. pair_of t.meaning) (one kind_of is_pair)

abbrev pub pair : Grammar EdgePair
pair = named is_pair no_kind pair_parts

unfoldable pub check_edge_parts : Grammar EdgeWord
check_edge_parts = either edge (mapped pairs (word keyword.Edge ▸ (mark LeftBracket ▸ (listed pair ◂ mark RightBracket))))

abbrev pub check_edge_starts : Kind → Bool
check_edge_starts k = edge_starts k || is_word keyword.Edge k

abbrev pub check_edge : Grammar EdgeWord
check_edge = named check_edge_starts no_kind check_edge_parts

-- ---- what a path goes to

-- behind "=>" a term, and behind "*>" terms
abbrev pub arrow_terms_parts : Arrow → Grammar (List Term)
arrow_terms_parts Parallel = mapped (λ t. t ∷ []) term
arrow_terms_parts Full = terms

abbrev pub arrow_terms : Arrow → Grammar (List Term)
arrow_terms arrow = named is_name terms_continue (arrow_terms_parts arrow)

-- destination = terms | "(" terms [ polarity ] ":" condition ")"
abbrev pub data_source : Grammar DataSource
data_source = mapped (λ x. record { polarity = x.0; words = x.1 }) (optional polarity ∙∙ (mark Colon ▸ condition))

unfoldable pub destination_parts : Arrow → Grammar Destination
destination_parts arrow =
    either (mapped (λ ts. record { terms = ts; source = None }) (arrow_terms arrow))
    (mapped (λ x. record { terms = x.0; source = Some x.1 }) (mark LeftParen ▸ (arrow_terms arrow ∙∙ (data_source ◂ mark RightParen))))

abbrev pub destination_starts : Kind → Bool
destination_starts k = is_name k || is_symbol LeftParen k

abbrev pub destination : Arrow → Grammar Destination
destination arrow = named destination_starts terms_continue (destination_parts arrow)

-- "=>" destination | "*>" destination, where "=>" stands behind a single term
unfoldable pub arrow_parts : (single : Bool) → Grammar (Arrow × Destination)
arrow_parts single = either (mapped (λ d. (Parallel, d)) (only_if single (mark symbol.Parallel) ▸ destination Parallel)) (mapped (λ d. (Full, d)) (mark symbol.Full ▸ destination Full))

abbrev pub arrow_starts : Kind → Bool
arrow_starts k = is_symbol symbol.Parallel k || is_symbol symbol.Full k

abbrev pub arrow : (single : Bool) → Grammar (Arrow × Destination)
arrow single = named arrow_starts terms_continue (arrow_parts single)

-- ---- paths

abbrev pub Ends : Type 0
Ends = (List Term × Option Polarity) × (Arrow × Destination)

-- ends = terms [ polarity ] arrow destination
unfoldable pub ends_parts : Grammar Ends
ends_parts = followed arrow_starts terms_continue false (terms ∙∙ optional polarity) (λ x. arrow (length x.0 == 1))

abbrev pub ends : Grammar Ends
ends = named is_name terms_continue ends_parts

abbrev pub PathBody : Type 0
PathBody = Option EdgeWord × (Ends × List Amounts)

-- path-body = "(" [ edge ] ends ")" "=" delays, the edge where edges are allowed
unfoldable pub path_body_parts : (limited edges : Bool) → Grammar PathBody
path_body_parts limited edges = mark LeftParen ▸ (optional (only_if edges edge) ∙∙ (ends ∙∙ (mark RightParen ▸ (mark Assign ▸ delays limited))))

abbrev pub path_body : (limited edges : Bool) → Grammar PathBody
path_body limited edges = named (is_symbol LeftParen) (is_symbol Colon) (path_body_parts limited edges)

-- path = [ "if" "(" condition ")" | "ifnone" ] path-body: one of IFNONE has no edge (IEEE 1364-2005, 14.2.4.4)
unfoldable pub conditional_parts : Bool → Grammar (PathCondition × PathBody)
conditional_parts limited =
    either (mapped (λ x. (if_words x.0, x.1)) (word keyword.If ▸ (mark LeftParen ▸ (condition ∙∙ (mark RightParen ▸ path_body limited true)))))
    (either (mapped (λ b. (if_none, b)) (word keyword.IfNone ▸ path_body limited false)) (mapped (λ b. (always, b)) (path_body limited true)))

abbrev pub path_starts : Kind → Bool
path_starts k = is_word keyword.If k || (is_word keyword.IfNone k || is_symbol LeftParen k)

abbrev pub conditional : Bool → Grammar (PathCondition × PathBody)
conditional limited = named path_starts (is_symbol Colon) (conditional_parts limited)

unfoldable pub path_parts : Bool → Grammar SpecifyPath
path_parts limited =
    mapped (λ x. record { place = x.0; condition = x.1.0; edge = x.1.1.0; sources = x.1.1.1.0.0.0; polarity = x.1.1.1.0.0.1; arrow = x.1.1.1.0.1.0; destination = x.1.1.1.0.1.1; delays = x.1.1.1.1 })
    (placed (conditional limited))

abbrev pub path : Bool → Grammar SpecifyPath
path limited = named path_starts (is_symbol Colon) (path_parts limited)
