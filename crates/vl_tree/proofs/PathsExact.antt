-- Each rule of paths is read exactly.
use Rattle.std.proofs.Common.{Bool, true, false, refl}
use Rattle.std.specs.Prelude.{length, ◌==◌}
use Rattle.std.proofs.lemmas.Bool.{and_right}
use Rattle.sg_text.specs.declared.words.Keyword.TheVariants as keyword
use Rattle.grammar.specs.Rule.{◌∙∙◌, only_if}
use Rattle.grammar.proofs.Laws.{only_if-exact, followed-exact}
use Rattle.vl_token.specs.declared.symbols.Symbol.TheVariants.{Colon, Plus, Minus, Assign, LeftParen, RightParen, LeftBracket, RightBracket}
use Rattle.vl_token.specs.declared.symbols.Symbol.TheVariants as symbol
use Rattle.vl_tree.specs.declared.paths.Arrow.{Arrow}
use Rattle.vl_tree.specs.declared.paths.Arrow.TheVariants.{Parallel, Full}
use Rattle.vl_tree.specs.Kinds.{kind_of, is_pair}
use Rattle.vl_tree.specs.Paths.{term_parts, term, terms_parts, terms, terms_continue, polarity_parts, polarity, edge_parts, edge, pair_parts, pair, check_edge_parts, check_edge, arrow_terms, data_source, destination_parts, destination, arrow_parts, arrow_starts, arrow, ends_parts, ends, path_body_parts, path_body, conditional_parts, conditional, path_parts, path}
use Rattle.vl_tree.specs.Rules.{optional}
use Rattle.vl_tree.proofs.AllKinds.{apart, is_within}
use Rattle.vl_tree.proofs.Building.{IsExact, token, the_word, the_mark, then, made, behind, before, called, with_place, or, perhaps, with_commas}
use Rattle.vl_tree.proofs.AmountsExact.{delays-exact}
use Rattle.vl_tree.proofs.ConditionsExact.{condition-exact}
use Rattle.vl_tree.proofs.ExpressionsExact.{name-exact, select-exact}

pub term-exact : IsExact term
unfolding term_parts
term-exact = called _ _ (made _ (then name-exact (perhaps select-exact refl) (apart _ _ refl))) refl (is_within _ _ refl) (is_within _ _ refl)

pub terms-exact : IsExact terms
unfolding terms_parts
terms-exact = called _ _ (with_commas term-exact refl (apart _ _ refl)) refl (is_within _ _ refl) (is_within _ _ refl)

pub polarity-exact : IsExact polarity
unfolding polarity_parts
polarity-exact = called _ _ (or (made _ (the_mark Plus)) (made _ (the_mark Minus)) refl refl (apart _ _ refl)) refl (is_within _ _ refl) (is_within _ _ refl)

-- ---- edges

pub edge-exact : IsExact edge
unfolding edge_parts
edge-exact = called _ _ (or (made _ (the_word keyword.Posedge)) (made _ (the_word keyword.Negedge)) refl refl (apart _ _ refl)) refl (is_within _ _ refl) (is_within _ _ refl)

pub pair-exact : IsExact pair
unfolding pair_parts
pair-exact = called _ _ (token _ is_pair) refl (is_within _ _ refl) (is_within _ _ refl)

pub check_edge-exact : IsExact check_edge
unfolding check_edge_parts
check_edge-exact =
    let list = before (with_commas pair-exact refl (apart _ _ refl)) (the_mark RightBracket) (apart _ _ refl) in
    let changes = behind (the_word keyword.Edge) (behind (the_mark LeftBracket) list (apart _ _ refl)) (apart _ _ refl) in
    called _ _ (or edge-exact (made _ changes) refl refl (apart _ _ refl)) refl (is_within _ _ refl) (is_within _ _ refl)

-- ---- what a path goes to

pub arrow_terms-exact : (a : Arrow) → IsExact (arrow_terms a)
arrow_terms-exact Parallel = called _ _ (made _ term-exact) refl (is_within _ _ refl) (is_within _ _ refl)
arrow_terms-exact Full = called _ _ terms-exact refl (is_within _ _ refl) (is_within _ _ refl)

pub data_source-exact : IsExact data_source
data_source-exact = made _ (then (perhaps polarity-exact refl) (behind (the_mark Colon) condition-exact (apart _ _ refl)) (apart _ _ refl))

pub destination-exact : (a : Arrow) → IsExact (destination a)
unfolding destination_parts
destination-exact a =
    let both = then (arrow_terms-exact a) (before data_source-exact (the_mark RightParen) (apart _ _ refl)) (apart _ _ refl) in
    let inside = behind (the_mark LeftParen) both (apart _ _ refl) in
    called _ _ (or (made _ (arrow_terms-exact a)) (made _ inside) refl refl (apart _ _ refl)) refl (is_within _ _ refl) (is_within _ _ refl)

pub arrow-exact : (single : Bool) → IsExact (arrow single)
unfolding arrow_parts
arrow-exact true =
    let parallel = behind (only_if-exact kind_of true _ (the_mark symbol.Parallel)) (destination-exact Parallel) (apart _ _ refl) in
    let full = behind (the_mark symbol.Full) (destination-exact Full) (apart _ _ refl) in
    called _ _ (or (made _ parallel) (made _ full) refl refl (apart _ _ refl)) refl (is_within _ _ refl) (is_within _ _ refl)
arrow-exact false =
    let parallel = behind (only_if-exact kind_of false _ (the_mark symbol.Parallel)) (destination-exact Parallel) (apart _ _ refl) in
    let full = behind (the_mark symbol.Full) (destination-exact Full) (apart _ _ refl) in
    called _ _ (or (made _ parallel) (made _ full) refl refl (apart _ _ refl)) refl (is_within _ _ refl) (is_within _ _ refl)

-- ---- paths

pub ends-exact : IsExact ends
unfolding ends_parts
ends-exact =
    let sources = then terms-exact (perhaps polarity-exact refl) (apart _ _ refl) in
    called _ _ (followed-exact kind_of arrow_starts terms_continue false (terms ∙∙ optional polarity) (λ x. arrow (length x.0 == 1)) sources (λ x. arrow-exact (length x.0 == 1)) (λ x k p. p) (λ x k p. p) (λ x p. p) (apart _ _ refl))
    refl (is_within _ _ refl) (is_within _ _ refl)

-- an edge where edges are allowed
pub allowed_edge-exact : (edges : Bool) → IsExact (optional (only_if edges edge))
allowed_edge-exact edges = perhaps (only_if-exact kind_of edges _ edge-exact) (and_right edges false refl)

pub path_body-exact : (limited edges : Bool) → IsExact (path_body limited edges)
unfolding path_body_parts
path_body-exact limited true =
    let rest = then ends-exact (behind (the_mark RightParen) (behind (the_mark Assign) (delays-exact limited) (apart _ _ refl)) (apart _ _ refl)) (apart _ _ refl) in
    called _ _ (behind (the_mark LeftParen) (then (allowed_edge-exact true) rest (apart _ _ refl)) (apart _ _ refl)) refl (is_within _ _ refl) (is_within _ _ refl)
path_body-exact limited false =
    let rest = then ends-exact (behind (the_mark RightParen) (behind (the_mark Assign) (delays-exact limited) (apart _ _ refl)) (apart _ _ refl)) (apart _ _ refl) in
    called _ _ (behind (the_mark LeftParen) (then (allowed_edge-exact false) rest (apart _ _ refl)) (apart _ _ refl)) refl (is_within _ _ refl) (is_within _ _ refl)

pub conditional-exact : (limited : Bool) → IsExact (conditional limited)
unfolding conditional_parts
conditional-exact limited =
    let held = then condition-exact (behind (the_mark RightParen) (path_body-exact limited true) (apart _ _ refl)) (apart _ _ refl) in
    let if_it = behind (the_word keyword.If) (behind (the_mark LeftParen) held (apart _ _ refl)) (apart _ _ refl) in
    let if_no = behind (the_word keyword.IfNone) (path_body-exact limited false) (apart _ _ refl) in
    let others = or (made _ if_no) (made _ (path_body-exact limited true)) refl refl (apart _ _ refl) in
    called _ _ (or (made _ if_it) others refl refl (apart _ _ refl)) refl (is_within _ _ refl) (is_within _ _ refl)

pub path-exact : (limited : Bool) → IsExact (path limited)
unfolding path_parts
path-exact limited = called _ _ (made _ (with_place (conditional-exact limited) refl)) refl (is_within _ _ refl) (is_within _ _ refl)
