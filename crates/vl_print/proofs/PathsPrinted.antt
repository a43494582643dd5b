-- What is put for paths spells them.
use Rattle.std.proofs.Common.{Bool, true, false, [], ◌∷◌, refl}
use Rattle.std.specs.Prelude.{length, ◌==◌}
use Rattle.sg_text.specs.declared.places.Place.{Place}
use Rattle.sg_text.specs.declared.words.Keyword.TheVariants as keyword
use Rattle.grammar.specs.Exact.{Exact}
use Rattle.grammar.specs.Language.{sequence, sequence_by}
use Rattle.grammar.specs.Rule.{Rule, ◌∙∙◌, ◌▸◌, ◌◂◌, only_if}
use Rattle.grammar.proofs.Laws.{only_if-exact}
use Rattle.grammar.proofs.Printing as printing
use Rattle.vl_token.specs.declared.symbols.Symbol.TheVariants.{Colon, Plus, Minus, Assign, LeftParen, RightParen, LeftBracket, RightBracket}
use Rattle.vl_token.specs.declared.symbols.Symbol.TheVariants as symbol
use Rattle.vl_token.specs.Tokens.{Lexeme, word_token, symbol_token, pair_token}
use Rattle.vl_tree.specs.declared.paths.Arrow.{Arrow}
use Rattle.vl_tree.specs.declared.paths.Arrow.TheVariants.{Parallel, Full}
use Rattle.vl_tree.specs.declared.paths.Polarity.TheVariants.{Positive, Negative}
use Rattle.vl_tree.specs.Amounts.{delays}
use Rattle.vl_tree.specs.Conditions.{condition}
use Rattle.vl_tree.specs.Expressions.{name, select}
use Rattle.vl_tree.specs.Kinds.{Kind, kind_of, is_pair, is_symbol, is_word, pair_of}
use Rattle.vl_tree.specs.Paths.{term_parts, term, terms_parts, terms, polarity_parts, polarity, edge_parts, edge, pair_parts, pair, check_edge_parts, check_edge, arrow_terms, data_source, destination_parts, destination, arrow_parts, arrow, Ends, ends_parts, ends, PathBody, path_body_parts, path_body, conditional_parts, conditional, path_parts, path}
use Rattle.vl_print.specs.Printing.{Tokens, nowhere, put_mark, mark_at, put_optional}
use Rattle.vl_tree.specs.Rules.{mark, optional, listed}
use Rattle.vl_print.specs.SpecifyPrinting.{put_term, put_terms, put_delays, put_pair, put_edge, put_polarity, put_arrow, put_data_source, put_destination, put_path_opening, put_path}
use Rattle.vl_tree.specs.Tree.{posedge, negedge, pairs, PathCondition, always, if_none, if_words, Destination}
use Rattle.vl_tree.proofs.AllKinds.{apart}
use Rattle.vl_print.proofs.AmountsPrinted.{guarded_prints, delays_prints}
use Rattle.vl_tree.proofs.Building.{the_mark, then, with_commas, perhaps}
use Rattle.vl_tree.proofs.ConditionsExact.{condition-exact}
use Rattle.vl_print.proofs.ConditionsPrinted.{condition_prints}
use Rattle.vl_tree.proofs.ExpressionsExact.{name-exact}
use Rattle.vl_print.proofs.ExpressionsPrinted.{name_prints, name_own, select_prints}
use Rattle.vl_tree.proofs.Lists.{comma_term, comma_pair}
use Rattle.vl_tree.proofs.PathsExact.{term-exact, terms-exact, polarity-exact, pair-exact, arrow_terms-exact, data_source-exact, ends-exact, allowed_edge-exact}
use Rattle.vl_print.proofs.Printed.{Prints, PrintsAt, Own, token_printed, mapped_prints, seq_prints, either_prints, optional_prints, placed_prints, listed_prints, mark_prints, behind_mark, before_mark, mark_first, mapped_first, word_comes_first, word_first, word_says, either_first, own_mapped, own_seq}

-- one rule after another, where the first value chooses the second
pub followed_prints : {A B : Type 0} (a : Rule Lexeme Kind A) (f : A → Rule Lexeme Kind B) (put_a : A → Tokens → Tokens) (put_b : B → Tokens → Tokens) → Exact kind_of a → Prints a.language put_a → ((x : A) → Prints (f x).language put_b)
    → Prints (sequence_by a.language (λ x. (f x).language)) (λ x out. put_b x.1 (put_a x.0 out))
followed_prints a f put_a put_b exact first second x (ts, i, j, (m, s, t)) out =
    let mid = put_a x.0 out in
    let r = printing.appends_seq kind_of a (f x.0).language exact out mid (put_b x.1 mid) x.0 x.1 (first x.0 (ts, i, m, s) out) (second x.0 x.1 (ts, m, j, t) mid) in
    record { more = r.more; is = r.is; spells = r.spells }

pub term_prints : Prints term.language put_term
unfolding term_parts
term_prints = mapped_prints _ _ _ put_term (seq_prints name (optional select).language _ _ name-exact name_prints (optional_prints select.language _ select_prints)) (λ x out. refl)

pub term_own : Own term.language put_term
unfolding term_parts
term_own = own_mapped _ (sequence name.language (optional select).language) _ put_term (own_seq name (optional select).language _ _ name-exact refl name_prints (optional_prints select.language _ select_prints) name_own) (λ x out. refl)

pub terms_prints : Prints terms.language put_terms
unfolding terms_parts
terms_prints = listed_prints term put_term term-exact comma_term term_prints

polarity_prints : Prints polarity.language put_polarity
unfolding polarity_parts
polarity_prints =
    either_prints _ _ put_polarity
    (word_says (is_symbol Plus) (symbol_token Plus) nowhere Positive put_polarity refl (λ out. refl))
    (word_says (is_symbol Minus) (symbol_token Minus) nowhere Negative put_polarity refl (λ out. refl))

-- ---- edges

edge_first : PrintsAt edge.language put_edge
unfolding edge_parts
edge_first =
    either_first _ _ put_edge
    (word_first (is_word keyword.Posedge) (word_token keyword.Posedge) posedge put_edge refl (λ p out. refl))
    (word_first (is_word keyword.Negedge) (word_token keyword.Negedge) negedge put_edge refl (λ p out. refl))

edge_prints : Prints edge.language (put_edge nowhere)
unfolding edge_parts
edge_prints =
    either_prints _ _ (put_edge nowhere)
    (word_says (is_word keyword.Posedge) (word_token keyword.Posedge) nowhere posedge (put_edge nowhere) refl (λ out. refl))
    (word_says (is_word keyword.Negedge) (word_token keyword.Negedge) nowhere negedge (put_edge nowhere) refl (λ out. refl))

pair_prints : Prints pair.language put_pair
unfolding pair_parts
pair_prints x s out = token_printed (λ t. pair_of t.meaning) is_pair (pair_token x.from x.to) nowhere x out refl refl

pub check_edge_first : PrintsAt check_edge.language put_edge
unfolding check_edge_parts
check_edge_first =
    let list = before_mark RightBracket (listed pair) _ (with_commas pair-exact refl (apart _ _ refl)) (listed_prints pair put_pair pair-exact comma_pair pair_prints) in
    let opened = behind_mark LeftBracket (listed pair ◂ mark RightBracket).language _ list in
    let changes = mapped_first pairs _ _ put_edge (word_comes_first keyword.Edge (mark LeftBracket ▸ (listed pair ◂ mark RightBracket)).language _ opened) (λ p x out. refl) in
    either_first _ _ put_edge edge_first changes

-- ---- what a path goes to

arrow_terms_prints : (a : Arrow) → Prints (arrow_terms a).language put_terms
arrow_terms_prints Parallel = mapped_prints (λ t. t ∷ []) _ _ put_terms term_prints (λ x out. refl)
arrow_terms_prints Full = terms_prints

data_source_prints : Prints data_source.language put_data_source
data_source_prints =
    let words = behind_mark Colon condition.language _ condition_prints in
    mapped_prints _ _ _ put_data_source (seq_prints (optional polarity) (mark Colon ▸ condition).language _ _ (perhaps polarity-exact refl) (optional_prints _ _ polarity_prints) words) (λ x out. refl)

destination_prints : (a : Arrow) → Prints (destination a).language put_destination
unfolding destination_parts
destination_prints a =
    let closed = before_mark RightParen data_source put_data_source data_source-exact data_source_prints in
    let both = seq_prints (arrow_terms a) (data_source ◂ mark RightParen).language _ _ (arrow_terms-exact a) (arrow_terms_prints a) closed in
    let inside = behind_mark LeftParen (arrow_terms a ∙∙ (data_source ◂ mark RightParen)).language _ both in
    either_prints _ _ put_destination (mapped_prints _ _ _ put_destination (arrow_terms_prints a) (λ x out. refl)) (mapped_prints _ _ _ put_destination inside (λ x out. refl))

abbrev put_connection : Arrow × Destination → Tokens → Tokens
put_connection x out = put_destination x.1 (put_arrow x.0 out)

abbrev put_parallel : Destination → Tokens → Tokens
put_parallel d out = put_destination d (put_mark symbol.Parallel out)

arrow_prints : (single : Bool) → Prints (arrow single).language put_connection
unfolding arrow_parts
arrow_prints single =
    let sign = guarded_prints single (mark symbol.Parallel).language (λ _ out. put_mark symbol.Parallel out) (mark_prints symbol.Parallel) in
    let both = seq_prints (only_if single (mark symbol.Parallel)) (destination Parallel).language _ _ (only_if-exact kind_of single _ (the_mark symbol.Parallel)) sign (destination_prints Parallel) in
    let parallel = mapped_prints (λ x. x.1) _ _ put_parallel both (λ x out. refl) in
    let full = behind_mark symbol.Full (destination Full).language _ (destination_prints Full) in
    either_prints _ _ put_connection (mapped_prints (λ d. (Parallel, d)) _ _ put_connection parallel (λ x out. refl)) (mapped_prints (λ d. (Full, d)) _ _ put_connection full (λ x out. refl))

-- ---- paths

abbrev put_ends : Ends → Tokens → Tokens
put_ends x out = put_connection x.1 (put_optional put_polarity x.0.1 (put_terms x.0.0 out))

ends_prints : Prints ends.language put_ends
unfolding ends_parts
ends_prints =
    let sources = seq_prints terms (optional polarity).language _ _ terms-exact terms_prints (optional_prints _ _ polarity_prints) in
    followed_prints (terms ∙∙ optional polarity) (λ x. arrow (length x.0 == 1)) _ put_connection (then terms-exact (perhaps polarity-exact refl) (apart _ _ refl)) sources (λ x. arrow_prints (length x.0 == 1))

-- what stands behind the first parenthesis
abbrev put_body : PathBody → Tokens → Tokens
put_body b out = put_delays b.1.1 (put_mark Assign (put_mark RightParen (put_ends b.1.0 (put_optional (put_edge nowhere) b.0 out))))

inner_prints : (limited edges : Bool) → Prints (optional (only_if edges edge) ∙∙ (ends ∙∙ (mark RightParen ▸ (mark Assign ▸ delays limited)))).language put_body
inner_prints limited edges =
    let list = behind_mark RightParen (mark Assign ▸ delays limited).language _ (behind_mark Assign (delays limited).language _ (delays_prints limited)) in
    let rest = seq_prints ends (mark RightParen ▸ (mark Assign ▸ delays limited)).language _ _ ends-exact ends_prints list in
    let change = optional_prints _ _ (guarded_prints edges edge.language _ edge_prints) in
    seq_prints (optional (only_if edges edge)) (ends ∙∙ (mark RightParen ▸ (mark Assign ▸ delays limited))).language _ _ (allowed_edge-exact edges) change rest

body_prints : (limited edges : Bool) → Prints (path_body limited edges).language (λ b out. put_body b (put_mark LeftParen out))
unfolding path_body_parts
body_prints limited edges = behind_mark LeftParen (optional (only_if edges edge) ∙∙ (ends ∙∙ (mark RightParen ▸ (mark Assign ▸ delays limited)))).language _ (inner_prints limited edges)

body_first : (limited edges : Bool) → PrintsAt (path_body limited edges).language (λ p b out. put_body b (mark_at LeftParen p out))
unfolding path_body_parts
body_first limited edges = mark_first LeftParen (optional (only_if edges edge) ∙∙ (ends ∙∙ (mark RightParen ▸ (mark Assign ▸ delays limited)))).language _ (inner_prints limited edges)

abbrev put_conditional : Place → PathCondition × PathBody → Tokens → Tokens
put_conditional p x out = put_body x.1 (put_path_opening p x.0 out)

conditional_first : (limited : Bool) → PrintsAt (conditional limited).language put_conditional
unfolding conditional_parts
conditional_first limited =
    let behind = behind_mark RightParen (path_body limited true).language _ (body_prints limited true) in
    let both = seq_prints condition (mark RightParen ▸ path_body limited true).language _ _ condition-exact condition_prints behind in
    let held = behind_mark LeftParen (condition ∙∙ (mark RightParen ▸ path_body limited true)).language _ both in
    let first = word_comes_first keyword.If (mark LeftParen ▸ (condition ∙∙ (mark RightParen ▸ path_body limited true))).language _ held in
    let second = word_comes_first keyword.IfNone (path_body limited false).language _ (body_prints limited false) in
    either_first _ _ put_conditional (mapped_first (λ x. (if_words x.0, x.1)) _ _ put_conditional first (λ p x out. refl))
    (either_first _ _ put_conditional (mapped_first (λ b. (if_none, b)) _ _ put_conditional second (λ p x out. refl)) (mapped_first (λ b. (always, b)) _ _ put_conditional (body_first limited true) (λ p x out. refl)))

pub path_prints : (limited : Bool) → Prints (path limited).language put_path
unfolding path_parts
path_prints limited = placed_prints _ _ _ put_path (conditional_first limited) (λ x out. refl)
