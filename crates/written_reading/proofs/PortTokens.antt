-- The tokens of words of the language, of ports, edges and the words of conditions.
use Rattle.std.specs.Prelude.{◌≡◌, ◌≢◌, ◌+◌, ℤ, is_some, unwrap_or, not, Bool, true, false, List, [], ◌∷◌, ◌++◌, Option, Some, None, codes}
use Rattle.std.specs.List.{AllByRecursion}
use Rattle.std.proofs.Common.{ℕ, refl, sym, ap, subst, ◌∙◌}
use Rattle.std.proofs.lemmas.Bool.{eq-eqb}
use Rattle.std.proofs.lemmas.List.{map-id}
use Rattle.grammar.specs.Language.{repetition}
use Rattle.grammar.specs.Rule.{◌∙∙◌, holds, mapped, one}
use Rattle.sg_logic.specs.declared.values.Value.{Value}
use Rattle.sg_logic.specs.declared.values.Value.TheVariants.{Zero, One, X, Z}
use Rattle.cond_expr.specs.declared.tokens.Tok.TheVariants as tok
use Rattle.cond_expr.specs.Grammar.{IsCondition}
use Rattle.cond_expr.specs.Kinds.{is_index}
use Rattle.cond_expr.specs.Token.{Tok}
use Rattle.cond_expr.specs.Vocabulary.{any_word, is_word as is_word_of}
use Rattle.vl_token.specs.Constants.{low_bits}
use Rattle.sdf_lex.specs.Tokens.{Meaning, Lexeme, word_token, selected_token, select_token, operator_token, left_token, right_token}
use Rattle.sdf_lex.specs.Names.{is_name}
use Rattle.sdf_tree.specs.declared.keywords.Keyword.{Keyword}
use Rattle.sdf_tree.specs.declared.keywords.Keyword.TheVariants as keyword
use Rattle.sdf_tree.specs.declared.tree.Edge.{Edge}
use Rattle.sdf_tree.specs.declared.tree.Edge.TheVariants as edge
use Rattle.sdf_tree.specs.declared.words.Divider.TheVariants.{Slash}
use Rattle.sdf_tree.specs.Conditions.{word_class, word_tok, tok_of, index, vocabulary, condition_parts, condition}
use Rattle.sdf_tree.specs.Keywords.{keyword_of}
use Rattle.sdf_tree.specs.Kinds.{word_kind, is_select, is_port, is_word, is_word_that, edge_of, named_by, names, port_path, select_of, kind_of, kind_of_meaning}
use Rattle.sdf_tree.specs.Rules.{Grammar, token, word, optional}
use Rattle.sdf_tree.specs.Values.{port_parts, port, edge_parts, edge_word}
use Rattle.sdf_tree.specs.Words.{constant_of}
use Rattle.sdf_tree.specs.Written.{Port}
use Rattle.written_model.specs.Names.{name_text, index_text, BitName}
use Rattle.written_model.specs.Text.{value_letter, edge_text}
use Rattle.written_model.specs.Tree.{port_of_name}
use Rattle.written_reading.specs.Meanings.{index_in_front, name_meaning, select_meanings, token_meaning, words_meanings, bit_meanings}
use Rattle.written_reading.specs.Named.{IsWord}
use Rattle.written_reading.proofs.NameTexts.{called_name, is_name_text, name_constant, name_is_port}
use Rattle.written_reading.proofs.Tells.{Tells, tells_token, tells_mark, tells_image, tells_none, tells_some, tells_left, tells_right, tells_both}

-- ---- words of the language

is_that_word : (w : Keyword) (text : List ℕ) → keyword_of text ≡ Some w → is_word w (word_kind (keyword_of text) text) ≡ true
is_that_word w text e = ap (λ (o : Option Keyword). is_word w (word_kind o text)) e ∙ eq-eqb _ _ refl

pub tells_word : (w : Keyword) (text : List ℕ) → keyword_of text ≡ Some w → Tells (word w).language (λ u. Unit {0}) (word_token text ∷ [])
tells_word w text e = tells_mark (is_word w) (word_token text) (is_that_word w text e)

-- what such a word names
module _ {A : Type 0} (f : Keyword → Option A) (a : A) where
  pub tells_named : (w : Keyword) (text : List ℕ) (named : A) → keyword_of text ≡ Some w → f w ≡ Some named
      → Tells (token (λ (t : Lexeme). names f a t.meaning) (is_word_that (λ w. is_some (f w)))).language (λ x. x ≡ named) (word_token text ∷ [])
  tells_named w text named e h =
      tells_token (λ (t : Lexeme). names f a t.meaning) (is_word_that (λ w. is_some (f w))) (λ x. x ≡ named) (word_token text)
      (ap (λ (o : Option Keyword). is_word_that (λ w. is_some (f w)) (word_kind o text)) e ∙ ap is_some h)
      (λ t m. ap (λ (n : Meaning). names f a n) m ∙ (ap (λ (o : Option Keyword). named_by f a o) e ∙ is_named (f w) h))
    where
      is_named : (o : Option A) → o ≡ Some named → unwrap_or o a ≡ named
      is_named (Some x) e = cc
      is_named None e = absurd cc

posedge_word : keyword_of (codes "posedge") ≡ Some keyword.Posedge
unfolding keyword_of
posedge_word = refl

negedge_word : keyword_of (codes "negedge") ≡ Some keyword.Negedge
unfolding keyword_of
negedge_word = refl

-- the edges that have a word
abbrev pub IsWritten : Edge → Type 0
IsWritten edge.Posedge = Unit {0}
IsWritten edge.Negedge = Unit {0}
IsWritten _ = ⊥

pub tells_edge : (e : Edge) → IsWritten e → Tells edge_word.language (λ x. x ≡ e) (word_token (edge_text e) ∷ [])
unfolding edge_parts
tells_edge edge.Posedge h = tells_named edge_of edge.Posedge keyword.Posedge (codes "posedge") edge.Posedge posedge_word refl
tells_edge edge.Negedge h = tells_named edge_of edge.Posedge keyword.Negedge (codes "negedge") edge.Negedge negedge_word refl
tells_edge _ h = absurd h

-- ---- ports

abbrev path_token : Grammar (List ℕ)
path_token = token (λ t. port_path t.meaning) (is_port Slash)

abbrev bit_token : Grammar ℤ
bit_token = token (λ t. select_of t.meaning) is_select

tells_path : (name : List ℕ) → name ≢ [] → (index : Option ℤ) → Tells path_token.language (λ p. p ≡ name_text name) (name_meaning (name_text name) index ∷ [])
tells_path name some None = tells_token (λ t. port_path t.meaning) (is_port Slash) (λ p. p ≡ name_text name) (word_token (name_text name)) (name_is_port name some) (λ t e. ap port_path e)
tells_path name some (Some i) = tells_token (λ t. port_path t.meaning) (is_port Slash) (λ p. p ≡ name_text name) (selected_token (name_text name ++ index_text (Some i)) (name_text name)) (name_is_port name some) (λ t e. ap port_path e)

abbrev select_parts : Grammar (Option ℤ)
select_parts = optional bit_token

pub tells_port : (n : BitName) → n.name ≢ [] → Tells (port Slash).language (λ p. p ≡ port_of_name n) (bit_meanings n)
unfolding port_parts
tells_port n some = by n.index
  where
    made : (o : Option ℤ) (x : List ℕ × Option ℤ) → (x.0 ≡ name_text n.name) × (x.1 ≡ o) → (let p : Port = record { path = x.0; bit = x.1 } in p) ≡ record { path = name_text n.name; bit = o }
    made o x p = ap (λ (y : List ℕ). let q : Port = record { path = y; bit = x.1 } in q) p.0 ∙ ap (λ (y : Option ℤ). let q : Port = record { path = name_text n.name; bit = y } in q) p.1

    by : (o : Option ℤ) → Tells (port Slash).language (λ p. p ≡ record { path = name_text n.name; bit = o }) (name_meaning (name_text n.name) o ∷ select_meanings o)
    by None =
        tells_image (λ (x : List ℕ × Option ℤ). let q : Port = record { path = x.0; bit = x.1 } in q) (path_token ∙∙ select_parts).language (λ x. (x.0 ≡ name_text n.name) × (x.1 ≡ None)) (λ p. p ≡ record { path = name_text n.name; bit = None }) (name_meaning (name_text n.name) None ∷ [])
        (tells_both path_token.language select_parts.language (λ p. p ≡ name_text n.name) (λ o. o ≡ None) (name_meaning (name_text n.name) None ∷ []) [] (tells_path n.name some None) (tells_none bit_token.language)) (made None)
    by (Some i) =
        tells_image (λ (x : List ℕ × Option ℤ). let q : Port = record { path = x.0; bit = x.1 } in q) (path_token ∙∙ select_parts).language (λ x. (x.0 ≡ name_text n.name) × (x.1 ≡ Some i)) (λ p. p ≡ record { path = name_text n.name; bit = Some i }) (name_meaning (name_text n.name) (Some i) ∷ select_token i ∷ [])
        (tells_both path_token.language select_parts.language (λ p. p ≡ name_text n.name) (λ o. o ≡ Some i) (name_meaning (name_text n.name) (Some i) ∷ []) (select_token i ∷ []) (tells_path n.name some (Some i))
        (tells_some bit_token.language (λ x. x ≡ i) (λ o. o ≡ Some i) (select_token i ∷ []) (tells_token (λ t. select_of t.meaning) is_select (λ x. x ≡ i) (select_token i) refl (λ t e. ap select_of e)) (λ x e. ap (λ (y : ℤ). Some y) e))) (made (Some i))

-- ---- conditions

abbrev single : Grammar Tok
single = any_word vocabulary

tells_alone : (m : Meaning) (t : Tok) → is_word_of vocabulary (kind_of_meaning m) ≡ true → tok_of m ≡ t → Tells single.language (λ x. x ≡ t) (m ∷ [])
tells_alone m t h e =
    tells_left (mapped (λ (l : Lexeme). tok_of l.meaning) (one kind_of (is_word_of vocabulary))).language index.language (λ x. x ≡ t) (m ∷ [])
    (tells_token (λ (l : Lexeme). tok_of l.meaning) (is_word_of vocabulary) (λ x. x ≡ t) m h (λ l f. ap tok_of f ∙ e))

named_word : (o : Option Value) (named : Bool) → o ≡ None → named ≡ true → holds (λ c. not (is_index c)) (word_class o named) ≡ true
named_word None true e h = refl
named_word None false e h = absurd cc
named_word (Some v) named e h = absurd cc

const_word : (v : Value) → Tells single.language (λ x. x ≡ tok.Const v) (word_token (codes "1'b" ++ value_letter v ∷ []) ∷ [])
unfolding constant_of low_bits
const_word Zero = tells_alone (word_token (codes "1'b0")) (tok.Const Zero) refl refl
const_word One = tells_alone (word_token (codes "1'b1")) (tok.Const One) refl refl
const_word X = tells_alone (word_token (codes "1'bx")) (tok.Const X) refl refl
const_word Z = tells_alone (word_token (codes "1'bz")) (tok.Const Z) refl refl

tells_tok : (t : Tok) (behind : Option ℤ) → IsWord t → Tells single.language (λ x. x ≡ t) (token_meaning t behind ∷ [])
tells_tok (tok.Name name) None w =
    tells_alone (word_token (name_text name)) (tok.Name name) (named_word (constant_of (name_text name)) (is_name (name_text name)) (name_constant name w.some) (is_name_text name w.some))
    (ap (λ (o : Option Value). word_tok o (name_text name)) (name_constant name w.some) ∙ ap (λ (n : List ℕ). tok.Name n) (called_name name))
tells_tok (tok.Name name) (Some i) w =
    tells_alone (selected_token (name_text name ++ index_text (Some i)) (name_text name)) (tok.Name name) (named_word None (is_name (name_text name)) refl (is_name_text name w.some)) (ap (λ (n : List ℕ). tok.Name n) (called_name name))
tells_tok (tok.Index i) behind w =
    tells_right (mapped (λ (l : Lexeme). tok_of l.meaning) (one kind_of (is_word_of vocabulary))).language index.language (λ x. x ≡ tok.Index i) (select_token i ∷ [])
    (tells_token (λ t. tok.Index (select_of t.meaning)) is_select (λ x. x ≡ tok.Index i) (select_token i) refl (λ t e. ap (λ (m : Meaning). tok.Index (select_of m)) e))
tells_tok (tok.Const v) behind w = const_word v
tells_tok (tok.Op o) behind w = tells_alone (operator_token o) (tok.Op o) refl refl
tells_tok tok.Left behind w = tells_alone left_token tok.Left refl refl
tells_tok tok.Right behind w = tells_alone right_token tok.Right refl refl

tells_words : (ts : List Tok) → AllByRecursion IsWord ts → Tells (repetition single.language) (λ xs. xs ≡ ts) (words_meanings ts)
tells_words [] w ls i j s = ([], s, refl)
tells_words (t ∷ ts) w ls i j s =
    let r = tells_tok t (index_in_front ts) w.0 ls i (i + 1) (s.0, refl) in
    let q = tells_words ts w.1 ls (i + 1) j s.1 in
    (r.0 ∷ q.0, (i + 1, r.1, q.1), (ap (λ (x : Tok). x ∷ q.0) r.2 ∙ ap (λ (xs : List Tok). t ∷ xs) q.2))

pub tells_condition : (ts : List Tok) → IsCondition ts → AllByRecursion IsWord ts → Tells condition.language (λ xs. xs ≡ ts) (words_meanings ts)
unfolding condition_parts
tells_condition ts c w ls i j s =
    let r = tells_words ts w ls i j s in
    (r.0, (r.1, subst IsCondition (sym (map-id r.0 ∙ r.2)) c), r.2)
