-- A condition among the tokens of SDF files is read exactly.
use Rattle.std.proofs.Common.{◌≡◌, ℕ, Bool, true, false, List, Option, Some, None, refl, ap, ◌∙◌}
use Rattle.std.specs.Prelude.{◌||◌, ◌&&◌, not}
use Rattle.cond_expr.specs.declared.tokens.Op.TheVariants as op
use Rattle.cond_expr.specs.Grammar.{primary_starts}
use Rattle.cond_expr.specs.Kinds as words
use Rattle.cond_expr.specs.Token.{Tok}
use Rattle.cond_expr.specs.WordStates.{IsVocabulary, worded, start, allows}
use Rattle.cond_expr.proofs.Words.{worded-exact}
use Rattle.grammar.specs.Exact.{IsWithin}
use Rattle.grammar.specs.Rule.{holds}
use Rattle.sg_logic.specs.declared.values.Value.{Value}
use Rattle.sdf_lex.specs.Tokens.{Meaning, Lexeme, word_token, selected_token, select_token, text_token, unended_token, operator_token, left_token, right_token, colon_token, star_token, other_token}
use Rattle.sdf_tree.specs.Conditions.{word_class, class_of, word_tok, tok_of, index, vocabulary, condition_parts, condition_starts, condition_continues, condition}
use Rattle.sdf_tree.specs.Kinds.{Kind, word_kind, selected_kind, operator_kind, select_kind, text_kind, unended_kind, left_kind, right_kind, colon_kind, star_kind, other_kind, kind_of_meaning, is_select}
use Rattle.sdf_lex.specs.Names.{is_name}
use Rattle.sdf_tree.specs.Words.{constant_of}
use Rattle.sdf_tree.proofs.Building.{IsExact, the_token, called}

no_class : (c : words.Kind) → None ≡ Some c → ⊥
no_class c e = cc

only_class : (c d : words.Kind) → Some c ≡ Some d → c ≡ d
only_class c d e = cc

not_index : (c : words.Kind) → Some words.index_kind ≡ Some c → words.is_index c ≡ false → ⊥
not_index c e h = let f : true ≡ false = ap words.is_index (only_class words.index_kind c e) ∙ h in cc

class_of_word : (o : Option Value) (named : Bool) (text : List ℕ) (c : words.Kind) → word_class o named ≡ Some c → words.kind_of (word_tok o text) ≡ c
class_of_word (Some v) named text c e = only_class words.constant_kind c e
class_of_word None true text c e = only_class words.name_kind c e
class_of_word None false text c e = absurd (no_class c e)

class_of_selected : (named : Bool) (c : words.Kind) → word_class None named ≡ Some c → words.name_kind ≡ c
class_of_selected true c e = only_class words.name_kind c e
class_of_selected false c e = absurd (no_class c e)

class_of_tok : (m : Meaning) (c : words.Kind) → class_of (kind_of_meaning m) ≡ Some c → words.is_index c ≡ false → words.kind_of (tok_of m) ≡ c
class_of_tok (word_token text) c e h = class_of_word (constant_of text) (is_name text) text c e
class_of_tok (selected_token whole name) c e h = class_of_selected (is_name name) c e
class_of_tok (select_token n) c e h = absurd (not_index c e h)
class_of_tok (text_token text) c e h = absurd (no_class c e)
class_of_tok unended_token c e h = absurd (no_class c e)
class_of_tok (operator_token o) c e h = only_class (words.operator_kind o) c e
class_of_tok left_token c e h = only_class words.left_kind c e
class_of_tok right_token c e h = only_class words.right_kind c e
class_of_tok colon_token c e h = absurd (no_class c e)
class_of_tok star_token c e h = absurd (no_class c e)
class_of_tok (other_token b) c e h = absurd (no_class c e)

index_is : (ts : List Lexeme) (i : ℕ) (x : Tok) (j : ℕ) → index.language.Spells ts i x j → words.kind_of x ≡ words.index_kind
index_is ts i x j s = rw (← s.1) refl

index_starts : (k : Kind) → is_select k ≡ true → class_of k ≡ Some words.index_kind
index_starts select_kind h = refl
index_starts (word_kind o text) h = absurd cc
index_starts (selected_kind whole name) h = absurd cc
index_starts (operator_kind o) h = absurd cc
index_starts text_kind h = absurd cc
index_starts unended_kind h = absurd cc
index_starts left_kind h = absurd cc
index_starts right_kind h = absurd cc
index_starts colon_kind h = absurd cc
index_starts star_kind h = absurd cc
index_starts other_kind h = absurd cc

pub is_vocabulary : IsVocabulary vocabulary
is_vocabulary = record {
  class_of_word = λ t c e h. class_of_tok t.meaning c e h;
  class_of_index = index_is;
  index_exact = the_token _ is_select;
  index_full = refl;
  index_starts = index_starts;
  index_closed = λ k. refl;
}

-- ---- the kinds that begin a condition, and that go on with one

starts_so : (o : Option words.Kind) (b : Bool) → (holds (λ c. not (words.is_index c) && allows start c) o || (allows start words.index_kind && b)) ≡ true → holds primary_starts o ≡ true
starts_so None b h = absurd cc
starts_so (Some words.name_kind) b h = refl
starts_so (Some words.constant_kind) b h = refl
starts_so (Some words.left_kind) b h = refl
starts_so (Some words.index_kind) b h = absurd cc
starts_so (Some words.right_kind) b h = absurd cc
starts_so (Some (words.operator_kind op.Tilde)) b h = refl
starts_so (Some (words.operator_kind op.Bang)) b h = refl
starts_so (Some (words.operator_kind op.And)) b h = refl
starts_so (Some (words.operator_kind op.Or)) b h = refl
starts_so (Some (words.operator_kind op.Xor)) b h = refl
starts_so (Some (words.operator_kind op.Equal)) b h = absurd cc
starts_so (Some (words.operator_kind op.Unequal)) b h = absurd cc
starts_so (Some (words.operator_kind op.CaseEqual)) b h = absurd cc
starts_so (Some (words.operator_kind op.CaseUnequal)) b h = absurd cc
starts_so (Some (words.operator_kind op.TildeXor)) b h = absurd cc
starts_so (Some (words.operator_kind op.XorTilde)) b h = absurd cc
starts_so (Some (words.operator_kind op.AndAnd)) b h = absurd cc
starts_so (Some (words.operator_kind op.OrOr)) b h = absurd cc

starts_within : IsWithin (worded vocabulary).starts condition_starts
starts_within k h = starts_so (class_of k) (is_select k) h

no_word_goes_on : (o : Option Value) (named : Bool) → holds (λ c. words.is_index c || words.is_binary_up_to 6 c) (word_class o named) ≡ true → ⊥
no_word_goes_on (Some v) named h = cc
no_word_goes_on None true h = cc
no_word_goes_on None false h = cc

continues_within : IsWithin (worded vocabulary).continues condition_continues
continues_within (word_kind o text) h = absurd (no_word_goes_on (constant_of text) (is_name text) h)
continues_within (selected_kind whole name) h = absurd (no_word_goes_on None (is_name name) h)
continues_within (operator_kind o) h = h
continues_within select_kind h = refl
continues_within text_kind h = absurd cc
continues_within unended_kind h = absurd cc
continues_within left_kind h = absurd cc
continues_within right_kind h = absurd cc
continues_within colon_kind h = absurd cc
continues_within star_kind h = absurd cc
continues_within other_kind h = absurd cc

pub condition-exact : IsExact condition
unfolding condition_parts
condition-exact = called _ _ (worded-exact vocabulary is_vocabulary) refl starts_within continues_within
