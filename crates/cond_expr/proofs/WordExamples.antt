-- Conditions among other tokens, where an index is three of them, and the words keep their places.
use Rattle.std.proofs.Common.{◌≡◌, ℕ, Bool, true, false, List, [], ◌∷◌, Option, Some, None, refl, ap, ◌∙◌}
use Rattle.std.specs.Prelude.{codes, pos}
use Rattle.grammar.specs.Exact.{Apart, Exact}
use Rattle.grammar.specs.Reads.{FailsAt}
use Rattle.grammar.specs.Rule.{Rule, no_kind, one, mapped, quoted, ◌▸◌, ◌◂◌}
use Rattle.grammar.specs.States.{read_by}
use Rattle.grammar.proofs.Laws.{mapped-exact, one-exact, quoted-exact, seq-exact, all_failed}
use Rattle.cond_expr.specs.declared.tokens.Op.TheVariants.{Equal}
use Rattle.cond_expr.specs.Token.{Tok}
use Rattle.cond_expr.specs.declared.tokens.Tok.TheVariants as tok
use Rattle.cond_expr.specs.Kinds.{Kind, index_kind, is_index}
use Rattle.cond_expr.specs.Kinds.{kind_of as word_kind}
use Rattle.cond_expr.specs.Vocabulary.{Vocabulary}
use Rattle.cond_expr.specs.WordStates.{IsVocabulary, worded}
use Rattle.cond_expr.proofs.Words.{worded-exact}

data Class : Type 0 where
  word_class : Kind → Class
  left_bracket_class right_bracket_class number_class semicolon_class : Class

-- a word and a number come with their place
data Token : Type 0 where
  word : ℕ → Tok → Token
  left_bracket right_bracket semicolon : Token
  number : ℕ → ℕ → Token

abbrev class_of : Token → Class
class_of (word at w) = word_class (word_kind w)
class_of left_bracket = left_bracket_class
class_of right_bracket = right_bracket_class
class_of semicolon = semicolon_class
class_of (number at n) = number_class

abbrev is_left_bracket : Class → Bool
is_left_bracket left_bracket_class = true
is_left_bracket _ = false

abbrev is_right_bracket : Class → Bool
is_right_bracket right_bracket_class = true
is_right_bracket _ = false

abbrev is_number : Class → Bool
is_number number_class = true
is_number _ = false

abbrev class : Class → Option Kind
class (word_class c) = Some c
class left_bracket_class = Some index_kind
class _ = None

record Word : Type 0 where
  place : ℕ
  token : Tok

abbrev word_of : Token → Word
word_of (word at w) = record { place = at; token = w }
word_of _ = record { place = 0; token = tok.Left }

abbrev index_of : Token → Word
index_of (number at n) = record { place = at; token = tok.Index (pos n) }
index_of _ = record { place = 0; token = tok.Index (pos 0) }

-- "[" number "]"
abbrev index : Rule Token Class Word
index = quoted class_of is_left_bracket ▸ (mapped index_of (one class_of is_number) ◂ quoted class_of is_right_bracket)

abbrev vocabulary : Vocabulary Token Class Word
vocabulary = record { kind = class_of; class = class; word = word_of; index = index; tok = λ w. w.token }

none_apart : (d : Class → Bool) → Apart no_kind d
none_apart d k p q = absurd cc

index-exact : Exact class_of index
index-exact =
    let number = mapped-exact class_of index_of (one class_of is_number) (one-exact class_of is_number) in
    let closed = mapped-exact class_of _ _ (seq-exact class_of _ _ number (quoted-exact class_of is_right_bracket) (none_apart is_right_bracket)) in
    mapped-exact class_of _ _ (seq-exact class_of _ _ (quoted-exact class_of is_left_bracket) closed (none_apart is_number))

kind_of_index : (t : Token) → word_kind (index_of t).token ≡ index_kind
kind_of_index (number at n) = refl
kind_of_index (word at w) = refl
kind_of_index left_bracket = refl
kind_of_index right_bracket = refl
kind_of_index semicolon = refl

kind_of_word : (t : Token) (c : Kind) → class (class_of t) ≡ Some c → is_index c ≡ false → word_kind (word_of t).token ≡ c
kind_of_word (word at w) c e h = cc
kind_of_word left_bracket c e h = let f : index_kind ≡ c = cc in absurd (let g : true ≡ false = ap is_index f ∙ h in cc)
kind_of_word right_bracket c e h = absurd cc
kind_of_word semicolon c e h = absurd cc
kind_of_word (number at n) c e h = absurd cc

index_is : (ts : List Token) (i : ℕ) (x : Word) (j : ℕ) → index.language.Spells ts i x j → word_kind x.token ≡ index_kind
index_is ts i x j s = let p = s.2.2 in rw (← s.1) (rw (← p.1) (rw (← p.2.1.1) (kind_of_index p.2.1.0)))

starts_index : (k : Class) → is_left_bracket k ≡ true → class k ≡ Some index_kind
starts_index left_bracket_class h = refl
starts_index _ h = absurd cc

is_vocabulary : IsVocabulary vocabulary
is_vocabulary = record {
  class_of_word = kind_of_word;
  class_of_index = index_is;
  index_exact = index-exact;
  index_full = refl;
  index_starts = starts_index;
  index_closed = λ k. refl;
}

condition-exact : Exact class_of (worded vocabulary)
condition-exact = worded-exact vocabulary is_vocabulary

abbrev a : Tok
a = tok.Name (codes "a")

-- a[3] == a;, the words with the places where they begin
abbrev text : List Token
text = word 0 a ∷ left_bracket ∷ number 2 3 ∷ right_bracket ∷ word 4 (tok.Op Equal) ∷ word 6 a ∷ semicolon ∷ []

abbrev at : ℕ → Tok → Word
at p t = record { place = p; token = t }

abbrev words : List Word
words = at 0 a ∷ at 2 (tok.Index (pos 3)) ∷ at 4 (tok.Op Equal) ∷ at 6 a ∷ []

up_to_the_semicolon : (worded vocabulary).language.Spells text 0 words 6
unfolding read_by
up_to_the_semicolon = (condition-exact.found text 0 words 6 refl).0

-- a[; fails where the number is missing
no_number : FailsAt (worded vocabulary).language (word 0 a ∷ left_bracket ∷ semicolon ∷ []) 2
unfolding read_by
no_number = all_failed class_of (worded vocabulary) condition-exact (word 0 a ∷ left_bracket ∷ semicolon ∷ []) 2 refl

-- (a)[ is a condition up to the bracket: behind a parenthesis no index may stand
ends_at_the_bracket : (worded vocabulary).language.Spells (word 0 tok.Left ∷ word 1 a ∷ word 2 tok.Right ∷ left_bracket ∷ []) 0 (at 0 tok.Left ∷ at 1 a ∷ at 2 tok.Right ∷ []) 3
unfolding read_by
ends_at_the_bracket = (condition-exact.found (word 0 tok.Left ∷ word 1 a ∷ word 2 tok.Right ∷ left_bracket ∷ []) 0 (at 0 tok.Left ∷ at 1 a ∷ at 2 tok.Right ∷ []) 3 refl).0
