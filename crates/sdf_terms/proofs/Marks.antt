-- Reading one token by what stands there.
use Rattle.std.proofs.Common.{◌≡◌, ℕ, ◌+◌, Bool, true, false, List, Option, Some, None, Result, Ok, Err, refl}
use Rattle.sg_text.specs.declared.places.Place.{Place}
use Rattle.std.specs.Prelude.{slice_get, is_some}
use Rattle.grammar.specs.Rule.{is_of, stands, read_one}
use Rattle.grammar.specs.Reading.{◌>>=◌}
use Rattle.sdf_lex.specs.Tokens.{Meaning, Lexeme, word_token, selected_token, select_token, text_token, unended_token, operator_token, left_token, right_token, colon_token, star_token, other_token}
use Rattle.sdf_tree.specs.declared.keywords.Keyword.{Keyword}
use Rattle.sdf_tree.specs.Keywords.{keyword_of}
use Rattle.sdf_tree.specs.Kinds.{Kind, word_kind, kind_of, kind_of_meaning, is_word_that, names}
use Rattle.sdf_tree.specs.Rules.{mark, token}
use Rattle.sdf_terms.specs.Tokens.{found, named_there, word_of_meaning, word_there}

module _ (is : Kind → Bool) (ts : List Lexeme) (i : ℕ) where
  abbrev behind : Lexeme × ℕ → Result (Unit {0} × ℕ) ℕ
  behind x = Ok (tt, x.1)

  pub mark_stands : stands kind_of is ts i ≡ true → (mark is).read ts i ≡ Ok (tt, i + 1)
  mark_stands h = go (slice_get ts i) h
    where
      go : (o : Option Lexeme) → is_of kind_of is o ≡ true → (read_one kind_of is i o >>= behind) ≡ Ok (tt, i + 1)
      go None h = absurd cc
      go (Some t) h = rw h refl

  pub mark_fails : stands kind_of is ts i ≡ false → (mark is).read ts i ≡ Err i
  mark_fails h = go (slice_get ts i) h
    where
      go : (o : Option Lexeme) → is_of kind_of is o ≡ false → (read_one kind_of is i o >>= behind) ≡ Err i
      go None h = refl
      go (Some t) h = rw h refl

-- ---- what a word of the grammar names

module _ {A : Type 0} (f : Keyword → Option A) (a : A) (i : ℕ) where
  abbrev names_something : Kind → Bool
  names_something = is_word_that (λ w. is_some (f w))

  abbrev with_name : Lexeme × ℕ → Result (A × ℕ) ℕ
  with_name x = Ok (names f a x.0.meaning, x.1)

  abbrev read_there : Option Lexeme → Result (A × ℕ) ℕ
  read_there o = read_one kind_of names_something i o >>= with_name

  module _ (place : Place) where
    abbrev with_meaning : Meaning → Option Lexeme
    with_meaning m = Some (record { meaning = m; place = place })

    of_keyword : (text : List ℕ) (o : Option Keyword) → keyword_of text ≡ o → (x : Option A) → named_there f o ≡ x → read_there (with_meaning (word_token text)) ≡ found x i
    of_keyword text None e None h = rw e refl
    of_keyword text None e (Some x) h = absurd cc
    of_keyword text (Some w) e None h = rw (e, h) refl
    of_keyword text (Some w) e (Some x) h = rw (e, h) (rw (e, h) refl)

    stands_keyword : (text : List ℕ) (o : Option Keyword) → keyword_of text ≡ o → is_of kind_of names_something (with_meaning (word_token text)) ≡ is_some (named_there f o)
    stands_keyword text None e = rw e refl
    stands_keyword text (Some w) e = rw e refl

    of_meaning : (m : Meaning) → read_there (with_meaning m) ≡ found (named_there f (word_there (with_meaning m))) i
    of_meaning (word_token text) = of_keyword text (keyword_of text) refl (named_there f (keyword_of text)) refl
    of_meaning (selected_token whole name) = refl
    of_meaning (select_token n) = refl
    of_meaning (text_token text) = refl
    of_meaning unended_token = refl
    of_meaning (operator_token o) = refl
    of_meaning left_token = refl
    of_meaning right_token = refl
    of_meaning colon_token = refl
    of_meaning star_token = refl
    of_meaning (other_token b) = refl

    stands_meaning : (m : Meaning) → is_of kind_of names_something (with_meaning m) ≡ is_some (named_there f (word_there (with_meaning m)))
    stands_meaning (word_token text) = stands_keyword text (keyword_of text) refl
    stands_meaning (selected_token whole name) = refl
    stands_meaning (select_token n) = refl
    stands_meaning (text_token text) = refl
    stands_meaning unended_token = refl
    stands_meaning (operator_token o) = refl
    stands_meaning left_token = refl
    stands_meaning right_token = refl
    stands_meaning colon_token = refl
    stands_meaning star_token = refl
    stands_meaning (other_token b) = refl

  of_token : (o : Option Lexeme) → read_there o ≡ found (named_there f (word_there o)) i
  of_token None = refl
  of_token (Some t) = of_meaning t.place t.meaning

  stands_token : (o : Option Lexeme) → is_of kind_of names_something o ≡ is_some (named_there f (word_there o))
  stands_token None = refl
  stands_token (Some t) = stands_meaning t.place t.meaning

  module _ (ts : List Lexeme) where
    pub names_read : (token (λ t. names f a t.meaning) (is_word_that (λ w. is_some (f w)))).read ts i ≡ found (named_there f (word_there (slice_get ts i))) i
    names_read = of_token (slice_get ts i)

    pub names_stand : stands kind_of (is_word_that (λ w. is_some (f w))) ts i ≡ is_some (named_there f (word_there (slice_get ts i)))
    names_stand = stands_token (slice_get ts i)

-- ---- whether a word of the grammar passes a test

abbrev pub passes : (Keyword → Bool) → Option Keyword → Bool
passes p None = false
passes p (Some w) = p w

module _ (p : Keyword → Bool) where
  that_word : (text : List ℕ) (o : Option Keyword) → keyword_of text ≡ o → is_word_that p (word_kind (keyword_of text) text) ≡ passes p (keyword_of text)
  that_word text None e = rw e refl
  that_word text (Some w) e = rw e refl

  that_meaning : (m : Meaning) → is_word_that p (kind_of_meaning m) ≡ passes p (word_of_meaning m)
  that_meaning (word_token text) = that_word text (keyword_of text) refl
  that_meaning (selected_token whole name) = refl
  that_meaning (select_token n) = refl
  that_meaning (text_token text) = refl
  that_meaning unended_token = refl
  that_meaning (operator_token o) = refl
  that_meaning left_token = refl
  that_meaning right_token = refl
  that_meaning colon_token = refl
  that_meaning star_token = refl
  that_meaning (other_token b) = refl

  that_token : (o : Option Lexeme) → is_of kind_of (is_word_that p) o ≡ passes p (word_there o)
  that_token None = refl
  that_token (Some t) = that_meaning t.meaning

  pub that_stands : (ts : List Lexeme) (i : ℕ) → stands kind_of (is_word_that p) ts i ≡ passes p (word_there (slice_get ts i))
  that_stands ts i = that_token (slice_get ts i)
