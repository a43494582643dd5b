-- What was read of all tokens at hand they spell.
use Rattle.std.proofs.Common.{◌≡◌, ◌∙◌, ℕ, Bool, true, List, [], ◌∷◌, ◌++◌, length, map, Result, Ok, refl, sym, ap, subst, arith}
use Rattle.std.proofs.lemmas.List.{length-map}
use Rattle.grammar.specs.Reading.{Gives}
use Rattle.grammar.specs.Rule.{stands}
use Rattle.grammar.specs.declared.ReadFault.{ReadFault}
use Rattle.sdf_lex.specs.Seen.{lexeme}
use Rattle.sdf_lex.specs.Tokens.{Lexeme}
use Rattle.sdf_lex.specs.declared.tokens.Token.{Token}
use Rattle.sdf_tree.specs.declared.keywords.Keyword.{Keyword}
use Rattle.sdf_tree.specs.Kinds.{is_left, is_right, is_word, kind_of}
use Rattle.sdf_tree.specs.Rules.{Grammar, mark}
use Rattle.sdf_tree.proofs.Building.{IsExact, the_mark}
use Rattle.sdf_windows.specs.Movable.{Says}
use Rattle.sdf_stream.specs.Windows.{Begins, Grown, IsNext, IsOne, Opened, seen}
use Rattle.sdf_stream.specs.declared.window.Window.{Window}
use Rattle.sdf_stream.proofs.Passing.{passed_on}

-- two tokens
pub two_begin : (w : Keyword) (ts : List Lexeme) → length ts ≡ 2 → stands kind_of is_left ts 0 ≡ true → stands kind_of (is_word w) ts 1 ≡ true → Begins w ts
two_begin w [] n l r = absurd cc
two_begin w (t ∷ []) n l r = absurd cc
two_begin w (t ∷ u ∷ []) n l r = (t, u, refl, l, r)
two_begin w (t ∷ u ∷ v ∷ vs) n l r = absurd (omega (arith, n))

-- the tokens that are lent
pub begins_of : (w : Keyword) (ts us : List Token) → ts ≡ us → Begins w (map lexeme ts) → Begins w (map lexeme us)
begins_of w ts us e b = subst (λ (xs : List Token). Begins w (map lexeme xs)) e b

all_says : {A : Type 0} (r : Grammar A) → IsExact r → (ts : List Lexeme) (x : A) (n : ℕ) → r.read ts 0 ≡ Ok (x, n) → n ≡ length ts → Says r ts x
all_says r er ts x n read e = subst (λ (m : ℕ). r.language.Spells ts 0 x m) e (er.found ts 0 x n read).0

-- a closing parenthesis alone
pub right_says : (ts : List Lexeme) (n : ℕ) → (mark is_right).read ts 0 ≡ Ok (tt, n) → n ≡ length ts → Says (mark is_right) ts tt
right_says ts n read e = all_says (mark is_right) (the_mark is_right) ts tt n read e

module _ {X A : Type 0} (r : Grammar A) (er : IsExact r) (view : X → A) (result : Result (X × ℕ) ReadFault) where
  read_says : (ts : List Lexeme) (x : X) (n : ℕ) → Gives (λ x. (view x.0, x.1)) result (r.read ts 0) → result ≡ Ok (x, n) → n ≡ length ts → Says r ts (view x)
  read_says ts x n g is e = all_says r er ts (view x) n (subst (λ (res : Result (X × ℕ) ReadFault). Gives (λ x. (view x.0, x.1)) res (r.read ts 0)) is g) e

  -- the tokens that were at hand, and those that came
  pub whole_is : (a b : Window) (lent : List Token) (x : X) (n : ℕ) → Grown a b → lent ≡ b.tokens.items → Gives (λ x. (view x.0, x.1)) result (r.read (map lexeme lent) 0) → result ≡ Ok (x, n) → n ≡ length b.tokens.items → IsOne r a b (view x)
  whole_is a b lent x n g l gives is e = record {
    more = g.more;
    passed = g.passed;
    says = subst (λ (ts : List Lexeme). Says r ts (view x)) (ap (map lexeme) l ∙ g.added) (read_says (map lexeme lent) x n gives is size);
  }
    where
      size : n ≡ length (map lexeme lent)
      size = e ∙ (sym (length-map b.tokens.items lexeme) ∙ ap (λ (ts : List Token). length (map lexeme ts)) (sym l))

  -- the next tokens
  pub next_is : (a b d : Window) (lent : List Token) (x : X) (n : ℕ) {more : Bool} → Opened a b more → Grown b d → lent ≡ d.tokens.items → Gives (λ x. (view x.0, x.1)) result (r.read (map lexeme lent) 0) → result ≡ Ok (x, n) → n ≡ length d.tokens.items → IsNext r a d (view x)
  next_is a b d lent x n o g l gives is e =
      let one = whole_is b d lent x n g l gives is e in
      record { tokens = seen b ++ one.more; passed = passed_on a b d (seen b) one.more o.passed one.passed; says = one.says }
