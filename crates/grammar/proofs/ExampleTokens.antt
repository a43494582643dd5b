-- The tokens of the examples: names, commas and parentheses; their kinds, and the rules of one token.
use Rattle.std.proofs.Common.{◌≡◌, ℕ, true, Bool, List, [], ◌∷◌, Some, refl}
use Rattle.std.specs.Prelude.{slice_get, ◌==◌, ◌&&◌, not}
use Rattle.grammar.specs.Exact.{Apart, Exact, IsWithin}
use Rattle.grammar.specs.Rule.{Rule, one, mapped, quoted}
use Rattle.grammar.proofs.Finite.{apart_of, every, within_of}
use Rattle.grammar.proofs.Laws.{one-exact, mapped-exact, quoted-exact}

pub data Kind : Type 0 where
  opening ending separator word : Kind

pub data Token : Type 0 where
  left right comma : Token
  name : ℕ → Token

abbrev pub kind_of : Token → Kind
kind_of left = opening
kind_of right = ending
kind_of comma = separator
kind_of (name n) = word

abbrev pub number : Kind → ℕ
number opening = 0
number ending = 1
number separator = 2
number word = 3

abbrev pub is : Kind → Kind → Bool
is j k = number j == number k

abbrev pub all_kinds : List Kind
all_kinds = opening ∷ ending ∷ separator ∷ word ∷ []

listed : (k : Kind) → slice_get all_kinds (number k) ≡ Some k
listed opening = refl
listed ending = refl
listed separator = refl
listed word = refl

pub apart : (c d : Kind → Bool) → every (λ k. not (c k && d k)) all_kinds ≡ true → Apart c d
apart = apart_of all_kinds number listed

pub within : (c d : Kind → Bool) → every (λ k. not (c k && not (d k))) all_kinds ≡ true → IsWithin c d
within = within_of all_kinds number listed

abbrev pub Grammar : Type 0 → Type 1
Grammar A = Rule Token Kind A

abbrev pub name_of : Token → ℕ
name_of (name n) = n
name_of _ = 0

abbrev pub a_name : Grammar ℕ
a_name = mapped name_of (one kind_of (is word))

pub a_name-exact : Exact kind_of a_name
a_name-exact = mapped-exact kind_of _ _ (one-exact kind_of (is word))

abbrev pub quote : Kind → Grammar (Unit {0})
quote k = quoted kind_of (is k)

pub quote-exact : (k : Kind) → Exact kind_of (quote k)
quote-exact k = quoted-exact kind_of (is k)
