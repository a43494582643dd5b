-- A repetition with a state: arguments by their number.
use Rattle.std.proofs.Common.{ℕ, zero, suc, ◌+◌, false, List, [], ◌∷◌, Option, Some, None, refl}
use Rattle.std.specs.Prelude.{◌||◌, not, nat_lt}
use Rattle.std.proofs.lemmas.Bool.{and_parts, and_right}
use Rattle.grammar.specs.Exact.{Exact, IsWithin}
use Rattle.grammar.specs.Reads.{FailsAt}
use Rattle.grammar.specs.Rule.{◌▸◌, mapped, named, no_kind, only_if, optional}
use Rattle.grammar.specs.States.{many_by, read_by}
use Rattle.grammar.proofs.ExampleTokens.{comma, name, separator, word, kind_of, is, apart, within, Grammar, a_name, a_name-exact, quote, quote-exact}
use Rattle.grammar.proofs.Laws.{many_by-exact, mapped-exact, named-exact, only_if-exact, optional-exact, seq-exact, all_found, all_failed}

-- ---- "," name [ "," [ name ] [ "," [ name ] ] ]: the state is the number of arguments so far. The first has a name, the others
-- may be empty or missing, and there are three at most.

abbrev filling : ℕ → Grammar (Option ℕ)
filling zero = named (is word) no_kind (mapped Some a_name)
filling (suc n) = optional kind_of a_name

abbrev argument : ℕ → Grammar (Option ℕ)
argument n = only_if (nat_lt n 3) (quote separator ▸ filling n)

abbrev arguments : Grammar (List (Option ℕ))
arguments = many_by kind_of (λ k. is separator k || is word k) argument (λ n _. n + 1) (λ n. not (nat_lt n 1)) 0

filling-exact : (n : ℕ) → Exact kind_of (filling n)
filling-exact zero = named-exact kind_of _ (mapped-exact kind_of _ _ a_name-exact) _ _ refl (within _ _ refl) (within _ _ refl)
filling-exact (suc n) = optional-exact kind_of a_name a_name-exact refl

filled-exact : (n : ℕ) → Exact kind_of (quote separator ▸ filling n)
filled-exact n = mapped-exact kind_of _ _ (seq-exact kind_of _ _ (quote-exact separator) (filling-exact n) (λ k p q. absurd cc))

-- what continues an argument is a name, and what begins one is a comma
filled-continues : (n : ℕ) → IsWithin (quote separator ▸ filling n).continues (is word)
filled-continues zero = within _ _ refl
filled-continues (suc n) = within _ _ refl

argument-continues : (n : ℕ) → IsWithin (argument n).continues (is word)
argument-continues n k p = filled-continues n k (and_parts (nat_lt n 3) ((quote separator ▸ filling n).continues k) p).1

argument-starts : (n : ℕ) → IsWithin (argument n).starts (is separator)
argument-starts n k p = (and_parts (nat_lt n 3) (is separator k) p).1

arguments-exact : Exact kind_of arguments
arguments-exact = many_by-exact kind_of _ argument (λ n _. n + 1) (λ n. not (nat_lt n 1)) (λ n. only_if-exact kind_of (nat_lt n 3) _ (filled-exact n)) (λ n. and_right (nat_lt n 3) false refl)
    (λ n x k p q. apart (is word) (is separator) refl k (argument-continues n k p) (argument-starts (n + 1) k q))
    (λ n e k p. within (is separator) (λ k. is separator k || is word k) refl k (argument-starts n k p))
    (λ n k p. within (is word) (λ k. is separator k || is word k) refl k (argument-continues n k p)) 0

-- , a , , b
second_is_empty : arguments.language.Spells (comma ∷ name 1 ∷ comma ∷ comma ∷ name 2 ∷ []) 0 (Some 1 ∷ None ∷ Some 2 ∷ []) 5
unfolding read_by
second_is_empty = all_found kind_of arguments arguments-exact (comma ∷ name 1 ∷ comma ∷ comma ∷ name 2 ∷ []) (Some 1 ∷ None ∷ Some 2 ∷ []) refl

-- the first may not be empty
first_is_empty : FailsAt arguments.language (comma ∷ comma ∷ []) 1
unfolding read_by
first_is_empty = all_failed kind_of arguments arguments-exact (comma ∷ comma ∷ []) 1 refl

-- there is no fourth
four_fail : FailsAt arguments.language (comma ∷ name 1 ∷ comma ∷ comma ∷ comma ∷ []) 4
unfolding read_by
four_fail = all_failed kind_of arguments arguments-exact (comma ∷ name 1 ∷ comma ∷ comma ∷ comma ∷ []) 4 refl
