-- What a first token tells beside a value, and reading from a position on.
use Rattle.std.proofs.Common.{ℕ, List, [], ◌∷◌, Ok, refl}
use Rattle.grammar.specs.Exact.{Exact}
use Rattle.grammar.specs.Placed.{placed}
use Rattle.grammar.specs.ReadsFrom.{FailsFrom, ReadsFrom}
use Rattle.grammar.specs.Rule.{mapped, either, read_up_to}
use Rattle.grammar.proofs.ExampleTokens.{Kind, Token, left, right, comma, name, opening, word, kind_of, apart, Grammar, a_name, a_name-exact}
use Rattle.grammar.proofs.Examples.{names, names-exact}
use Rattle.grammar.proofs.Laws.{either-exact, mapped-exact, placed-exact, all_found, from_failed, reads_from}

-- ---- name | "(" name { "," name } ")", with the kind of the first token

abbrev name_or_names : Grammar (Kind × List ℕ)
name_or_names = placed kind_of (either kind_of (mapped (λ n. n ∷ []) a_name) names)

name_or_names-exact : Exact kind_of name_or_names
name_or_names-exact = placed-exact kind_of kind_of _ (either-exact kind_of _ _ (mapped-exact kind_of _ _ a_name-exact) names-exact refl refl (apart _ _ refl)) refl

without_parentheses : name_or_names.language.Spells (name 4 ∷ []) 0 (word, 4 ∷ []) 1
without_parentheses = all_found kind_of name_or_names name_or_names-exact (name 4 ∷ []) (word, 4 ∷ []) refl

in_parentheses : name_or_names.language.Spells (left ∷ name 4 ∷ right ∷ []) 0 (opening, 4 ∷ []) 3
unfolding read_up_to
in_parentheses = all_found kind_of name_or_names name_or_names-exact (left ∷ name 4 ∷ right ∷ []) (opening, 4 ∷ []) refl

-- ---- a list that its parenthesis closes, among other tokens

abbrev text : List Token
text = name 9 ∷ comma ∷ left ∷ name 4 ∷ comma ∷ name 7 ∷ right ∷ comma ∷ []

reads_from_2 : ReadsFrom names.language text 2 (λ ns. ns) (Ok (4 ∷ 7 ∷ [], 7))
unfolding read_up_to
reads_from_2 = reads_from kind_of names names-exact (λ k. refl) text 2 (λ ns. ns) (Ok (4 ∷ 7 ∷ [], 7)) refl

-- at the comma before it none begins
fails_from_1 : FailsFrom names.language text 1 1
fails_from_1 = from_failed kind_of names names-exact (λ k. refl) text 1 1 refl
