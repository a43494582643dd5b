-- Pairs in parentheses, up to a depth and at any depth.
use Rattle.std.proofs.Common.{ℕ, zero, suc, Bool, List, [], ◌∷◌, refl, inl}
use Rattle.std.specs.Prelude.{◌||◌}
use Rattle.grammar.specs.Depth.{deepening, Within}
use Rattle.grammar.specs.Exact.{Exact}
use Rattle.grammar.specs.Reach.{IsReach}
use Rattle.grammar.specs.Reads.{FailsAt}
use Rattle.grammar.specs.Rule.{mapped, either, ◌▸◌, ◌◂◌, ◌∙∙◌, named, no_kind}
use Rattle.grammar.proofs.ExampleTokens.{Kind, Token, left, right, comma, name, opening, ending, separator, word, kind_of, is, apart, within, Grammar, a_name, a_name-exact, quote, quote-exact}
use Rattle.grammar.proofs.Laws.{deepening-exact, either-exact, grows, mapped-exact, named-exact, seq-exact, all_found, all_failed, reach_if_failed, reach_if_read}
use Rattle.grammar.proofs.Laws.{behind_within, either_within, mapped_within, named_within, same_within, seq_within}

-- ---- pairs at most d deep: pair 0 = name, pair (d + 1) = name | "(" pair d "," pair d ")"

data Tree : Type 0 where
  leaf : ℕ → Tree
  node : Tree → Tree → Tree

abbrev begins_pair : Kind → Bool
begins_pair k = is opening k || is word k

unfoldable pair_parts : ℕ → Grammar Tree
pair_parts zero = mapped leaf a_name
pair_parts (suc d) =
    let inner = named begins_pair no_kind (pair_parts d) in
    either kind_of (mapped leaf a_name) (mapped (λ x. node x.0 x.1) (quote opening ▸ (inner ∙∙ (quote separator ▸ (inner ◂ quote ending)))))

abbrev pair : ℕ → Grammar Tree
pair d = named begins_pair no_kind (pair_parts d)

-- "," pair d ")"
abbrev second : ℕ → Grammar Tree
second d = quote separator ▸ (pair d ◂ quote ending)

closed-exact : (d : ℕ) → Exact kind_of (pair d) → Exact kind_of (pair d ◂ quote ending)
closed-exact d inner = mapped-exact kind_of _ _ (seq-exact kind_of _ _ inner (quote-exact ending) (apart _ _ refl))

second-exact : (d : ℕ) → Exact kind_of (pair d) → Exact kind_of (second d)
second-exact d inner = mapped-exact kind_of _ _ (seq-exact kind_of _ _ (quote-exact separator) (closed-exact d inner) (apart _ _ refl))

pair-exact : (d : ℕ) → Exact kind_of (pair d)
unfolding pair_parts
pair-exact zero = named-exact kind_of _ (mapped-exact kind_of _ _ a_name-exact) _ _ refl (within _ _ refl) (within _ _ refl)
pair-exact (suc d) =
    let inner = pair-exact d in
    let both = seq-exact kind_of _ _ inner (second-exact d inner) (apart _ _ refl) in
    let enclosed = mapped-exact kind_of _ _ (seq-exact kind_of _ _ (quote-exact opening) both (apart _ _ refl)) in
    named-exact kind_of _ (either-exact kind_of _ _ (mapped-exact kind_of _ _ a_name-exact) (mapped-exact kind_of _ _ enclosed) refl refl (apart _ _ refl)) _ _ refl (within _ _ refl) (within _ _ refl)

abbrev two_deep_text : List Token
two_deep_text = left ∷ name 1 ∷ comma ∷ left ∷ name 2 ∷ comma ∷ name 3 ∷ right ∷ right ∷ []

two_deep : (pair 2).language.Spells two_deep_text 0 (node (leaf 1) (node (leaf 2) (leaf 3))) 9
unfolding pair_parts
two_deep = all_found kind_of (pair 2) (pair-exact 2) two_deep_text (node (leaf 1) (node (leaf 2) (leaf 3))) refl

-- of pairs at most one deep the second parenthesis begins none
too_deep : FailsAt (pair 1).language two_deep_text 3
unfolding pair_parts
too_deep = all_failed kind_of (pair 1) (pair-exact 1) two_deep_text 3 refl

-- ---- pairs of any depth: any_pair = name | "(" any_pair "," any_pair ")"

abbrev any_pair : Grammar Tree
any_pair = deepening begins_pair no_kind pair

pair_least : (few d : ℕ) → Within few (pair 0) (pair (suc d))
unfolding pair_parts
pair_least few d = record { spells = λ ts i x j le s. inl s; begins = λ ts i j le b. inl b }

-- a parenthesis takes a token, so what is inside has one token less
pair_step : (few d e : ℕ) → Within few (pair d) (pair e) → Within (suc few) (pair (suc d)) (pair (suc e))
unfolding pair_parts
pair_step few d e w =
    let bare = mapped leaf a_name in
    let closed = mapped_within few (λ x. x.0) _ _ (seq_within kind_of few (pair d) (pair e) (quote ending) (quote ending) (pair-exact d) (quote-exact ending) w (same_within few (quote ending))) in
    let behind = mapped_within few (λ x. x.1) _ _ (seq_within kind_of few (quote separator) (quote separator) _ _ (quote-exact separator) (closed-exact d (pair-exact d)) (same_within few (quote separator)) closed) in
    let both = seq_within kind_of few (pair d) (pair e) (second d) (second e) (pair-exact d) (second-exact d (pair-exact d)) w behind in
    let enclosed = mapped_within (suc few) (λ x. x.1) _ _ (behind_within kind_of few (quote opening) (pair d ∙∙ second d) (pair e ∙∙ second e) (quote-exact opening) refl both) in
    named_within (suc few) _ _ _ _ _ _ (either_within kind_of (suc few) bare bare _ _ (same_within (suc few) bare) (mapped_within (suc few) (λ x. node x.0 x.1) _ _ enclosed))

any_pair-exact : Exact kind_of any_pair
any_pair-exact = deepening-exact kind_of pair pair-exact (λ _. refl) begins_pair no_kind (λ d k p. p) (λ d k p. p) (grows kind_of pair pair-exact (λ _. refl) pair_least pair_step)

any_depth_spelled : any_pair.language.Spells two_deep_text 0 (node (leaf 1) (node (leaf 2) (leaf 3))) 9
unfolding pair_parts
any_depth_spelled = all_found kind_of any_pair any_pair-exact two_deep_text (node (leaf 1) (node (leaf 2) (leaf 3))) refl

-- ((a) fails at the parenthesis, where a comma is missing, whatever the depth
comma_missing : FailsAt any_pair.language (left ∷ left ∷ name 1 ∷ right ∷ []) 3
unfolding pair_parts
comma_missing = all_failed kind_of any_pair any_pair-exact (left ∷ left ∷ name 1 ∷ right ∷ []) 3 refl

-- ---- the kind of a fault: with the limit of depth lifted the rule reaches further, so too deep it is

reach_within_limit : IsReach (pair 1).language two_deep_text 3
unfolding pair_parts
reach_within_limit = reach_if_failed kind_of (pair 1) (pair-exact 1) two_deep_text 3 refl

reach_without_limit : IsReach any_pair.language two_deep_text 9
unfolding pair_parts
reach_without_limit = reach_if_read kind_of any_pair any_pair-exact two_deep_text (node (leaf 1) (node (leaf 2) (leaf 3))) refl
