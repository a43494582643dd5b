-- The rules over the code's arguments.
use Rattle.std.proofs.Common.{◌≡◌, ℕ, suc, ◌||◌, List, [], ◌∷◌, map, length, Bool, true, false, cond, refl, sym, ap, ◌∙◌, Option, Some, None, is_some, count_by}
use Rattle.std.proofs.lemmas.List.Folds.{list_all-map}
use Rattle.std.proofs.lemmas.List.Sums.{length-filter}
use Rattle.std.specs.List.{list_all, list_any, filter, filter_map, cons_option}
use Rattle.std.specs.Borrow.{Bor}
use Rattle.fit_words.specs.declared.arguments.Argument as code
use Rattle.fit_words.specs.Arguments.{Argument, is_text}
use Rattle.fit_words.specs.ArgumentsSeen.{argument_seen}
use Rattle.fit_words.specs.Paths.{has_last}
use Rattle.fit_words.specs.Words.{is_known}

pub all_seen_known : (arguments : List code.Argument) → list_all (λ a. is_known (argument_seen a)) arguments ≡ list_all is_known (map argument_seen arguments)
all_seen_known arguments = sym (list_all-map is_known argument_seen arguments)

-- a name is among some names
pub any_of_names : (name : List ℕ) (names : List (Bor (List ℕ))) → list_any (λ (n : Bor (List ℕ)). is_text name n.now) names ≡ list_any (is_text name) (map (λ n. n.now) names)
any_of_names name [] = refl
any_of_names name (n ∷ ns) = ap (λ b. is_text name n.now || b) (any_of_names name ns)

-- the arguments from which something is taken are as many as what is taken
module _ (taken : Argument → Option (List ℕ)) where
  one_counted : {A : Type 0} (o : Option A) (values : List A) (n : ℕ) → length values ≡ n → length (cons_option o values) ≡ cond (is_some o) (suc n) n
  one_counted None values n e = e
  one_counted (Some x) values n e = ap (λ m. suc m) e

  filter_counted : {A : Type 0} (b : Bool) (x : A) (xs : List A) → length (cond b (x ∷ xs) xs) ≡ cond b (suc (length xs)) (length xs)
  filter_counted true x xs = refl
  filter_counted false x xs = refl

  same_length : (arguments : List code.Argument) → length (filter_map taken (map argument_seen arguments)) ≡ length (filter (λ a. is_some (taken (argument_seen a))) arguments)
  same_length [] = refl
  same_length (a ∷ more) =
      one_counted (taken (argument_seen a)) (filter_map taken (map argument_seen more)) _ (same_length more)
      ∙ sym (filter_counted (is_some (taken (argument_seen a))) a (filter (λ x. is_some (taken (argument_seen x))) more))

  pub count_of_taken : (arguments : List code.Argument) → count_by (λ a. is_some (taken (argument_seen a))) arguments ≡ length (filter_map taken (map argument_seen arguments))
  count_of_taken arguments = sym (length-filter (λ a. is_some (taken (argument_seen a))) arguments) ∙ sym (same_length arguments)

pub all_have_lasts : (names : List (Bor (List ℕ))) → list_all (λ (n : Bor (List ℕ)). has_last n.now) names ≡ list_all has_last (map (λ n. n.now) names)
all_have_lasts names = sym (list_all-map has_last (λ (n : Bor (List ℕ)). n.now) names)
