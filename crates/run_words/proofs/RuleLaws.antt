-- The rules over the code's arguments.
use Rattle.std.proofs.Common.{◌≡◌, ℕ, suc, ◌&&◌, ◌||◌, nat_le, List, [], ◌∷◌, map, length, Bool, true, false, cond, refl, sym, ap, ◌∙◌, Option, Some, None, is_some, count_by}
use Rattle.std.proofs.lemmas.List.{length-map}
use Rattle.std.proofs.lemmas.List.Folds.{list_all-map}
use Rattle.std.proofs.lemmas.List.Sums.{length-filter}
use Rattle.std.specs.List.{list_all, list_any, filter, cons_option}
use Rattle.std.specs.Borrow.{Bor}
use Rattle.run_words.specs.declared.arguments.Argument as code
use Rattle.run_words.specs.Arguments.{is_text}
use Rattle.run_words.specs.ArgumentsSeen.{argument_seen}
use Rattle.run_words.specs.Words.{value_under, values_of, netlists_of, is_known, is_single, are_sound}

pub all_seen_known : (options : List (List ℕ)) (arguments : List code.Argument) → list_all (λ a. is_known options (argument_seen a)) arguments ≡ list_all (is_known options) (map argument_seen arguments)
all_seen_known options arguments = sym (list_all-map (is_known options) argument_seen arguments)

-- a name is among some names
pub any_of_names : (name : List ℕ) (names : List (Bor (List ℕ))) → list_any (λ (n : Bor (List ℕ)). is_text name n.now) names ≡ list_any (is_text name) (map (λ n. n.now) names)
any_of_names name [] = refl
any_of_names name (n ∷ ns) = ap (λ b. is_text name n.now || b) (any_of_names name ns)

one_counted : {A : Type 0} (o : Option A) (values : List A) (n : ℕ) → length values ≡ n → length (cons_option o values) ≡ cond (is_some o) (suc n) n
one_counted None values n e = e
one_counted (Some x) values n e = ap (λ m. suc m) e

filter_counted : {A : Type 0} (b : Bool) (x : A) (xs : List A) → length (cond b (x ∷ xs) xs) ≡ cond b (suc (length xs)) (length xs)
filter_counted true x xs = refl
filter_counted false x xs = refl

same_length : (name : List ℕ) (arguments : List code.Argument) → length (values_of name (map argument_seen arguments)) ≡ length (filter (λ a. is_some (value_under name (argument_seen a))) arguments)
same_length name [] = refl
same_length name (a ∷ more) =
    one_counted (value_under name (argument_seen a)) (values_of name (map argument_seen more)) _ (same_length name more)
    ∙ sym (filter_counted (is_some (value_under name (argument_seen a))) a (filter (λ x. is_some (value_under name (argument_seen x))) more))

pub count_of_values : (name : List ℕ) (arguments : List code.Argument) → count_by (λ a. is_some (value_under name (argument_seen a))) arguments ≡ length (values_of name (map argument_seen arguments))
count_of_values name arguments = sym (length-filter (λ a. is_some (value_under name (argument_seen a))) arguments) ∙ sym (same_length name arguments)

-- the code's three tests are the definition's
pub sound_by : (known single : Bool) (options names : List (Bor (List ℕ))) (arguments : List code.Argument)
    → map (λ n. n.now) names ≡ netlists_of (map argument_seen arguments) → known ≡ list_all (λ a. is_known (map (λ n. n.now) options) (argument_seen a)) arguments
    → single ≡ list_all (λ (n : Bor (List ℕ)). is_single (map argument_seen arguments) n.now) options → known ≡ true → single ≡ true
    → nat_le 1 (length names) ≡ are_sound (map (λ n. n.now) options) (map argument_seen arguments)
sound_by known single options names arguments netlists k s is_k is_s =
    let seen = map argument_seen arguments in
    let all = map (λ (n : Bor (List ℕ)). n.now) options in
    let all_known : true ≡ list_all (is_known all) seen = sym is_k ∙ k ∙ all_seen_known all arguments in
    let all_single : true ≡ list_all (is_single seen) all = sym is_s ∙ s ∙ sym (list_all-map (is_single seen) (λ (n : Bor (List ℕ)). n.now) options) in
    let some : nat_le 1 (length names) ≡ nat_le 1 (length (netlists_of seen)) = ap (nat_le 1) (sym (length-map names (λ n. n.now)) ∙ ap length netlists) in
    some ∙ ap (λ b. (b && true) && nat_le 1 (length (netlists_of seen))) all_known
    ∙ ap (λ b. (list_all (is_known all) seen && b) && nat_le 1 (length (netlists_of seen))) all_single

-- one of the first two fails
pub unsound_by : (known single : Bool) (options : List (Bor (List ℕ))) (arguments : List code.Argument)
    → known ≡ list_all (λ a. is_known (map (λ n. n.now) options) (argument_seen a)) arguments
    → single ≡ list_all (λ (n : Bor (List ℕ)). is_single (map argument_seen arguments) n.now) options → (known && single) ≡ false
    → false ≡ are_sound (map (λ n. n.now) options) (map argument_seen arguments)
unsound_by known single options arguments k s none =
    let seen = map argument_seen arguments in
    let all = map (λ (n : Bor (List ℕ)). n.now) options in
    let some = nat_le 1 (length (netlists_of seen)) in
    let all_known : known ≡ list_all (is_known all) seen = k ∙ all_seen_known all arguments in
    let all_single : single ≡ list_all (is_single seen) all = s ∙ sym (list_all-map (is_single seen) (λ (n : Bor (List ℕ)). n.now) options) in
    ap (λ b. b && some) (sym none) ∙ ap (λ b. (b && single) && some) all_known ∙ ap (λ b. (list_all (is_known all) seen && b) && some) all_single

-- the first alone
pub unknown_by : (options : List (Bor (List ℕ))) (arguments : List code.Argument) → false ≡ list_all (λ a. is_known (map (λ n. n.now) options) (argument_seen a)) arguments
    → false ≡ are_sound (map (λ n. n.now) options) (map argument_seen arguments)
unknown_by options arguments k =
    let all = map (λ (n : Bor (List ℕ)). n.now) options in
    ap (λ b. (b && list_all (is_single (map argument_seen arguments)) all) && nat_le 1 (length (netlists_of (map argument_seen arguments)))) (k ∙ all_seen_known all arguments)
