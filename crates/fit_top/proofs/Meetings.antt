-- Whether one of some names passes a test, name by name.
use Rattle.std.proofs.Common.{◌≡◌, ◌∙◌, sym, ap, ℕ, ◌+◌, ◌<◌, ◌≤◌, ◌||◌, Bool, true, false, List, length, map, drop, slice_index_or}
use Rattle.std.proofs.lemmas.List.{drop_all, drop_more}
use Rattle.std.specs.List.{list_any}

module _ {X Y : Type 0} (name_of : X → Y) (test : Y → Bool) (xs : List X) (i : ℕ) (whole : Bool) where
  module _ (d : X) (l : i < length xs) where
    at_one : list_any test (map name_of (drop i xs)) ≡ test (name_of (slice_index_or xs i d)) || list_any test (map name_of (drop (i + 1) xs))
    at_one = ap (λ ys. list_any test (map name_of ys)) (drop_more xs i d l)

    pub met_here : (found : Bool) → found ≡ test (name_of (slice_index_or xs i d)) → found ≡ true → list_any test (map name_of (drop i xs)) ≡ whole → true ≡ whole
    met_here found e f h = ap (λ b. b || list_any test (map name_of (drop (i + 1) xs))) (sym f ∙ e) ∙ sym at_one ∙ h

    pub met_later : (found : Bool) → found ≡ test (name_of (slice_index_or xs i d)) → found ≡ false → list_any test (map name_of (drop i xs)) ≡ whole → list_any test (map name_of (drop (i + 1) xs)) ≡ whole
    met_later found e f h = ap (λ b. b || list_any test (map name_of (drop (i + 1) xs))) (sym f ∙ e) ∙ sym at_one ∙ h

  pub met_never : length xs ≤ i → list_any test (map name_of (drop i xs)) ≡ whole → false ≡ whole
  met_never l h = sym (ap (λ ys. list_any test (map name_of ys)) (drop_all i xs l)) ∙ h

pub met_by : {A B : Type 0} (is_one : A → B → Bool) (found : Bool) (ms ns : List A) (is js : List B) → found ≡ list_any (λ m. list_any (is_one m) is) ms → ms ≡ ns → is ≡ js → found ≡ list_any (λ m. list_any (is_one m) js) ns
met_by is_one found ms ns is js h e f = h ∙ ap (list_any (λ m. list_any (is_one m) is)) e ∙ ap (λ l. list_any (λ m. list_any (is_one m) l) ns) f
