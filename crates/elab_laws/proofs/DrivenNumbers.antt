-- What is driven inside at a bit, by the numbers of nets.
use Rattle.std.specs.Prelude.{◌≡◌, ◌==◌, ℕ, List, [], ◌∷◌, Bool, true, false, Option, Some, None, find, map, refl, cond}
use Rattle.std.specs.List.{AllByRecursion}
use Rattle.std.specs.Option.{option_map}
use Rattle.std.proofs.Common.{sym, ◌∙◌, ap}
use Rattle.vl_tree.specs.Tree.{Source}
use Rattle.elab_model.specs.Ends.{all_ends, path_ends, end_at, inner_spot, inner_or}
use Rattle.elab_model.specs.Hierarchy.{Instance}
use Rattle.elab_model.specs.Homes.{Spot, is_same_spot, home_of}
use Rattle.elab_model.specs.Names.{variables}
use Rattle.elab_model.specs.Nets.{OwnNet, number_of, nets}
use Rattle.elab_model.specs.Terms.{NetBit}
use Rattle.elab_laws.specs.NumberLaws.{end_numbers, second_or, driven_number, DrivenIsNumbered}
use Rattle.elab_laws.proofs.Drivers.{same-by_number}
use Rattle.elab_laws.proofs.EndBits.{HasNetBit, ends-below}
use Rattle.elab_laws.proofs.Ends.{in-all_ends, find-path_ends}
use Rattle.elab_laws.proofs.Homes.{home-there}
use Rattle.elab_laws.proofs.Lists.{all-in, all-from}
use Rattle.elab_laws.proofs.Stated.{bits-have_nets}

-- by numbers in place of nets
abbrev has_number : ℕ → ℕ × ℕ → Bool
has_number n e = e.0 == n

find-numbers : {A : Type 0} (f : A → Bool) (number inner : A → ℕ) (n : ℕ) (xs : List A) → AllByRecursion (λ x. f x ≡ (number x == n)) xs
    → find (has_number n) (map (λ x. (number x, inner x)) xs) ≡ option_map (λ x. (number x, inner x)) (find f xs)
find-numbers f number inner n [] h = refl
find-numbers {A} f number inner n (x ∷ xs) h = by (f x) h.0 (find-numbers f number inner n xs h.1)
  where
    by : (t : Bool) → t ≡ (number x == n) → find (has_number n) (map (λ x. (number x, inner x)) xs) ≡ option_map (λ x. (number x, inner x)) (find f xs)
        → cond (number x == n) (Some (number x, inner x)) (find (has_number n) (map (λ x. (number x, inner x)) xs)) ≡ option_map (λ x. (number x, inner x)) (cond t (Some x) (find f xs))
    by true t same = rw (sym t) refl
    by false t same = rw (sym t) same

-- the same of what is driven, where the bits' nets are owned
abbrev home_at : Source → Instance → NetBit → Spot
home_at source s b = home_of source s b.name b.position

driven-by_number : (all : List OwnNet) (source : Source) (s : Instance) (spot : Spot)
    → AllByRecursion (λ b. is_same_spot (home_at source s b) spot ≡ (number_of all (home_at source s b) == number_of all spot)) (path_ends s.step.definition)
    → number_of all (inner_or s spot (end_at source s spot)) ≡ driven_number (end_numbers all source s) (number_of all spot)
driven-by_number all source s spot same =
    let f : NetBit → Bool = λ b. is_same_spot (home_at source s b) spot in
    let number : NetBit → ℕ = λ b. number_of all (home_at source s b) in
    let inside : NetBit → ℕ = λ b. number_of all (inner_spot s b) in
    ap (λ o. number_of all (inner_or s spot o)) (sym (find-path_ends s.step.definition f))
    ∙ second (find f (path_ends s.step.definition))
    ∙ ap (second_or (number_of all spot)) (sym (find-numbers f number inside (number_of all spot) (path_ends s.step.definition) same))
  where
    second : (o : Option NetBit) → number_of all (inner_or s spot o) ≡ second_or (number_of all spot) (option_map (λ b. (number_of all (home_at source s b), number_of all (inner_spot s b))) o)
    second None = refl
    second (Some b) = refl

pub driven-is_numbered : DrivenIsNumbered
driven-is_numbered source top corner s v p sound there known lt =
    let all = nets source top in
    let m = s.step.definition in
    let own = (bits-have_nets source top s v p there known lt).0 in
    driven-by_number all source s (home_of source s v.name p)
    (all-from (λ b. is_same_spot (home_at source s b) (home_of source s v.name p) ≡ (number_of all (home_at source s b) == number_of all (home_of source s v.name p))) (path_ends m)
    (λ b h. same-by_number (home_at source s b) (home_of source s v.name p) all
    (home-there source top s b.name b.position there (all-in (HasNetBit (variables m)) b (all_ends m) (ends-below m) (in-all_ends m b h))) own))
