-- The first transition of a driver in the list of all is its latest.
use Rattle.std.proofs.Common.{◌≡◌, ℕ, suc, ◌+◌, ◌<◌, ◌≤◌, nat_lt, true, false, List, [], ◌∷◌, ◌++◌, refl, sym, ap, ◌∙◌, subst, arith, get_or, take, drop, length, position, remove, Some, None}
use Rattle.std.proofs.Common.{inl, inr, add-one}
use Rattle.std.specs.List.{position_or_len}
use Rattle.std.proofs.lemmas.Bool.{cases_lt}
use Rattle.std.proofs.lemmas.Bool.Decides.{nat_tests}
use Rattle.std.proofs.lemmas.List.{take-append-drop, get_or-take, length-take-le, drop_more, get_or_default}
use Rattle.std.proofs.lemmas.List.Quantifiers.{position-Some}
use Rattle.sg_logic.specs.declared.values.Value.TheVariants.{X}
use Rattle.sg_model.specs.Pending.{first_of, rest_of}
use Rattle.pulse_list.specs.declared.plain.Pending.{Pending}
use Rattle.pulse_list.specs.Plain.{is_of, pair_of, pairs_of, IsRewritten}
use Rattle.pulse_list.proofs.PairsLaws.{removed, pairs_of-own, pairs_of-behind}

none_of : (d : ℕ) (xs : List Pending) → ((k : ℕ) (e : Pending) → k < length xs → is_of d (get_or xs k e) ≡ false) → pairs_of d xs ≡ []
none_of d [] h = refl
none_of d (x ∷ xs) h = let k : is_of d x ≡ false = h 0 x (omega arith) in rw k (none_of d xs (λ i e l. h (suc i) e (omega arith)))

none_found : (d : ℕ) (xs : List Pending) → length xs ≤ position_or_len (is_of d) xs → pairs_of d xs ≡ []
none_found d [] l = refl
none_found d (x ∷ xs) l =
    elim (is_of d x) as (λ b. is_of d x ≡ b → pairs_of d (x ∷ xs) ≡ []) [
      | true ↦ λ k. absurd (let m : length (x ∷ xs) ≤ 0 = rw k at l in omega arith)
      | false ↦ λ k. (let m = rw k at l in rw k (none_found d xs (omega arith)))
    ] refl

-- there is none
pub nothing_found : (d : ℕ) (xs : List Pending) → position (is_of d) xs ≡ None → pairs_of d xs ≡ []
nothing_found d xs e =
    elim (cases_lt (position_or_len (is_of d) xs) (length xs)) [
      | inl m ↦ (let k : nat_lt (position_or_len (is_of d) xs) (length xs) ≡ true = grind (arith, nat_tests) in absurd (let f = rw k at e in cc))
      | inr m ↦ none_found d xs m
    ]

-- the list, cut at the driver's latest transition
record IsCut (d : ℕ) (xs : List Pending) (i : ℕ) (p : Pending) : Type 0 where
  pub whole : xs ≡ take i xs ++ p ∷ drop (suc i) xs
  pub own : p.driver ≡ d
  pub none : pairs_of d (take i xs) ≡ []

cut_at : (d : ℕ) (xs : List Pending) (i : ℕ) (p : Pending) → position (is_of d) xs ≡ Some i → p ≡ get_or xs i p → IsCut d xs i p
cut_at d xs i p e at =
    let found = position-Some (is_of d) xs i p e in
    let within : i < length xs = found.0 in
    let is : is_of d p ≡ true = ap (is_of d) at ∙ found.1 in
    record {
      whole = sym (take-append-drop i xs) ∙ ap (λ ys. take i xs ++ ys) (drop_more xs i p within ∙ (ap (λ (q : Pending). q ∷ drop (i + 1) xs) (sym at) ∙ ap (λ n. p ∷ drop n xs) (add-one i)));
      own = grind (arith, nat_tests, is);
      none = none_of d (take i xs) (λ k q m. let n : k < i = subst (λ z. k < z) (length-take-le i xs (omega arith)) m in ap (is_of d) (get_or-take i xs k q n) ∙ (ap (is_of d) (get_or_default xs k q p (omega arith)) ∙ found.2 k n));
    }

pub found_first : (d : ℕ) (xs : List Pending) (i : ℕ) (e : Pending) → position (is_of d) xs ≡ Some i → first_of (pairs_of d xs) ≡ Some (pair_of (get_or xs i e))
found_first d xs i e found =
    let p : Pending = get_or xs i e in
    let cut : IsCut d xs i p = cut_at d xs i p found (get_or_default xs i e p (position-Some (is_of d) xs i e found).0) in
    ap (λ ys. first_of (pairs_of d ys)) cut.whole
    ∙ (ap first_of (pairs_of-behind d (take i xs) (p ∷ drop (suc i) xs) cut.none) ∙ ap first_of (pairs_of-own d p (drop (suc i) xs) cut.own))

pub removed_first : (d : ℕ) (xs new : List Pending) (i : ℕ) → position (is_of d) xs ≡ Some i → new ≡ remove xs i → IsRewritten xs new d (rest_of (pairs_of d xs))
removed_first d xs new i e items =
    let none : Pending = record { driver = 0; time = 0; value = X } in
    let p : Pending = get_or xs i none in
    let within : i < length xs = (position-Some (is_of d) xs i none e).0 in
    let cut : IsCut d xs i p = cut_at d xs i p e (get_or_default xs i none p within) in
    subst (λ ys. IsRewritten xs ys d (rest_of (pairs_of d xs))) (sym items)
    (subst (λ ys. IsRewritten ys (take i xs ++ drop (suc i) xs) d (rest_of (pairs_of d ys))) (sym cut.whole) (removed (take i xs) (drop (suc i) xs) p d cut.own cut.none))
