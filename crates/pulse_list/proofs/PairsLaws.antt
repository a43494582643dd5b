-- What an edit of the list of all pending transitions does to each driver's pairs.
use Rattle.std.proofs.Common.{◌≡◌, ℕ, ◌==◌, Bool, true, false, not, List, [], ◌∷◌, ◌++◌, map, filter, refl, sym, ap, ◌∙◌, arith}
use Rattle.std.proofs.lemmas.Bool.Decides.{nat_tests}
use Rattle.std.proofs.lemmas.List.{map-append}
use Rattle.std.proofs.lemmas.List.Elements.{filter-append}
use Rattle.sg_model.specs.Pending.{rest_of}
use Rattle.pulse_list.specs.declared.plain.Pending.{Pending}
use Rattle.pulse_list.specs.Plain.{is_of, pair_of, pairs_of, IsRewritten}

pub pairs_of-append : (d : ℕ) (xs ys : List Pending) → pairs_of d (xs ++ ys) ≡ pairs_of d xs ++ pairs_of d ys
pairs_of-append d xs ys = ap (map pair_of) (filter-append (is_of d) xs ys) ∙ map-append pair_of (filter (is_of d) xs) (filter (is_of d) ys)

pub pairs_of-own : (d : ℕ) (p : Pending) (ps : List Pending) → p.driver ≡ d → pairs_of d (p ∷ ps) ≡ pair_of p ∷ pairs_of d ps
pairs_of-own d p ps e = let k : (p.driver == d) ≡ true = grind (arith, nat_tests) in rw k refl

pub pairs_of-other : (d : ℕ) (p : Pending) (ps : List Pending) → (p.driver ≡ d → ⊥) → pairs_of d (p ∷ ps) ≡ pairs_of d ps
pairs_of-other d p ps n = let k : (p.driver == d) ≡ false = grind (arith, nat_tests) in rw k refl

-- among others
pub pairs_of-between : (d : ℕ) (xs : List Pending) (p : Pending) (ys : List Pending) → (p.driver ≡ d → ⊥) → pairs_of d (xs ++ p ∷ ys) ≡ pairs_of d (xs ++ ys)
pairs_of-between d xs p ys n =
    pairs_of-append d xs (p ∷ ys) ∙ (ap (λ zs. pairs_of d xs ++ zs) (pairs_of-other d p ys n) ∙ sym (pairs_of-append d xs ys))

-- behind those of other drivers
pub pairs_of-behind : (d : ℕ) (xs ys : List Pending) → pairs_of d xs ≡ [] → pairs_of d (xs ++ ys) ≡ pairs_of d ys
pairs_of-behind d xs ys e = pairs_of-append d xs ys ∙ ap (λ zs. zs ++ pairs_of d ys) e

pub inserted : (xs ys : List Pending) (p : Pending) → pairs_of p.driver xs ≡ [] → IsRewritten (xs ++ ys) (xs ++ p ∷ ys) p.driver (pair_of p ∷ pairs_of p.driver (xs ++ ys))
inserted xs ys p e = record {
  own = pairs_of-behind p.driver xs (p ∷ ys) e ∙ (pairs_of-own p.driver p ys refl ∙ ap (λ zs. pair_of p ∷ zs) (sym (pairs_of-behind p.driver xs ys e)));
  others = λ d n. pairs_of-between d xs p ys (λ k. n (sym k));
}

pub removed : (xs ys : List Pending) (p : Pending) (d : ℕ) → p.driver ≡ d → pairs_of d xs ≡ [] → IsRewritten (xs ++ p ∷ ys) (xs ++ ys) d (rest_of (pairs_of d (xs ++ p ∷ ys)))
removed xs ys p d same e = record {
  own = pairs_of-behind d xs ys e ∙ ap rest_of (sym (pairs_of-behind d xs (p ∷ ys) e ∙ pairs_of-own d p ys same));
  others = λ o n. sym (pairs_of-between o xs p ys (λ k. n (sym k ∙ same)));
}

-- a driver that has nothing pending
pub unchanged : (xs : List Pending) (d : ℕ) → pairs_of d xs ≡ [] → IsRewritten xs xs d (rest_of (pairs_of d xs))
unchanged xs d e = record { own = e ∙ sym (ap rest_of e); others = λ o n. refl }

-- those of one driver are filtered out
abbrev pub is_not_of : ℕ → Pending → Bool
is_not_of d p = not (is_of d p)

filtered_own : (d : ℕ) (xs : List Pending) → pairs_of d (filter (is_not_of d) xs) ≡ []
filtered_own d [] = refl
filtered_own d (x ∷ xs) =
    elim (is_of d x) as (λ b. is_of d x ≡ b → pairs_of d (filter (is_not_of d) (x ∷ xs)) ≡ []) [
      | true ↦ λ k. rw k (filtered_own d xs)
      | false ↦ λ k. rw (k, k) (filtered_own d xs)
    ] refl

filtered_other : (o d : ℕ) (xs : List Pending) → (o ≡ d → ⊥) → pairs_of o (filter (is_not_of d) xs) ≡ pairs_of o xs
filtered_other o d [] n = refl
filtered_other o d (x ∷ xs) n =
    elim (is_of d x) as (λ b. is_of d x ≡ b → pairs_of o (filter (is_not_of d) (x ∷ xs)) ≡ pairs_of o (x ∷ xs)) [
      | true ↦ λ k. (let m : x.driver ≡ o → ⊥ = grind (arith, nat_tests) in rw k (filtered_other o d xs n ∙ sym (pairs_of-other o x xs m)))
      | false ↦ λ k. rw k (pairs_of-append o (x ∷ []) (filter (is_not_of d) xs) ∙ (ap (λ zs. pairs_of o (x ∷ []) ++ zs) (filtered_other o d xs n) ∙ sym (pairs_of-append o (x ∷ []) xs)))
    ] refl

pub filtered : (xs : List Pending) (d : ℕ) → IsRewritten xs (filter (is_not_of d) xs) d []
filtered xs d = record { own = filtered_own d xs; others = λ o n. filtered_other o d xs n }
