-- Of open scopes it is known how much of a path they read, and so whether they are its scope.
use Rattle.std.specs.Prelude.{suc, ℕ, ◌+◌, ◌-◌, ◌≡◌, ◌≤◌, ◌==◌, ◌&&◌, nat_eq, Bool, true, false, List, [], ◌∷◌, ◌++◌, length, drop, take, bytes_eq, slice_get, Option, Some, None, refl, if◌then◌else◌}
use Rattle.std.specs.Option.{option_and_then}
use Rattle.std.specs.List.{starts_with}
use Rattle.std.proofs.Common.{inl, inr, sym, ◌∙◌, ap, arith}
use Rattle.std.proofs.lemmas.Bool.{cases_Bool, and_parts, eq-eqb, ne_eqb, eqb-true, eqb-false, le-leb}
use Rattle.std.proofs.lemmas.List.{length-append}
use Rattle.vcd_model.specs.Inputs.{is_at, path}
use Rattle.vcd_stim.specs.Paths.{fronts, goes_on, inner_front, is_whole_front, is_whole_last, last_front, next_front}

-- ---- fronts of a text

abbrev pub begins : List ℕ → List ℕ → Bool
begins text p = starts_with nat_eq text p

abbrev pub front_of : List ℕ → List ℕ → Option ℕ
front_of text p = if begins text p then Some (length p) else None

begins-more : (p q text : List ℕ) → begins text (p ++ q) ≡ (begins text p && begins (drop (length p) text) q)
begins-more [] q text = refl
begins-more (a ∷ p) q [] = refl
begins-more (a ∷ p) q (s ∷ text) = by (nat_eq a s) (begins-more p q text)
  where
    by : (b : Bool) → begins text (p ++ q) ≡ (begins text p && begins (drop (length p) text) q) → (b && begins text (p ++ q)) ≡ ((b && begins text p) && begins (drop (length p) text) q)
    by true e = e
    by false e = refl

begins-short : (p text : List ℕ) → begins text p ≡ true → length p ≤ length text
begins-short [] text h = omega arith
begins-short (a ∷ p) [] h = absurd (cc)
begins-short (a ∷ p) (s ∷ text) h = let rest = begins-short p text (and_parts (nat_eq a s) (begins text p) h).1 in omega (arith, rest)

goes-on-short : (text : List ℕ) (at : ℕ) (q : List ℕ) → at ≤ length text → goes_on text at q ≡ (if begins (drop at text) q then Some (at + length q) else None)
goes-on-short text at q h = ap (λ b. if b then (if begins (drop at text) q then Some (at + length q) else None) else None) (le-leb at (length text) h)

front-more : (p q text : List ℕ) → option_and_then (λ at. goes_on text at q) (front_of text p) ≡ front_of text (p ++ q)
front-more p q text = by (begins text p) refl
  where
    joined : (if begins (drop (length p) text) q then Some (length p + length q) else None) ≡ (if begins (drop (length p) text) q then Some (length (p ++ q)) else None)
    joined = ap (λ n. if begins (drop (length p) text) q then Some n else None) (sym (length-append p q))

    by : (b : Bool) → begins text p ≡ b → option_and_then (λ at. goes_on text at q) (if b then Some (length p) else None) ≡ front_of text (p ++ q)
    by true e =
        goes-on-short text (length p) q (begins-short p text e) ∙ joined
        ∙ sym (ap (λ b. if b then Some (length (p ++ q)) else None) (begins-more p q text ∙ ap (λ b. b && begins (drop (length p) text) q) e))
    by false e = sym (ap (λ b. if b then Some (length (p ++ q)) else None) (begins-more p q text ∙ ap (λ b. b && begins (drop (length p) text) q) e))

front-first : (text n : List ℕ) → goes_on text 0 n ≡ front_of text n
front-first text n = goes-on-short text 0 n (omega arith) ∙ ap (λ k. if begins text n then Some k else None) (none-before (length n))
  where
    none-before : (k : ℕ) → 0 + k ≡ k
    none-before k = omega arith

assoc : (p q r : List ℕ) → (p ++ q) ++ r ≡ p ++ (q ++ r)
assoc [] q r = refl
assoc (a ∷ p) q r = ap (λ l. a ∷ l) (assoc p q r)

front-inner : (text p n : List ℕ) → inner_front text n (front_of text p) ≡ front_of text (p ++ (46 ∷ n))
front-inner text p n =
    ap (option_and_then (λ at. goes_on text at n)) (front-more p (46 ∷ []) text) ∙ front-more (p ++ (46 ∷ [])) n text ∙ ap (front_of text) (assoc p (46 ∷ []) n)

-- ---- the last of some

pub get-last : {A : Type 0} (xs : List A) (y : A) → slice_get (xs ++ y ∷ []) (length (xs ++ y ∷ []) - 1) ≡ Some y
get-last xs y = ap (slice_get (xs ++ y ∷ [])) (shorter xs y) ∙ at-end xs y
  where
    shorter : {A : Type 0} (xs : List A) (y : A) → length (xs ++ y ∷ []) - 1 ≡ length xs
    shorter xs y = let e = length-append xs (y ∷ []) in omega (arith, e)

    at-end : {A : Type 0} (xs : List A) (y : A) → slice_get (xs ++ y ∷ []) (length xs) ≡ Some y
    at-end [] y = refl
    at-end (x ∷ xs) y = at-end xs y

pub take-front : {A : Type 0} (xs : List A) (y : A) → take (length (xs ++ y ∷ []) - 1) (xs ++ y ∷ []) ≡ xs
take-front xs y = ap (λ n. take n (xs ++ y ∷ [])) (shorter xs y) ∙ at-end xs y
  where
    shorter : {A : Type 0} (xs : List A) (y : A) → length (xs ++ y ∷ []) - 1 ≡ length xs
    shorter xs y = let e = length-append xs (y ∷ []) in omega (arith, e)

    at-end : {A : Type 0} (xs : List A) (y : A) → take (length xs) (xs ++ y ∷ []) ≡ xs
    at-end [] y = refl
    at-end (x ∷ xs) y = ap (λ l. x ∷ l) (at-end xs y)

-- ---- open scopes

pub next-front-is : (scope n : List ℕ) (ns : List (List ℕ)) → next_front scope (last_front (fronts scope ns)) n ≡ front_of scope (path (n ∷ ns))
next-front-is scope n [] = front-first scope n
next-front-is scope n (m ∷ ms) =
    ap (λ o. next_front scope o n) (get-last (fronts scope ms) (next_front scope (last_front (fronts scope ms)) m))
    ∙ ap (inner_front scope n) (next-front-is scope m ms) ∙ front-inner scope (path (m ∷ ms)) n

whole-front : (p scope : List ℕ) → is_whole_front scope (front_of scope p) ≡ bytes_eq p scope
whole-front [] [] = refl
whole-front [] (s ∷ scope) = ne_eqb 0 (length (s ∷ scope)) (λ e. omega (arith, e))
whole-front (a ∷ p) [] = refl
whole-front (a ∷ p) (s ∷ scope) = by (nat_eq a s) (begins scope p) (whole-front p scope)
  where
    by : (b c : Bool) → is_whole_front scope (if c then Some (length p) else None) ≡ bytes_eq p scope
        → is_whole_front (s ∷ scope) (if (b && c) then Some (length (a ∷ p)) else None) ≡ (b && bytes_eq p scope)
    by true true e = more (length p) (length scope) ∙ e
      where
        more : (k n : ℕ) → (suc k == suc n) ≡ (k == n)
        more k n = elim (cases_Bool (k == n)) [
          | inl y ↦ eq-eqb (suc k) (suc n) (omega (arith, eqb-true k n y)) ∙ sym y
          | inr f ↦ ne_eqb (suc k) (suc n) (λ e2. eqb-false k n f (omega (arith, e2))) ∙ sym f
        ]
    by true false e = e
    by false c e = refl

-- a scope that is opened is that of the path
pub opened-is : (scope n : List ℕ) (ns : List (List ℕ)) → is_whole_front scope (next_front scope (last_front (fronts scope ns)) n) ≡ bytes_eq (path (n ∷ ns)) scope
opened-is scope n ns = ap (is_whole_front scope) (next-front-is scope n ns) ∙ whole-front (path (n ∷ ns)) scope

pub within-is : (scope : List ℕ) (ns : List (List ℕ)) → is_whole_last scope (last_front (fronts scope ns)) ≡ is_at scope ns
within-is scope [] = refl
within-is scope (n ∷ ns) = ap (is_whole_last scope) (get-last (fronts scope ns) (next_front scope (last_front (fronts scope ns)) n)) ∙ opened-is scope n ns
