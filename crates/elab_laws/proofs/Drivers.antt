-- Nets are known by their numbers.
use Rattle.std.specs.Prelude.{◌≡◌, ℕ, suc, ◌+◌, ◌≤◌, ◌==◌, List, [], ◌∷◌, ◌++◌, Bool, true, false, ◌&&◌, Some, map, slice_get, length, ◌-◌, refl, bytes_eq}
use Rattle.std.specs.List.{range_with_len, position_from}
use Rattle.std.specs.Option.{unwrap_or}
use Rattle.std.specs.Bool.{one_answer}
use Rattle.std.proofs.Common.{sym, ◌∙◌, ap, arith, inl, inr, subst, append_assoc, length-append}
use Rattle.std.proofs.lemmas.Bool.{eq-eqb, eqb-true}
use Rattle.std.proofs.lemmas.Slice.Eq.{bytes_eq-Decides}
use Rattle.elab_laws.proofs.Firsts.{and-both}
use Rattle.elab_laws.proofs.Lists.{In}
use Rattle.elab_laws.proofs.Homes.{Owns, spot-same}
use Rattle.elab_laws.proofs.Apart.{AreApart}
use Rattle.elab_laws.proofs.NetsApart.{number-count}
use Rattle.elab_model.specs.Homes.{Spot, bit, outside, terminal, inner, late, is_same_spot}
use Rattle.elab_model.specs.Nets.{OwnNet, number_of}

pub spots-decide : (a b : Spot) → is_same_spot a b ≡ true → a ≡ b
spots-decide (bit s n p) (bit t m q) h =
    let x = and-both (s == t) (bytes_eq n m && p == q) h in
    let y = and-both (bytes_eq n m) (p == q) x.1 in
    let e : s ≡ t = eqb-true s t x.0 in
    let f : n ≡ m = (bytes_eq-Decides n m).0 y.0 in
    let g : p ≡ q = eqb-true p q y.1 in
    λ i. bit (e i) (f i) (g i)
spots-decide (outside s k n p) (outside t l m q) h =
    let x = and-both (s == t) (k == l && (bytes_eq n m && p == q)) h in
    let z = and-both (k == l) (bytes_eq n m && p == q) x.1 in
    let y = and-both (bytes_eq n m) (p == q) z.1 in
    let e : s ≡ t = eqb-true s t x.0 in
    let d : k ≡ l = eqb-true k l z.0 in
    let f : n ≡ m = (bytes_eq-Decides n m).0 y.0 in
    let g : p ≡ q = eqb-true p q y.1 in
    λ i. outside (e i) (d i) (f i) (g i)
spots-decide (terminal s k j) (terminal t l o) h =
    let x = and-both (s == t) (k == l && j == o) h in
    let y = and-both (k == l) (j == o) x.1 in
    let e : s ≡ t = eqb-true s t x.0 in
    let f : k ≡ l = eqb-true k l y.0 in
    let g : j ≡ o = eqb-true j o y.1 in
    λ i. terminal (e i) (f i) (g i)
spots-decide (inner s n p) (inner t m q) h =
    let x = and-both (s == t) (bytes_eq n m && p == q) h in
    let y = and-both (bytes_eq n m) (p == q) x.1 in
    let e : s ≡ t = eqb-true s t x.0 in
    let f : n ≡ m = (bytes_eq-Decides n m).0 y.0 in
    let g : p ≡ q = eqb-true p q y.1 in
    λ i. inner (e i) (f i) (g i)
spots-decide (late s n p) (late t m q) h =
    let x = and-both (s == t) (bytes_eq n m && p == q) h in
    let y = and-both (bytes_eq n m) (p == q) x.1 in
    let e : s ≡ t = eqb-true s t x.0 in
    let f : n ≡ m = (bytes_eq-Decides n m).0 y.0 in
    let g : p ≡ q = eqb-true p q y.1 in
    λ i. late (e i) (f i) (g i)
spots-decide (bit s n p) (outside t l m q) h = cc
spots-decide (bit s n p) (terminal t l j) h = cc
spots-decide (bit s n p) (inner t m q) h = cc
spots-decide (outside s k n p) (bit t m q) h = cc
spots-decide (outside s k n p) (terminal t l j) h = cc
spots-decide (outside s k n p) (inner t m q) h = cc
spots-decide (terminal s k i) (bit t m q) h = cc
spots-decide (terminal s k i) (outside t l m q) h = cc
spots-decide (terminal s k i) (inner t m q) h = cc
spots-decide (inner s n p) (bit t m q) h = cc
spots-decide (inner s n p) (outside t l m q) h = cc
spots-decide (inner s n p) (terminal t l j) h = cc
spots-decide (bit s n p) (late t m q) h = cc
spots-decide (outside s k n p) (late t m q) h = cc
spots-decide (terminal s k i) (late t m q) h = cc
spots-decide (inner s n p) (late t m q) h = cc
spots-decide (late s n p) (bit t m q) h = cc
spots-decide (late s n p) (outside t l m q) h = cc
spots-decide (late s n p) (terminal t l j) h = cc
spots-decide (late s n p) (inner t m q) h = cc

-- what stands at the number of a net
pub record StandsAt (spot : Spot) (os : List OwnNet) (k : ℕ) : Type 0 where
  pub owned : OwnNet
  pub at : slice_get os k ≡ Some owned
  pub same : spot ≡ owned.spot

found-at : (spot : Spot) (i : ℕ) (os : List OwnNet) (x : OwnNet) → In x os → is_same_spot spot x.spot ≡ true
    → (k : ℕ) × (i ≤ k) × StandsAt spot os (k - i) × (position_from (λ o. is_same_spot spot o.spot) i os ≡ Some k)
found-at spot i [] x h e = absurd h
found-at spot i (y ∷ ys) x h e = by (is_same_spot spot y.spot) refl (λ g. found-at spot (i + 1) ys x g e)
  where
    by : (b : Bool) → is_same_spot spot y.spot ≡ b
        → (In x ys → (k : ℕ) × (i + 1 ≤ k) × StandsAt spot ys (k - (i + 1)) × (position_from (λ o. is_same_spot spot o.spot) (i + 1) ys ≡ Some k))
        → (k : ℕ) × (i ≤ k) × StandsAt spot (y ∷ ys) (k - i) × (position_from (λ o. is_same_spot spot o.spot) i (y ∷ ys) ≡ Some k)
    by true t l =
        let z : i - i ≡ 0 = omega arith in
        (i, omega arith, rw z (record { owned = y; at = refl; same = spots-decide spot y.spot t }), rw t refl)
    by false t l =
        let there : In x ys = elim h [ inl g ↦ (let c : is_same_spot spot x.spot ≡ false = rw g t in cc) | inr g ↦ g ] in
        let r = l there in
        let le : i + 1 ≤ r.0 = r.1 in
        let k : r.0 - i ≡ suc (r.0 - (i + 1)) = omega arith in
        (r.0, omega arith, record { owned = r.2.owned; at = rw k r.2.at; same = r.2.same }, rw t r.3)

pub at-number : (spot : Spot) (os : List OwnNet) → Owns spot os → StandsAt spot os (number_of os spot)
at-number spot os o =
    let r = found-at spot 0 os o.owned o.there (ap (λ a. is_same_spot spot a) o.same ∙ spot-same spot) in
    let z : r.0 - 0 ≡ r.0 = omega arith in
    let e : number_of os spot ≡ r.0 = ap (λ k. unwrap_or k 0) r.3 in
    subst (StandsAt spot os) (z ∙ sym e) r.2

-- nets are the same exactly where their numbers are
pub same-by_number : (a b : Spot) (os : List OwnNet) → Owns a os → Owns b os → is_same_spot a b ≡ (number_of os a == number_of os b)
same-by_number a b os x y =
    one_answer (is_same_spot a b) (number_of os a == number_of os b)
    (spots-decide a b, λ e. ap (is_same_spot a) (sym e) ∙ spot-same a)
    (λ t. numbers (eqb-true (number_of os a) (number_of os b) t), λ e. eq-eqb (number_of os a) (number_of os b) (ap (number_of os) e))
  where
    numbers : number_of os a ≡ number_of os b → a ≡ b
    numbers e =
        let p = at-number a os x in
        let q = at-number b os y in
        let s : Some p.owned ≡ Some q.owned = sym p.at ∙ ap (slice_get os) e ∙ q.at in
        let o : p.owned ≡ q.owned = cc in
        p.same ∙ ap (λ o. o.spot) o ∙ sym q.same

-- the nets in order have the numbers in order
pub numbers-in_order : (os before after : List OwnNet) → AreApart os → os ≡ before ++ after → map (λ o. number_of os o.spot) after ≡ range_with_len (length before) (length after)
numbers-in_order os before [] apart e = refl
numbers-in_order os before (o ∷ after) apart e =
    let n : number_of os o.spot ≡ length before = ap (λ xs. number_of xs o.spot) e ∙ number-count before o after (subst AreApart e apart) in
    let f : os ≡ (before ++ o ∷ []) ++ after = e ∙ sym (append_assoc before (o ∷ []) after) in
    let l : length (before ++ o ∷ []) ≡ length before + 1 = length-append before (o ∷ []) in
    let rest : map (λ o. number_of os o.spot) after ≡ range_with_len (length before + 1) (length after) = numbers-in_order os (before ++ o ∷ []) after apart f ∙ ap (λ k. range_with_len k (length after)) l in
    rw n (ap (λ xs. length before ∷ xs) rest)

pub numbers-count : (os : List OwnNet) → AreApart os → map (λ o. number_of os o.spot) os ≡ range_with_len 0 (length os)
numbers-count os apart = numbers-in_order os [] os apart refl
