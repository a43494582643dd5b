-- Where a net stands among signals, and how signals are met one after another.
use Rattle.std.specs.Prelude.{◌≡◌, ◌≢◌, ◌⊎◌, ℕ, suc, ◌+◌, ◌-◌, ◌<◌, ◌≤◌, ◌^◌, ◌==◌, ◌||◌, Bool, true, false, not, if◌then◌else◌, All, List, [], ◌∷◌, ◌++◌, cond, length, slice_index, slice_index_or, slice_set, refl}
use Rattle.std.proofs.Common.{sym, ◌∙◌, ap, subst, arith, inl, inr, append_assoc}
use Rattle.std.proofs.lemmas.Bool.{cases_eq}
use Rattle.std.proofs.lemmas.Bool.Decides.{nat_tests}
use Rattle.std.proofs.lemmas.List.{append-nil, get_or-set_same, get_or-set_other, get_or_append_left, get_or_at, length-append, length-set}
use Rattle.std.proofs.lemmas.List.Elements.{All-cons, All-nil}
use Rattle.std.proofs.lemmas.List.Sums.{fails_before_first, position_or_len_is, prefix_len-le-length}
use Rattle.sg_circuit.specs.FanOut.{has}
use Rattle.sg_circuit.specs.Pins.{with_number, firsts_after}
use Rattle.sg_circuit.specs.Signals.{first_of_each}
use Rattle.sg_circuit.proofs.PinLaws.{has-append}
use Rattle.late_limits.specs.Numbering.{ArePlaced, IsLonger, IsPlaced}
use Rattle.late_limits.specs.Pairs.{signal_number}

pub test_same : (x k : ℕ) → x ≡ k → (x == k) ≡ true
test_same x k e = grind (arith, nat_tests)

pub test_other : (x k : ℕ) → x ≢ k → (x == k) ≡ false
test_other x k e = grind (arith, nat_tests)

number-at : (ns : List ℕ) (net i : ℕ) → i < length ns → slice_index ns i ≡ net → ((k : ℕ) → k < i → slice_index ns k ≢ net) → signal_number ns net ≡ i
number-at ns net i l e other =
    position_or_len_is (λ n. n == net) ns i 0 (omega arith) (λ k m. test_other (slice_index ns k) net (other k m)) (λ m. test_same (slice_index ns i) net e)

number-none : (ns : List ℕ) (net : ℕ) → ((k : ℕ) → k < length ns → slice_index ns k ≢ net) → signal_number ns net ≡ length ns
number-none ns net other = position_or_len_is (λ n. n == net) ns (length ns) 0 (omega arith) (λ k m. test_other (slice_index ns k) net (other k m)) (λ m. absurd (omega arith))

-- a net without a number stands nowhere
absent : (ns : List ℕ) (net : ℕ) → signal_number ns net ≡ length ns → (k : ℕ) → k < length ns → slice_index ns k ≢ net
absent ns net e k l same = let no : (slice_index ns k == net) ≡ false = fails_before_first (λ n. n == net) ns k 0 (omega arith) in cc (test_same (slice_index ns k) net same)

-- by the places that are kept
placed : (ns ps : List ℕ) → ArePlaced ns ps → (k net : ℕ) → k < length ns → slice_index ns k ≡ net → (net < length ps) × (slice_index ps net ≡ k)
placed ns ps h k net l e = let p : IsPlaced ns ps k = h.each k l in (subst (λ n. n < length ps) e p.there, subst (λ n. slice_index ps n ≡ k) e p.place)

pub place-is : (ns ps : List ℕ) (net place : ℕ) → ArePlaced ns ps → place ≡ slice_index ps net → (place < length ns) × (slice_index ns place ≡ net) → place ≡ signal_number ns net
place-is ns ps net place h is at =
    sym (number-at ns net place at.0 at.1 (λ k l e. (let p : (net < length ps) × (slice_index ps net ≡ k) = placed ns ps h k net (let m : k < length ns = omega (arith, at.0) in m) e in
    let f : ⊥ = omega (arith, p.1) in
    f)))

pub place-other : (ns ps : List ℕ) (net place : ℕ) → ArePlaced ns ps → place ≡ slice_index ps net → ¬ ((place < length ns) × (slice_index ns place ≡ net)) → length ns ≡ signal_number ns net
place-other ns ps net place h is at = sym (number-none ns net (λ k l e. (let p : (net < length ps) × (slice_index ps net ≡ k) = placed ns ps h k net l e in
    let same : place ≡ k = is ∙ p.1 in
    at (subst (λ i. i < length ns) (sym same) l, ap (slice_index ns) same ∙ e))))

pub place-none : (ns ps : List ℕ) (net : ℕ) → ArePlaced ns ps → length ps ≤ net → length ns ≡ signal_number ns net
place-none ns ps net h past = sym (number-none ns net (λ k l e. (let p : (net < length ps) × (slice_index ps net ≡ k) = placed ns ps h k net l e in let f : ⊥ = omega (arith, p.0) in f)))

pub longer-placed : (ns ps more : List ℕ) → IsLonger ps more → ArePlaced ns ps → ArePlaced ns more
longer-placed ns ps more g h = record {
  few = h.few;
  each = λ i l. (let p : IsPlaced ns ps i = h.each i l in let t : slice_index ns i < length ps = p.there in let m : length ps ≤ length more = g.longer in
      record { there = omega arith; place = g.same (slice_index ns i) t ∙ p.place });
}

-- a net more
pub one-placed : (ns ps more new : List ℕ) (net number : ℕ) → IsLonger ps more → ArePlaced ns ps → signal_number ns net ≡ length ns → number ≡ length ns → number < 2 ^ 32 - 1 → net < length more → new ≡ ns ++ net ∷ []
    → ArePlaced new (slice_set more net number)
one-placed ns ps more new net number g h none count few room is = subst (λ xs. ArePlaced xs (slice_set more net number)) (sym is) (record {
  few = (let n : length (ns ++ net ∷ []) ≡ length ns + 1 = length-append ns (net ∷ []) in omega arith);
  each = λ i l. by i l (cases_eq i (length ns));
})
  where
    long : length (slice_set more net number) ≡ length more
    long = length-set more net number

    last : slice_index (ns ++ net ∷ []) (length ns) ≡ net
    last = get_or_at ns net [] 0 (length ns) refl

    by : (i : ℕ) → i < length (ns ++ net ∷ []) → (i ≡ length ns) ⊎ (i ≢ length ns) → IsPlaced (ns ++ net ∷ []) (slice_set more net number) i
    by i l (inl same) =
        let n : slice_index (ns ++ net ∷ []) i ≡ net = ap (slice_index (ns ++ net ∷ [])) same ∙ last in
        record {
          there = subst (λ k. k < length (slice_set more net number)) (sym n) (subst (λ m. net < m) (sym long) room);
          place = ap (slice_index (slice_set more net number)) n ∙ (get_or-set_same more net number 0 room ∙ (count ∙ sym same));
        }
    by i l (inr other) =
        let m : i < length ns = (let n : length (ns ++ net ∷ []) ≡ length ns + 1 = length-append ns (net ∷ []) in omega arith) in
        let n : slice_index (ns ++ net ∷ []) i ≡ slice_index ns i = get_or_append_left ns (net ∷ []) 0 i m in
        let p : IsPlaced ns more i = (longer-placed ns ps more g h).each i m in
        record {
          there = subst (λ k. k < length (slice_set more net number)) (sym n) (subst (λ q. slice_index ns i < q) (sym long) p.there);
          place = ap (slice_index (slice_set more net number)) n ∙ (get_or-set_other more net (slice_index ns i) number 0 (absent ns net none i m) ∙ p.place);
        }

-- whether a net has a number
pub data HasNumber (net : ℕ) (ns : List ℕ) : Type 0 where
  one : has net ns ≡ true → signal_number ns net < length ns → HasNumber net ns
  none : has net ns ≡ false → signal_number ns net ≡ length ns → HasNumber net ns

pub numbered : (net : ℕ) (ns : List ℕ) → HasNumber net ns
numbered net [] = none refl refl
numbered net (n ∷ ns) = by (n == net) refl (numbered net ns)
  where
    behind : (n == net) ≡ false → signal_number (n ∷ ns) net ≡ 1 + signal_number ns net
    behind e = ap (λ b. cond (not b) (1 + signal_number ns net) 0) e

    by : (b : Bool) → (n == net) ≡ b → HasNumber net ns → HasNumber net (n ∷ ns)
    by true e h = one (ap (λ b. b || has net ns) e) (subst (λ k. k < length (n ∷ ns)) (sym (ap (λ b. cond (not b) (1 + signal_number ns net) 0) e)) (omega arith))
    by false e (one h l) = one (ap (λ b. b || has net ns) e ∙ h) (subst (λ k. k < length (n ∷ ns)) (sym (behind e)) (omega arith))
    by false e (none h l) = none (ap (λ b. b || has net ns) e ∙ h) (behind e ∙ (let s : 1 + signal_number ns net ≡ suc (length ns) = omega arith in s))

pub met-before : (net : ℕ) (ns : List ℕ) → signal_number ns net < length ns → ns ≡ with_number ns net
met-before net ns l = by (numbered net ns)
  where
    by : HasNumber net ns → ns ≡ with_number ns net
    by (one h m) = sym (ap (λ b. if b then ns else (ns ++ net ∷ [])) h)
    by (none h e) = absurd (omega arith)

pub not-met : (net : ℕ) (ns : List ℕ) → length ns ≤ signal_number ns net → signal_number ns net ≡ length ns
not-met net ns l = let m : signal_number ns net ≤ length ns = prefix_len-le-length (λ n. not (n == net)) ns in omega arith

pub met-now : (net : ℕ) (ns : List ℕ) → length ns ≤ signal_number ns net → ns ++ net ∷ [] ≡ with_number ns net
met-now net ns l = by (numbered net ns)
  where
    by : HasNumber net ns → ns ++ net ∷ [] ≡ with_number ns net
    by (one h m) = absurd (omega arith)
    by (none h e) = sym (ap (λ b. if b then ns else (ns ++ net ∷ [])) h)

-- nets that are met are those of which each is taken once
firsts-are : (xs seen firsts : List ℕ) → ((k : ℕ) → has k seen ≡ has k firsts) → firsts_after firsts xs ≡ firsts ++ first_of_each seen xs
firsts-are [] seen firsts h = sym (append-nil firsts)
firsts-are (x ∷ xs) seen firsts h = by (has x firsts) refl (firsts-are xs)
  where
    or_swap : (a b : Bool) → (a || b) ≡ (b || (a || false))
    or_swap true true = refl
    or_swap true false = refl
    or_swap false true = refl
    or_swap false false = refl

    by : (b : Bool) → has x firsts ≡ b → ((s fs : List ℕ) → ((k : ℕ) → has k s ≡ has k fs) → firsts_after fs xs ≡ fs ++ first_of_each s xs)
        → firsts_after (with_number firsts x) xs ≡ firsts ++ (if has x seen then first_of_each seen xs else x ∷ first_of_each (x ∷ seen) xs)
    by true e more = ap (λ b. firsts_after (if b then firsts else (firsts ++ x ∷ [])) xs) e
        ∙ (more seen firsts h ∙ ap (λ b. firsts ++ (if b then first_of_each seen xs else x ∷ first_of_each (x ∷ seen) xs)) (sym (h x ∙ e)))
    by false e more = ap (λ b. firsts_after (if b then firsts else (firsts ++ x ∷ [])) xs) e
        ∙ (more (x ∷ seen) (firsts ++ x ∷ []) (λ k. ap (λ b. (x == k) || b) (h k) ∙ (or_swap (x == k) (has k firsts) ∙ sym (has-append k firsts (x ∷ []))))
        ∙ (append_assoc firsts (x ∷ []) (first_of_each (x ∷ seen) xs) ∙ ap (λ b. firsts ++ (if b then first_of_each seen xs else x ∷ first_of_each (x ∷ seen) xs)) (sym (h x ∙ e))))

pub firsts-is : (xs : List ℕ) → firsts_after [] xs ≡ first_of_each [] xs
firsts-is xs = firsts-are xs [] [] (λ k. refl)

-- each of them is there
has-added : (net x : ℕ) (ns : List ℕ) → has net ns ≡ true → has net (with_number ns x) ≡ true
has-added net x ns h = by (has x ns)
  where
    or_left : (a b : Bool) → a ≡ true → (a || b) ≡ true
    or_left true b e = refl
    or_left false b e = absurd (cc)

    by : (b : Bool) → has net (if b then ns else (ns ++ x ∷ [])) ≡ true
    by true = h
    by false = has-append net ns (x ∷ []) ∙ or_left (has net ns) ((x == net) || false) h

has-new : (x : ℕ) (ns : List ℕ) → has x (with_number ns x) ≡ true
has-new x ns = by (has x ns) refl
  where
    or_right : (a b : Bool) → b ≡ true → (a || (b || false)) ≡ true
    or_right true b e = refl
    or_right false b e = ap (λ c. c || false) e

    by : (b : Bool) → has x ns ≡ b → has x (if b then ns else (ns ++ x ∷ [])) ≡ true
    by true e = e
    by false e = has-append x ns (x ∷ []) ∙ or_right (has x ns) (x == x) (test_same x x refl)

has-after : (net : ℕ) (xs ns : List ℕ) → has net ns ≡ true → has net (firsts_after ns xs) ≡ true
has-after net [] ns h = h
has-after net (x ∷ xs) ns h = has-after net xs (with_number ns x) (has-added net x ns h)

all-met : (xs ns : List ℕ) → All (λ x. has x (firsts_after ns xs) ≡ true) xs
all-met [] ns = All-nil (λ x. has x ns ≡ true)
all-met (x ∷ xs) ns =
    let P = λ (n : ℕ). has n (firsts_after (with_number ns x) xs) ≡ true in
    All-cons P x xs (has-after x xs (with_number ns x) (has-new x ns)) (all-met xs (with_number ns x))

pub met-number : (net : ℕ) (ns : List ℕ) → has net ns ≡ true → signal_number ns net < length ns
met-number net ns h = by (numbered net ns)
  where
    by : HasNumber net ns → signal_number ns net < length ns
    by (one k l) = l
    by (none k l) = absurd (let f : true ≡ false = sym h ∙ k in cc)

pub all-numbered : (xs : List ℕ) → All (λ x. signal_number (firsts_after [] xs) x < length (firsts_after [] xs)) xs
all-numbered xs = λ i d l. met-number (slice_index_or xs i d) (firsts_after [] xs) (all-met xs [] i d l)
