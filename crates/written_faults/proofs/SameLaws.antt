-- Timings have the same delays and limits where each transition does.
use Rattle.std.proofs.Common.{◌≡◌, refl, sym, ◌∙◌, ap, subst, ℕ, zero, suc, ◌+◌, ◌<◌, ◌≤◌, false, List, [], ◌∷◌, length, map, Some, slice_get, slice_index_or, inl, inr, arith}
use Rattle.std.specs.Prelude.{◌↔◌, ◌⊎◌, IsTrue}
use Rattle.std.proofs.lemmas.Bool.{cases_lt}
use Rattle.sg_circuit.specs.Timings.{limits_or}
use Rattle.sg_circuit.specs.TimingsSeen.{limit_seen, timings_of}
use Rattle.sg_delay.specs.declared.limits.Limit.{Limit}
use Rattle.written_model.specs.Entries.{Numbers, numbers_of}
use Rattle.written_faults.specs.Ambiguities.{IsSame}

abbrev pub numbers : List ℕ → List Limit → List Numbers
numbers ds ls = map numbers_of (timings_of ds ls)

abbrev number : ℕ → Limit → Numbers
number delay limit = record { delay = delay; reject = (limits_or delay (limit_seen limit)).0; error = (limits_or delay (limit_seen limit)).1 }

abbrev pub AreSameAt : (ds : List ℕ) (ls : List Limit) (es : List ℕ) (ms : List Limit) → ℕ → Limit → Limit → Type 0
AreSameAt ds ls es ms i d f = IsSame (slice_index_or ds i 0) (limit_seen (slice_index_or ls i d)) (slice_index_or es i 0) (limit_seen (slice_index_or ms i f))

numbers-at : (ds : List ℕ) (ls : List Limit) (i : ℕ) (d : Limit) → i < length ds → i < length ls → slice_get (numbers ds ls) i ≡ Some (number (slice_index_or ds i 0) (slice_index_or ls i d))
numbers-at [] ls i d l m = absurd (omega (arith, l))
numbers-at (x ∷ ds) [] i d l m = absurd (omega (arith, m))
numbers-at (x ∷ ds) (y ∷ ls) zero d l m = refl
numbers-at (x ∷ ds) (y ∷ ls) (suc i) d l m = numbers-at ds ls i d (omega (arith, l)) (omega (arith, m))

same-at : (ds : List ℕ) (ls : List Limit) (es : List ℕ) (ms : List Limit) (i : ℕ) (d f : Limit) → i < length ds → i < length ls → i < length es → i < length ms → numbers ds ls ≡ numbers es ms → AreSameAt ds ls es ms i d f
same-at ds ls es ms i d f l m n o e =
    let one = number (slice_index_or ds i 0) (slice_index_or ls i d) in
    let other = number (slice_index_or es i 0) (slice_index_or ms i f) in
    let h : Some one ≡ Some other = sym (numbers-at ds ls i d l m) ∙ (ap (λ ns. slice_get ns i) e ∙ numbers-at es ms i f n o) in
    let same : one ≡ other = cc in
    record { delays = ap (λ (n : Numbers). n.delay) same; rejects = ap (λ (n : Numbers). n.reject) same; errors = ap (λ (n : Numbers). n.error) same }

same-each : (ds : List ℕ) (ls : List Limit) (es : List ℕ) (ms : List Limit) → length ls ≡ length ds → length es ≡ length ds → length ms ≡ length ds
    → ((i : ℕ) (d f : Limit) → i < length ds → AreSameAt ds ls es ms i d f) → numbers ds ls ≡ numbers es ms
same-each [] ls [] ms l m n h = refl
same-each [] ls (x ∷ es) ms l m n h = absurd (omega (arith, m))
same-each (x ∷ ds) [] es ms l m n h = absurd (omega (arith, l))
same-each (x ∷ ds) (y ∷ ls) [] ms l m n h = absurd (omega (arith, m))
same-each (x ∷ ds) (y ∷ ls) (z ∷ es) [] l m n h = absurd (omega (arith, n))
same-each (x ∷ ds) (y ∷ ls) (z ∷ es) (w ∷ ms) l m n h =
    let here = h 0 y w (omega arith) in
    let rest = same-each ds ls es ms (omega (arith, l)) (omega (arith, m)) (omega (arith, n)) (λ i d f k. h (suc i) d f (omega (arith, k))) in
    ap {B = List Numbers} (λ v. record { delay = v; reject = (limits_or x (limit_seen y)).0; error = (limits_or x (limit_seen y)).1 } ∷ numbers ds ls) here.delays
    ∙ (ap {B = List Numbers} (λ v. record { delay = z; reject = v; error = (limits_or x (limit_seen y)).1 } ∷ numbers ds ls) here.rejects
    ∙ (ap {B = List Numbers} (λ v. record { delay = z; reject = (limits_or z (limit_seen w)).0; error = v } ∷ numbers ds ls) here.errors
    ∙ ap (λ ns. number z w ∷ ns) rest))

-- ---- twelve transitions, one after another

pub record AreTwelve (ds : List ℕ) (ls : List Limit) (es : List ℕ) (ms : List Limit) : Type 0 where
  pub delays : length ds ≡ 12
  pub limits : length ls ≡ 12
  pub others : length es ≡ 12
  pub other_limits : length ms ≡ 12

pub differs-at : (ds : List ℕ) (ls : List Limit) (es : List ℕ) (ms : List Limit) (i : ℕ) (d f : Limit) → AreTwelve ds ls es ms → i < 12 → (AreSameAt ds ls es ms i d f → IsTrue false) → IsTrue false ↔ (numbers ds ls ≡ numbers es ms)
differs-at ds ls es ms i d f t l other =
    (λ e. absurd cc, λ e. other (same-at ds ls es ms i d f (let n = t.delays in omega (arith, n, l)) (let n = t.limits in omega (arith, n, l)) (let n = t.others in omega (arith, n, l)) (let n = t.other_limits in omega (arith, n, l)) e))

pub all-same : (ds : List ℕ) (ls : List Limit) (es : List ℕ) (ms : List Limit) (i : ℕ) → AreTwelve ds ls es ms → 12 ≤ i → ((k : ℕ) (d f : Limit) → k < i → AreSameAt ds ls es ms k d f) → numbers ds ls ≡ numbers es ms
all-same ds ls es ms i t l h =
    same-each ds ls es ms (t.limits ∙ sym t.delays) (t.others ∙ sym t.delays) (t.other_limits ∙ sym t.delays) (λ k d f m. h k d f (let n = t.delays in omega (arith, n, l, m)))

pub same-next : (ds : List ℕ) (ls : List Limit) (es : List ℕ) (ms : List Limit) (i : ℕ) → ((d f : Limit) → AreSameAt ds ls es ms i d f) → ((k : ℕ) (d f : Limit) → k < i → AreSameAt ds ls es ms k d f)
    → (k : ℕ) (d f : Limit) → k < i + 1 → AreSameAt ds ls es ms k d f
same-next ds ls es ms i here before k d f l = by (cases_lt k i)
  where
    by : (k < i) ⊎ (i ≤ k) → AreSameAt ds ls es ms k d f
    by (inl m) = before k d f m
    by (inr m) = subst (λ n. AreSameAt ds ls es ms n d f) (let e : i ≡ k = omega (arith, l, m) in e) (here d f)

-- whatever stands past the end
within-any : (ls : List Limit) (i : ℕ) (d f : Limit) → i < length ls → slice_index_or ls i d ≡ slice_index_or ls i f
within-any [] i d f l = absurd (omega (arith, l))
within-any (x ∷ ls) zero d f l = refl
within-any (x ∷ ls) (suc i) d f l = within-any ls i d f (omega (arith, l))

pub at-any : (ds : List ℕ) (ls : List Limit) (es : List ℕ) (ms : List Limit) (i : ℕ) (d f : Limit) → AreTwelve ds ls es ms → i < 12 → AreSameAt ds ls es ms i d f → (g h : Limit) → AreSameAt ds ls es ms i g h
at-any ds ls es ms i d f t l same g h =
    subst (λ limit. IsSame (slice_index_or ds i 0) (limit_seen limit) (slice_index_or es i 0) (limit_seen (slice_index_or ms i h))) (within-any ls i d g (let n = t.limits in omega (arith, n, l)))
    (subst (λ limit. IsSame (slice_index_or ds i 0) (limit_seen (slice_index_or ls i d)) (slice_index_or es i 0) (limit_seen limit)) (within-any ms i f h (let n = t.other_limits in omega (arith, n, l))) same)
