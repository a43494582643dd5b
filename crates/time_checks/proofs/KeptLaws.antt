-- What is judged from the latest times alone is what the definitions say of all times.
use Rattle.std.specs.Prelude.{◌≡◌, ℕ, ◌+◌, ◌-◌, ◌≤◌, nat_lt, nat_le, Bool, true, false, ◌&&◌, if◌then◌else◌, List, [], ◌∷◌, refl}
use Rattle.std.specs.Option.{option_map}
use Rattle.std.specs.List.{find}
use Rattle.std.specs.declared.option.Option.{Option}
use Rattle.std.specs.declared.option.Option.TheVariants.{Some, None}
use Rattle.std.proofs.Common.{sym, ◌∙◌, ap, subst, arith}
use Rattle.std.proofs.lemmas.Bool.Decides.{nat_tests}
use Rattle.time_checks.specs.declared.recent.Recent.{Recent}
use Rattle.time_checks.specs.Times.{grown, greatest, greatest_of}
use Rattle.time_checks.specs.Falling.{Falls}
use Rattle.time_checks.proofs.TimeLaws.{head_of, greatest-falls, greatest_of-falls, if_near, if_now, find-near, find-now, find-up_to, find-passes}
use Rattle.time_checks.specs.Windows.{Pair, where_true, later_of, setup, hold}
use Rattle.time_checks.specs.Kept.{greatest_below, StandsFor, datum_below, next_time, near, setup_kept, hold_kept, now_kept}

falls-grown : (b : Bool) (time : ℕ) (ts : List ℕ) → Falls time ts → Falls time (grown b time ts)
falls-grown true time ts f = let l : time ≤ time = omega arith in (l, f)
falls-grown false time ts f = f

irreflexive : (time : ℕ) → nat_lt time time ≡ false
irreflexive time = grind (arith, nat_tests)

find-grown : (b : Bool) (time : ℕ) (ts : List ℕ) → find (λ t. nat_lt t time) (grown b time ts) ≡ find (λ t. nat_lt t time) ts
find-grown true time ts = rw (irreflexive time) refl
find-grown false time ts = refl

near_test : (limit time t : ℕ) → t ≤ time → nat_lt (time - t) limit ≡ nat_lt time (t + limit)
near_test limit time t l = at (nat_lt (time - t) limit) refl
  where
    at : (b : Bool) → nat_lt (time - t) limit ≡ b → b ≡ nat_lt time (t + limit)
    at true e = let k : nat_lt time (t + limit) ≡ true = grind (arith, nat_tests, e) in sym k
    at false e = let k : nat_lt time (t + limit) ≡ false = grind (arith, nat_tests, e) in sym k

near-at : (limit time : ℕ) (o : Option ℕ) → ((t : ℕ) → o ≡ Some t → t ≤ time) → near limit time o ≡ if_near limit time o
near-at limit time None h = refl
near-at limit time (Some t) h = let l : t ≤ time = h t refl in ap (λ b. if b then Some t else None) (near_test limit time t l)

below_le : (t time : ℕ) → nat_lt t time ≡ true → t ≤ time
below_le t time e = grind (arith, nat_tests)

-- the greatest time of a data event below now
pub datum_below-exact : (time : ℕ) (latest : Recent) (rs ds : List ℕ) → Falls time ds → StandsFor latest rs ds
    → datum_below latest.datum latest.earlier time ≡ find (λ t. nat_lt t time) ds
datum_below-exact time latest rs [] f s = rw s.datum refl
datum_below-exact time latest rs (d ∷ ds) f s =
    let is : latest.datum ≡ Some d = s.datum ∙ greatest-falls time (d ∷ ds) f in
    let earlier : latest.earlier ≡ find (λ t. nat_lt t d) (d ∷ ds) =
    s.earlier ∙ (ap (λ o. greatest_below o (d ∷ ds)) (greatest-falls time (d ∷ ds) f) ∙ greatest_of-falls (λ t. nat_lt t d) time (d ∷ ds) f) in
    ap (λ o. datum_below o latest.earlier time) is ∙ at (nat_lt d time) refl earlier
  where
    at : (b : Bool) → nat_lt d time ≡ b → latest.earlier ≡ find (λ t. nat_lt t d) (d ∷ ds)
        → (if nat_lt d time then Some d else latest.earlier) ≡ find (λ t. nat_lt t time) (d ∷ ds)
    at true e q = rw e refl
    at false e q =
        let l : d ≤ time = f.0 in
        let same : d ≡ time = grind (arith, nat_tests, e) in
        let q' : latest.earlier ≡ find (λ t. nat_lt t time) (d ∷ ds) = q ∙ ap (λ m. find (λ t. nat_lt t m) (d ∷ ds)) same in
        ap (λ b. if b then Some d else latest.earlier) e ∙ q'

-- setup and removal
pub setup-exact : (limit time : ℕ) (refer datum back : Bool) (latest : Recent) (rs ds older : List ℕ) → Falls time ds → StandsFor latest rs ds
    → setup_kept limit time refer (datum_below latest.datum latest.earlier time)
    ≡ setup limit (record { time = time; refer = refer; datum = datum; back = back; refer_times = older; datum_times = grown datum time ds; refer_before = rs })
setup-exact limit time refer datum back latest rs ds older f s =
    let below : datum_below latest.datum latest.earlier time ≡ find (λ t. nat_lt t time) ds = datum_below-exact time latest rs ds f s in
    let grown_falls : Falls time (grown datum time ds) = falls-grown datum time ds f in
    let all : greatest_of (λ t. nat_lt t time && nat_lt time (t + limit)) (grown datum time ds) ≡ if_near limit time (find (λ t. nat_lt t time) ds) =
    greatest_of-falls (λ t. nat_lt t time && nat_lt time (t + limit)) time (grown datum time ds) grown_falls
    ∙ (find-near (λ t. nat_lt t time) time limit time (grown datum time ds) grown_falls ∙ ap (if_near limit time) (find-grown datum time ds)) in
    let kept : near limit time (datum_below latest.datum latest.earlier time) ≡ if_near limit time (find (λ t. nat_lt t time) ds) =
    ap (near limit time) below ∙ near-at limit time (find (λ t. nat_lt t time) ds) (λ t e. below_le t time (find-passes (λ t. nat_lt t time) ds t e)) in
    ap (λ o. where_true refer (option_map {U = Pair} (λ t. (time, t)) o)) (kept ∙ sym all)

-- the latest time after one more snapshot
pub next_time-exact : (happens : Bool) (time : ℕ) (before : Option ℕ) (ts : List ℕ) → Falls time ts → before ≡ greatest ts → next_time happens time before ≡ greatest (grown happens time ts)
next_time-exact true time before ts f e = let l : time ≤ time = omega arith in sym (greatest-falls time (time ∷ ts) (l, f))
next_time-exact false time before ts f e = e

-- what is kept goes on standing for the events
pub next-stands : (time : ℕ) (refer datum : Bool) (latest next : Recent) (rs ds : List ℕ) → Falls time rs → Falls time ds → StandsFor latest rs ds
    → next.refer ≡ next_time refer time latest.refer → next.datum ≡ next_time datum time latest.datum
    → next.earlier ≡ (if datum then datum_below latest.datum latest.earlier time else latest.earlier)
    → StandsFor next (grown refer time rs) (grown datum time ds)
next-stands time refer true latest next rs ds f g s r d e =
    let l : time ≤ time = omega arith in
    let head : greatest (time ∷ ds) ≡ Some time = greatest-falls time (time ∷ ds) (l, g) in
    record {
      refer = r ∙ next_time-exact refer time latest.refer rs f s.refer;
      datum = d ∙ sym head;
      earlier = e ∙ (datum_below-exact time latest rs ds g s ∙ (sym (find-grown true time ds) ∙ (sym (greatest_of-falls (λ t. nat_lt t time) time (time ∷ ds) (l, g)) ∙ sym (ap (λ o. greatest_below o (time ∷ ds)) head))));
    }
next-stands time refer false latest next rs ds f g s r d e = record {
  refer = r ∙ next_time-exact refer time latest.refer rs f s.refer;
  datum = d ∙ s.datum;
  earlier = e ∙ s.earlier;
}

abbrev reported : ℕ → ℕ → Option Pair
reported a b = Some (a, b)

abbrev now_if : Bool → ℕ → Option Pair
now_if b time = if b then Some (time, time) else None

later_of-none : (p : Option Pair) → later_of p None ≡ p
later_of-none None = refl
later_of-none (Some p) = refl

head_le : (time : ℕ) (ts : List ℕ) → Falls time ts → (t : ℕ) → head_of ts ≡ Some t → t ≤ time
head_le time [] f t e = cc
head_le time (u ∷ us) f t e = let same : u ≡ t = cc in subst (λ x. x ≤ time) same f.0

datum_part : (limit time : ℕ) (ts : List ℕ) → Falls time ts → greatest_of (λ t. nat_le t time && nat_lt time (t + limit)) ts ≡ near limit time (head_of ts)
datum_part limit time ts f =
    greatest_of-falls (λ t. nat_le t time && nat_lt time (t + limit)) time ts f
    ∙ (find-near (λ t. nat_le t time) time limit time ts f
    ∙ (ap (if_near limit time) (find-up_to time ts f) ∙ sym (near-at limit time (head_of ts) (head_le time ts f))))

refer_part : (limit time : ℕ) (ts : List ℕ) → Falls time ts → greatest_of (λ t. nat_le time t && nat_lt t (time + limit)) ts ≡ if_now limit time (head_of ts)
refer_part limit time ts f = greatest_of-falls (λ t. nat_le time t && nat_lt t (time + limit)) time ts f ∙ find-now time limit ts f

from_zero : (limit time t : ℕ) → t ≡ time → nat_lt t (time + limit) ≡ nat_lt 0 limit
from_zero limit time t same = at (nat_lt 0 limit) refl
  where
    at : (b : Bool) → nat_lt 0 limit ≡ b → nat_lt t (time + limit) ≡ b
    at true e = grind (arith, nat_tests, e)
    at false e = grind (arith, nat_tests, e)

now-at : (limit time : ℕ) (o : Option ℕ) → ((t : ℕ) → o ≡ Some t → t ≤ time) → option_map {U = Pair} (λ t. (time, t)) (if_now limit time o) ≡ now_kept limit time o
now-at limit time None h = refl
now-at limit time (Some t) h = at (nat_le time t) refl
  where
    at : (b : Bool) → nat_le time t ≡ b → option_map {U = Pair} (λ t. (time, t)) (if nat_le time t && nat_lt t (time + limit) then Some t else None) ≡ now_if (nat_le time t && nat_lt 0 limit) time
    at true e =
        let l : t ≤ time = h t refl in
        let same : t ≡ time = grind (arith, nat_tests, e) in
        let w : nat_lt t (time + limit) ≡ nat_lt 0 limit = from_zero limit time t same in
        rw (e, w) (elim (nat_lt 0 limit) as (λ b. option_map {U = Pair} (λ t. (time, t)) (if b then Some t else None) ≡ now_if b time) [ true ↦ ap (reported time) same | false ↦ refl ])
    at false e = rw e refl

abbrev later_pair : Bool → ℕ → Option Pair
later_pair c time = if c then Some (time, time) else Some (time, time)

-- both together at one time
together : (limit time : ℕ) (b : Bool) → later_of (now_if b time) (now_if b time) ≡ now_if b time
together limit time true = elim (nat_le time time) as (λ c. later_pair c time ≡ now_if true time) [ true ↦ refl | false ↦ refl ]
together limit time false = refl

-- hold and recovery
pub hold-exact : (limit time : ℕ) (refer datum back : Bool) (rs ds : List ℕ) (refer_time datum_time : Option ℕ) → Falls time rs → Falls time ds
    → refer_time ≡ greatest (grown refer time rs) → datum_time ≡ greatest (grown datum time ds)
    → hold_kept limit time refer datum refer_time datum_time
    ≡ hold limit (record { time = time; refer = refer; datum = datum; back = back; refer_times = grown refer time rs; datum_times = grown datum time ds; refer_before = rs })
hold-exact limit time refer true back rs ds refer_time datum_time f g r d =
    let rf : Falls time (grown refer time rs) = falls-grown refer time rs f in
    let df : Falls time (time ∷ ds) = falls-grown true time ds g in
    let of_datum : greatest_of (λ t. nat_le t time && nat_lt time (t + limit)) (grown refer time rs) ≡ near limit time (head_of (grown refer time rs)) = datum_part limit time (grown refer time rs) rf in
    let of_refer : option_map {U = Pair} (λ t. (time, t)) (greatest_of (λ t. nat_le time t && nat_lt t (time + limit)) (time ∷ ds)) ≡ now_kept limit time (Some time) =
    ap (option_map {U = Pair} (λ t. (time, t))) (refer_part limit time (time ∷ ds) df) ∙ now-at limit time (Some time) (head_le time (time ∷ ds) df) in
    ap (λ o. option_map {U = Pair} (λ t. (t, time)) (near limit time o)) (r ∙ greatest-falls time (grown refer time rs) rf)
    ∙ sym (ap (λ o. later_of (where_true refer o) (option_map {U = Pair} (λ t. (t, time)) (greatest_of (λ t. nat_le t time && nat_lt time (t + limit)) (grown refer time rs)))) of_refer
    ∙ (ap (λ o. later_of (where_true refer (now_kept limit time (Some time))) (option_map {U = Pair} (λ t. (t, time)) o)) of_datum ∙ at refer))
  where
    no_distance : nat_lt (time - time) limit ≡ nat_lt 0 limit
    no_distance = ap (λ n. nat_lt n limit) (let z : time - time ≡ 0 = omega arith in z)

    is_now : nat_le time time ≡ true
    is_now = grind (arith, nat_tests)

    at : (b : Bool) → later_of (where_true b (now_kept limit time (Some time))) (option_map {U = Pair} (λ t. (t, time)) (near limit time (head_of (grown b time rs))))
        ≡ option_map {U = Pair} (λ t. (t, time)) (near limit time (head_of (grown b time rs)))
    at false = refl
    at true = rw (is_now, no_distance) (elim (nat_lt 0 limit) as (λ b. later_of (now_if b time) (option_map {U = Pair} (λ t. (t, time)) (if b then Some time else None)) ≡ option_map {U = Pair} (λ t. (t, time)) (if b then Some time else None)) [ true ↦ together limit time true | false ↦ refl ])
hold-exact limit time true false back rs ds refer_time datum_time f g r d =
    ap (now_kept limit time) (d ∙ greatest-falls time ds g)
    ∙ sym (later_of-none (option_map {U = Pair} (λ t. (time, t)) (greatest_of (λ t. nat_le time t && nat_lt t (time + limit)) ds))
    ∙ (ap (option_map {U = Pair} (λ t. (time, t))) (refer_part limit time ds g) ∙ now-at limit time (head_of ds) (head_le time ds g)))
hold-exact limit time false false back rs ds refer_time datum_time f g r d = refl
