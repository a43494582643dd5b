-- The checks that are listed are all that may see something, in order and each once.
use Rattle.std.specs.Prelude.{◌≡◌, ℕ, zero, suc, ◌⊎◌, ◌+◌, ◌<◌, ◌≤◌, ◌==◌, ◌&&◌, Bool, true, false, not, ◌||◌, if◌then◌else◌, All, List, [], ◌∷◌, ◌++◌, length, map, replicate, take, slice_index_or, slice_set, Option, Some, None, IfSome, refl}
use Rattle.std.specs.List.{filter, flat_map, sum_by}
use Rattle.std.specs.List.Sorted.{IsNonDecreasing, IsPermutation}
use Rattle.std.proofs.Common.{sym, ◌∙◌, ap, subst, arith, inl, inr, zero-add}
use Rattle.std.proofs.lemmas.Bool.{cases_eq}
use Rattle.std.proofs.lemmas.List.{get_or-map, length-replicate, length-map, take_more}
use Rattle.std.proofs.lemmas.List.Elements.{filter-append}
use Rattle.std.proofs.lemmas.List.Sums.{sum_by-cons}
use Rattle.std.proofs.lemmas.List.Sorted.{sum_by-IsPermutation, length_permutation}
use Rattle.sg_logic.specs.declared.values.Value.{Value}
use Rattle.sg_logic.specs.Values.{is_same}
use Rattle.sg_circuit.specs.declared.checks.Event.{Event}
use Rattle.time_checks.specs.declared.adjusted.AdjustedCheck as code
use Rattle.time_checks.specs.Adjusted.{AdjustedCheck}
use Rattle.time_checks.specs.AdjustedSeen.{adjusted_seen}
use Rattle.sg_circuit.specs.FanOut.{has, readers_at, readers_from, IsFanOut}
use Rattle.sg_model.specs.Values.{value_at}
use Rattle.sg_model.proofs.PlacedLaws.{same-true}
use Rattle.fan_round.specs.Lists.{occurrences}
use Rattle.fan_round.specs.Nets.{differs}
use Rattle.fan_round.specs.Rounds.{IsOnce}
use Rattle.fan_round.specs.Work.{mark_at, AreMarked, with_marks, with_readers}
use Rattle.fan_round.proofs.ListLaws.{each_from-at, test_other, occurs_here, occurs_at, test_same}
use Rattle.fan_round.proofs.WorkLaws.{length-with_marks, marked-within}
use Rattle.fan_round.proofs.WorkIsExact.{or_left, or_right, mark_with, is_reader, occurs_has}
use Rattle.time_checks.specs.Within.{terminals, datum_nets, IsEventWithin, IsCheckWithin}
use Rattle.time_checks.specs.declared.watches.Watch.{Watch}
use Rattle.time_checks.specs.ChangeSets.{change_in, edge_set}
use Rattle.time_checks.specs.Events.{has_event, has_opposite, is_enabled}
use Rattle.time_checks.specs.Kept.{has_datum}
use Rattle.time_checks.specs.Watching.{asks_back, back_set, change_number_at, datum_net, datum_set, events_needed, is_taken, net_by, no_watch, taken_fan, takes, watch_by}
use Rattle.time_checks.proofs.EventLaws.{no_event, no_opposite}
use Rattle.time_checks.proofs.WatchLaws.{back-is, happening, refer-is, watch-at}
use Rattle.time_checks.specs.Violations.{all_from}
use Rattle.time_checks.specs.Checking.{check_at, Covers}

-- marks stay
stays_marked : (fan : List (List ℕ)) (nets : List ℕ) (marks : List Bool) (e : ℕ) → e < length marks → mark_at marks e ≡ true → mark_at (with_readers fan nets marks) e ≡ true
stays_marked fan [] marks e l h = h
stays_marked fan (n ∷ ns) marks e l h =
    let m : e < length (with_marks (readers_at fan n) marks) = subst (λ k. e < k) (sym (length-with_marks (readers_at fan n) marks)) l in
    stays_marked fan ns (with_marks (readers_at fan n) marks) e m (mark_with (readers_at fan n) marks e l ∙ or_left (mark_at marks e) (has e (readers_at fan n)) h)

-- the readers of each of the nets are marked
becomes_marked : (fan : List (List ℕ)) (nets : List ℕ) (marks : List Bool) (e n : ℕ) → e < length marks → has n nets ≡ true → has e (readers_at fan n) ≡ true → mark_at (with_readers fan nets marks) e ≡ true
becomes_marked fan [] marks e n l h r = cc
becomes_marked fan (x ∷ xs) marks e n l h r =
    let m : e < length (with_marks (readers_at fan x) marks) = subst (λ k. e < k) (sym (length-with_marks (readers_at fan x) marks)) l in
    elim (cases_eq x n) [
      | inl same ↦ stays_marked fan xs (with_marks (readers_at fan x) marks) e m (mark_with (readers_at fan x) marks e l ∙ or_right (mark_at marks e) (has e (readers_at fan x)) (ap (λ k. has e (readers_at fan k)) same ∙ r))
      | inr other ↦ becomes_marked fan xs (with_marks (readers_at fan x) marks) e n m (sym (ap (λ b. b || has n xs) (test_other x n other)) ∙ h) r
    ]

not_false : (b : Bool) → not b ≡ false → b ≡ true
not_false true e = refl
not_false false e = cc

-- the readers of a net that look at its change
pub readers-taken : (watches : List Watch) (last now : List Value) (index : List (List ℕ)) (net : ℕ) → net < length index
    → readers_at (taken_fan watches last now index) net ≡ filter (takes watches net (change_number_at last now net)) (readers_at index net)
readers-taken watches last now index net l =
    each_from-at (λ n numbers. filter (takes watches n (change_number_at last now n)) numbers) 0 index net [] [] l
    ∙ ap (λ n. filter (takes watches n (change_number_at last now n)) (readers_at index net)) (zero-add net)

has_filter : (p : ℕ → Bool) (k : ℕ) (xs : List ℕ) → has k xs ≡ true → p k ≡ true → has k (filter p xs) ≡ true
has_filter p k [] h q = cc
has_filter p k (x ∷ xs) h q = elim (cases_eq x k) [
  | inl same ↦ ap (λ b. has k (if b then (x ∷ filter p xs) else filter p xs)) (ap p same ∙ q) ∙ or_left (x == k) (has k (filter p xs)) (test_same x k same)
  | inr other ↦ at (p x) (has_filter p k xs (sym (ap (λ b. b || has k xs) (test_other x k other)) ∙ h) q)
]
  where
    at : (b : Bool) → has k (filter p xs) ≡ true → has k (if b then (x ∷ filter p xs) else filter p xs) ≡ true
    at true m = or_right (x == k) (has k (filter p xs)) m
    at false m = m

-- so a check that isn't marked doesn't look at the change of its net
not_taken : (checks : List AdjustedCheck) (watches : List Watch) (index : List (List ℕ)) (changed : List ℕ) (last now : List Value) (e net : ℕ) → IsFanOut (map (λ c. terminals c) checks) index → e < length checks → net < length index
    → has net (terminals (check_at checks e)) ≡ true → has net changed ≡ true → mark_at (with_readers (taken_fan watches last now index) changed (replicate (length checks) false)) e ≡ false → takes watches net (change_number_at last now net) e ≡ false
not_taken checks watches index changed last now e net is l inside h listed unmarked = at (takes watches net (change_number_at last now net) e) refl
  where
    start : List Bool
    start = replicate (length checks) false

    inputs : List (List ℕ)
    inputs = map (λ c. terminals c) checks

    at : (b : Bool) → takes watches net (change_number_at last now net) e ≡ b → b ≡ false
    at false q = refl
    at true q =
        let many : e < length inputs = subst (λ n. e < n) (sym (length-map checks (λ c. terminals c))) l in
        let marks : e < length start = subst (λ n. e < n) (sym (length-replicate (length checks) false)) l in
        let own : slice_index_or inputs e [] ≡ terminals (check_at checks e) = get_or-map (λ c. terminals c) checks e _ [] l in
        let reads : has e (readers_at index net) ≡ true =
        ap (has e) (is.each net inside) ∙ (ap (λ x. has x (readers_from net 0 inputs)) (sym (zero-add e)) ∙ (is_reader net 0 e inputs many ∙ (ap (has net) own ∙ h))) in
        let taken : has e (readers_at (taken_fan watches last now index) net) ≡ true =
        ap (has e) (readers-taken watches last now index net inside) ∙ has_filter (takes watches net (change_number_at last now net)) e (readers_at index net) reads q in
        let yes : mark_at (with_readers (taken_fan watches last now index) changed start) e ≡ true = becomes_marked (taken_fan watches last now index) changed start e net marks listed taken in
        let no : false ≡ true = sym unmarked ∙ yes in
        cc

first_false : (t a b r : Bool) → t ≡ true → ((t && (a || b)) || r) ≡ false → (a ≡ false) × (b ≡ false)
first_false true true b r e h = cc
first_false true false true r e h = cc
first_false true false false r e h = (refl, refl)
first_false false a b r e h = cc

second_false : (l t c : Bool) → t ≡ true → (l || (t && c)) ≡ false → c ≡ false
second_false true t c e h = cc
second_false false true c e h = h
second_false false false c e h = cc

and_false : (b : Bool) → (b && false) ≡ false
and_false true = refl
and_false false = refl

-- a net stays, or the check doesn't look at its change
abbrev pub IsLeft : AdjustedCheck → List Value → List Value → ℕ → Type 0
IsLeft check last now net = (value_at last net ≡ value_at now net) ⊎ (is_taken (watch_by check) net (change_number_at last now net) ≡ false)

-- where that is so of all nets of a check nothing happens to it
quiet_by : (check : AdjustedCheck) (nets : ℕ) (last now : List Value) → IsCheckWithin check nets → ((net : ℕ) → net < nets → has net (terminals check) ≡ true → IsLeft check last now net)
    → events_needed check last now ≡ happening false false false
quiet_by check nets last now w h =
    let refer : (has_event check.refer last now ≡ false) × ((asks_back check.kind && has_opposite check.refer last now) ≡ false) =
    elim (h check.refer.net w.refer.net (or_left (check.refer.net == check.refer.net) (has check.refer.net (datum_nets check.datum)) (test_same check.refer.net check.refer.net refl))) [
      | inl same ↦ (no_event check.refer last now same, ap (λ b. asks_back check.kind && b) (no_opposite check.refer last now same) ∙ and_false (asks_back check.kind))
      | inr free ↦ (let both = first_false (check.refer.net == check.refer.net) (change_in (edge_set check.refer.edge) (number check.refer.net)) (change_in (back_set check.kind check.refer.edge) (number check.refer.net))
          ((datum_net check == check.refer.net) && change_in (datum_set check.datum) (number check.refer.net)) (test_same check.refer.net check.refer.net refl) free in
          (sym (refer-is check.refer last now) ∙ ap (λ b. b && is_enabled check.refer.condition now) both.0, sym (back-is check last now) ∙ both.1))
    ] in
    ap (λ b. happening b (has_datum check.datum last now) (asks_back check.kind && has_opposite check.refer last now)) refer.0
    ∙ (ap (λ b. happening false b (asks_back check.kind && has_opposite check.refer last now)) (datum check.datum w.datum (λ net l g. h net l (or_right (check.refer.net == net) (has net (datum_nets check.datum)) g)))
    ∙ ap (happening false false) refer.1)
  where
    number : ℕ → ℕ
    number net = change_number_at last now net

    first : ℕ → Bool
    first net = (check.refer.net == net) && (change_in (edge_set check.refer.edge) (number net) || change_in (back_set check.kind check.refer.edge) (number net))

    datum : (o : Option Event) → IfSome o (λ event. IsEventWithin event nets)
        → ((net : ℕ) → net < nets → has net (datum_nets o) ≡ true → (value_at last net ≡ value_at now net) ⊎ ((first net || ((net_by o check.refer.net == net) && change_in (datum_set o) (number net))) ≡ false))
        → has_datum o last now ≡ false
    datum None m g = refl
    datum (Some event) m g = elim (g event.net m.net (or_left (event.net == event.net) false (test_same event.net event.net refl))) [
      | inl same ↦ no_event event last now same
      | inr free ↦ sym (refer-is event last now)
          ∙ ap (λ b. b && is_enabled event.condition now) (second_false (first event.net) (event.net == event.net) (change_in (edge_set event.edge) (number event.net)) (test_same event.net event.net refl) free)
    ]

pub unmarked-quiet : (checks : List AdjustedCheck) (watches : List Watch) (index : List (List ℕ)) (changed : List ℕ) (last now : List Value) (e : ℕ) → watches ≡ map (λ c. watch_by c) checks → IsFanOut (map (λ c. terminals c) checks) index
    → All (λ c. IsCheckWithin c (length index)) checks → e < length checks → Covers last now changed → mark_at (with_readers (taken_fan watches last now index) changed (replicate (length checks) false)) e ≡ false
    → events_needed (check_at checks e) last now ≡ happening false false false
unmarked-quiet checks watches index changed last now e ws is within l covers unmarked = quiet_by (check_at checks e) (length index) last now (within e _ l) left
  where
    left : (net : ℕ) → net < length index → has net (terminals (check_at checks e)) ≡ true → IsLeft (check_at checks e) last now net
    left net m h = at (differs last now net) refl
      where
        at : (b : Bool) → differs last now net ≡ b → IsLeft (check_at checks e) last now net
        at false d = inl (same-true (value_at last net) (value_at now net) (not_false (is_same (value_at last net) (value_at now net)) d))
        at true d = inr (ap (λ w. is_taken w net (change_number_at last now net)) (sym (watch-at checks watches e no_watch ws l)) ∙ not_taken checks watches index changed last now e net is l m h (covers.each net d) unmarked)

-- one more, where it looks at a change
with_marks-cat : (xs ys : List ℕ) (marks : List Bool) → with_marks (xs ++ ys) marks ≡ with_marks ys (with_marks xs marks)
with_marks-cat [] ys marks = refl
with_marks-cat (x ∷ xs) ys marks = with_marks-cat xs ys (slice_set marks x true)

pub taken_more : (p : ℕ → Bool) (numbers : List ℕ) (i blank : ℕ) (start mid new : List Bool) → i < length numbers → mid ≡ with_marks (filter p (take i numbers)) start → new ≡ with_marks (filter p (slice_index_or numbers i blank ∷ [])) mid
    → new ≡ with_marks (filter p (take (i + 1) numbers)) start
taken_more p numbers i blank start mid new l e n =
    let x : ℕ = slice_index_or numbers i blank in
    let more : filter p (take (i + 1) numbers) ≡ filter p (take i numbers) ++ filter p (x ∷ []) = ap (filter p) (take_more numbers i blank l) ∙ filter-append p (take i numbers) (x ∷ []) in
    n ∙ (ap (with_marks (filter p (x ∷ []))) e ∙ (sym (with_marks-cat (filter p (take i numbers)) (filter p (x ∷ [])) start) ∙ ap (λ xs. with_marks xs start) (sym more)))

-- a list of what is marked
pub marked-once : (marks : List Bool) (work : List ℕ) → AreMarked marks work → IsOnce work
marked-once marks work are = record { each = λ k. (let n : occurrences k work ≡ (if mark_at marks k then 1 else 0) = are.each.each k in most k (mark_at marks k) n) }
  where
    most : (k : ℕ) (b : Bool) → occurrences k work ≡ (if b then 1 else 0) → occurrences k work ≤ 1
    most k true e = omega arith
    most k false e = omega arith

pub unlisted-unmarked : (marks : List Bool) (work : List ℕ) (k : ℕ) → AreMarked marks work → has k work ≡ false → mark_at marks k ≡ false
unlisted-unmarked marks work k are h = at (mark_at marks k) refl
  where
    at : (b : Bool) → mark_at marks k ≡ b → b ≡ false
    at false e = refl
    at true e =
        let one : occurrences k work ≡ 1 = are.each.each k ∙ ap (λ b. if b then 1 else 0) e in
        let no : false ≡ true = sym h ∙ occurs_has k work (omega arith) in
        cc

-- a list in another order has each number as often
occurrences-sum : (k : ℕ) (xs : List ℕ) → occurrences k xs ≡ sum_by (λ x. if x == k then 1 else 0) xs
occurrences-sum k [] = refl
occurrences-sum k (x ∷ xs) = ap (λ n. (if x == k then 1 else 0) + n) (occurrences-sum k xs) ∙ sym (sum_by-cons (λ y. if y == k then 1 else 0) x xs)

occurrences-moved : (k : ℕ) (xs ys : List ℕ) → IsPermutation xs ys → occurrences k ys ≡ occurrences k xs
occurrences-moved k xs ys p = occurrences-sum k ys ∙ (sum_by-IsPermutation (λ x. if x == k then 1 else 0) xs ys p ∙ sym (occurrences-sum k xs))

pub marks-moved : (marks : List Bool) (xs ys : List ℕ) → IsPermutation xs ys → AreMarked marks xs → AreMarked marks ys
marks-moved marks xs ys p h = record { each = record { each = λ k. occurrences-moved k xs ys p ∙ h.each.each k }; count = length_permutation xs ys p ∙ h.count }

-- numbers that rise, from one on
abbrev pub RisesFrom : ℕ → List ℕ → Type 0
RisesFrom i [] = Unit {0}
RisesFrom i (k ∷ ks) = (i ≤ k) × RisesFrom (suc k) ks

pub rises : (i : ℕ) (ks : List ℕ) → All (λ k. i ≤ k) ks → IsNonDecreasing ks → IsOnce ks → RisesFrom i ks
rises i [] above h once = tt
rises i (k ∷ ks) above h once =
    (above 0 0 (omega arith), rises (suc k) ks later (λ a b d l m. h (suc a) (suc b) d (omega arith) (omega arith)) (record { each = rest }))
  where
    rest : (x : ℕ) → occurrences x ks ≤ 1
    rest x = let most : occurrences x (k ∷ ks) ≤ 1 = once.each x in (elim (k == x) as (λ b. (if b then 1 else 0) + occurrences x ks ≤ 1 → occurrences x ks ≤ 1) [ true ↦ λ g. omega arith | false ↦ λ g. omega arith ]) most

    apart : (x : ℕ) → k ≤ x → 0 < occurrences x ks → occurrences k ks ≡ 0 → suc k ≤ x
    apart x least some none = elim (cases_eq k x) [
      | inl same ↦ (let e : occurrences x ks ≡ 0 = ap (λ y. occurrences y ks) (sym same) ∙ none in absurd (omega arith))
      | inr other ↦ omega arith
    ]

    later : All (λ x. suc k ≤ x) ks
    later a d l =
        let least : k ≤ slice_index_or ks a d = h 0 (suc a) d (omega arith) (omega arith) in
        let some : 0 < occurrences (slice_index_or ks a d) ks = occurs_at ks a d l in
        let none : occurrences k ks ≡ 0 = (let most : occurrences k (k ∷ ks) ≤ 1 = once.each k in omega (arith, occurs_here k k ks refl)) in
        apart (slice_index_or ks a d) least some none

pub below_none : (i j : ℕ) (ks : List ℕ) → RisesFrom i ks → j < i → has j ks ≡ false
below_none i j [] r l = refl
below_none i j (k ∷ ks) r l =
    let least : i ≤ k = r.0 in
    ap (λ b. b || has j ks) (test_other k j (omega arith)) ∙ below_none (suc k) j ks r.1 (omega arith)

-- what is given one after another, where only listed numbers give something
pub listed-all : {A B : Type 0} (g : ℕ → List B) (i : ℕ) (xs : List A) (ks : List ℕ) → RisesFrom i ks → All (λ k. k < i + length xs) ks
    → ((k : ℕ) → i ≤ k → k < i + length xs → has k ks ≡ false → g k ≡ []) → flat_map g ks ≡ all_from (λ k x. g k) i xs
listed-all g i [] [] r a none = refl
listed-all g i [] (k ∷ ks) r a none = let l : k < i + 0 = a 0 0 (omega arith) in let m : i ≤ k = r.0 in absurd (omega arith)
listed-all g i (x ∷ xs) [] r a none =
    sym (ap (λ ys. ys ++ all_from (λ k x. g k) (suc i) xs) (none i (omega arith) (omega arith) refl)
    ∙ sym (listed-all g (suc i) xs [] tt (λ a d l. absurd (omega arith)) (λ k l m h. none k (omega arith) (omega arith) h)))
listed-all g i (x ∷ xs) (k ∷ ks) r a none =
    elim (cases_eq k i) [
      | inl same ↦
          ap (λ n. g n ++ flat_map g ks) same
          ∙ ap (λ ys. g i ++ ys) (listed-all g (suc i) xs ks (subst (λ n. RisesFrom (suc n) ks) same r.1) (λ b d l. (let m = a (suc b) d (omega arith) in omega arith))
          (λ j l m h. none j (omega arith) (omega arith) (ap (λ b. b || has j ks) (test_other k j (omega arith)) ∙ h)))
      | inr other ↦
          (let least : i ≤ k = r.0 in
          let gone : g i ≡ [] = none i (omega arith) (omega arith) (ap (λ b. b || has i ks) (test_other k i other) ∙ below_none (suc k) i ks r.1 (omega arith)) in
          listed-all g (suc i) xs (k ∷ ks) (omega arith, r.1) (λ b d l. (let m = a b d l in omega arith)) (λ j l m h. none j (omega arith) (omega arith) h)
          ∙ sym (ap (λ ys. ys ++ all_from (λ n y. g n) (suc i) xs) gone))
    ]

-- each terminal is at a net
pub terminals-within : (checks : List code.AdjustedCheck) (nets : ℕ) → All (λ c. IsCheckWithin (adjusted_seen c) nets) checks → All (λ c. All (λ n. n < nets) (terminals (adjusted_seen c))) checks
terminals-within checks nets within i d l = at (adjusted_seen (slice_index_or checks i d)) (within i d l)
  where
    datum : (o : Option Event) → IfSome o (λ event. IsEventWithin event nets) → All (λ n. n < nets) (datum_nets o)
    datum None w j e m = absurd (omega arith)
    datum (Some event) w zero e m = w.net
    datum (Some event) w (suc j) e m = absurd (omega arith)

    at : (check : AdjustedCheck) → IsCheckWithin check nets → All (λ n. n < nets) (terminals check)
    at check w zero e m = w.refer.net
    at check w (suc j) e m = datum check.datum w.datum j e (omega arith)

-- a listed number is one of those that have marks
pub listed-within : (marks : List Bool) (work seen : List ℕ) (n : ℕ) → AreMarked marks work → length marks ≡ n → seen ≡ work → All (λ k. k < n) seen
listed-within marks work seen n are many e = subst (λ ks. All (λ k. k < n) ks) (sym e) (λ i d l. subst (λ m. slice_index_or work i d < m) many (marked-within marks work i d are l))
