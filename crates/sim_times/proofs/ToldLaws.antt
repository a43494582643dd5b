-- What was told of the nets, kept by the nets that were touched.
use Rattle.std.specs.Prelude.{◌≡◌, ◌≢◌, ◌⊎◌, ℕ, zero, suc, ◌+◌, ◌<◌, ◌≤◌, ◌||◌, Bool, true, false, not, if◌then◌else◌, All, List, [], ◌∷◌, ◌++◌, length, map, take, slice_index_or, slice_set, replicate, refl}
use Rattle.std.specs.Vec.{vec_capacity}
use Rattle.std.proofs.Common.{sym, ◌∙◌, ap, subst, arith, inl, inr, zero-add}
use Rattle.std.proofs.lemmas.List.{take_more, take_all, append-nil, get_or_default, get_or_past, length-map, ext_get_or}
use Rattle.std.proofs.lemmas.List.Elements.{All-nil, All-cons}
use Rattle.sg_logic.specs.declared.values.Value.{Value}
use Rattle.sg_logic.specs.declared.values.Value.TheVariants.{X}
use Rattle.sg_logic.specs.Values.{is_same}
use Rattle.sg_model.specs.Values.{value_at}
use Rattle.sg_model.specs.Round.{each_from}
use Rattle.sg_model.proofs.PlacedLaws.{same-true}
use Rattle.sg_model.proofs.PlacingSteps.{same-self}
use Rattle.sg_circuit.specs.FanOut.{has}
use Rattle.time_checks.specs.declared.changes.Change.{Change}
use Rattle.fan_round.specs.Lists.{occurrences, at_places}
use Rattle.fan_round.specs.Nets.{differs, AreChanged}
use Rattle.fan_round.specs.Work.{AreMarked, mark_at, with_marks}
use Rattle.sim_times.specs.Watching.{NetChange, AreDifferences, net_change}
use Rattle.fan_round.specs.States.{IsIdle}
use Rattle.sim_times.specs.Told.{IsTold, changes_in}
use Rattle.sim_times.specs.declared.told.Told.{Told}
use Rattle.fan_round.proofs.ListLaws.{occurs_here, occurs_later, listed_at, at_places-more, at_places-each, each_from-at, length-each_from}
use Rattle.fan_round.proofs.WorkLaws.{marked-start, marked-within, length-with_marks}
use Rattle.fan_round.proofs.WorkIsExact.{occurs_has, mark_with, or_left, or_right}

-- a net that differs is one of the nets
pub differs_within : (told values : List Value) (net : ℕ) → length told ≡ length values → differs told values net ≡ true → net < length values
differs_within told values net many e = elim (within net (length values)) [
  | inl in' ↦ in'
  | inr past ↦ (let b : value_at told net ≡ X = get_or_past told net X (omega arith) in
      let w : value_at values net ≡ X = get_or_past values net X past in
      let same : is_same (value_at told net) (value_at values net) ≡ true = same-self (value_at told net) (value_at values net) (b ∙ sym w) in
      let f : false ≡ true = sym (ap not same) ∙ e in cc)
]
  where
    within : (n m : ℕ) → (n < m) ⊎ (m ≤ n)
    within n m = grind arith

-- nothing was touched yet
pub told_start : (told : Told) (values : List Value) (n : ℕ) → told.values.items ≡ values → n ≡ length values → IsIdle told.touched n → IsTold told values
told_start told values n e l idle = record {
  as_many = ap length e;
  marks = ap length idle.marks ∙ (many n ∙ l);
  room = subst (λ m. m ≤ vec_capacity told.touched.list) l idle.room;
  marked = marked-start told.touched.marks.items told.touched.list.items n idle.marks idle.list;
  each = λ net d. absurd (let same : is_same (value_at told.values.items net) (value_at values net) ≡ true = same-self (value_at told.values.items net) (value_at values net) (ap (λ vs. value_at vs net) e) in let f : false ≡ true = sym (ap not same) ∙ d in cc);
}
  where
    many : (n : ℕ) → length (replicate n false) ≡ n
    many zero = refl
    many (suc n) = ap suc (many n)

-- the nets of a round are touched
pub touched_more : (told told' : Told) (before values : List Value) (changed : List ℕ) → IsTold told before → AreChanged before values changed → told'.values.items ≡ told.values.items
    → told'.touched.marks.items ≡ with_marks changed told.touched.marks.items → AreMarked told'.touched.marks.items told'.touched.list.items → vec_capacity told.touched.list ≤ vec_capacity told'.touched.list → IsTold told' values
touched_more told told' before values changed h are e marks marked room =
    let many : length values ≡ length before = are.as_many in
    let length' : length told'.touched.marks.items ≡ length told.touched.marks.items = ap length marks ∙ length-with_marks changed told.touched.marks.items in
    let space : length before ≤ vec_capacity told.touched.list = h.room in
    record {
      as_many = ap length e ∙ (h.as_many ∙ sym many);
      marks = length' ∙ (h.marks ∙ sym many);
      room = omega arith;
      marked = marked;
      each = λ net d. each net (subst (λ vs. differs vs values net ≡ true) e d);
    }
  where
    each : (net : ℕ) → differs told.values.items values net ≡ true → mark_at told'.touched.marks.items net ≡ true
    each net d =
        let l : net < length values = differs_within told.values.items values net (h.as_many ∙ sym are.as_many) d in
        let m : net < length told.touched.marks.items = subst (λ n. net < n) (are.as_many ∙ sym h.marks) l in
        ap (λ ms. mark_at ms net) marks ∙ (mark_with changed told.touched.marks.items net m ∙ at (has net changed) refl)
      where
        unchanged : has net changed ≡ false → occurrences net changed ≡ 0
        unchanged q = none (occurrences net changed) (λ l. let k : false ≡ true = sym q ∙ occurs_has net changed l in cc)
          where
            none : (n : ℕ) → (0 < n → ⊥) → n ≡ 0
            none zero f = refl
            none (suc n) f = absurd (f (omega arith))

        not_test : (b : Bool) (n : ℕ) → n ≡ 0 → n ≡ (if not b then 1 else 0) → b ≡ true
        not_test true n f g = refl
        not_test false n f g = absurd (let k : n ≡ 1 = g in omega arith)

        at : (b : Bool) → has net changed ≡ b → (mark_at told.touched.marks.items net || b) ≡ true
        at true q = or_right (mark_at told.touched.marks.items net) true refl
        at false q =
            let same : value_at before net ≡ value_at values net = same-true (value_at before net) (value_at values net) (not_test (is_same (value_at before net) (value_at values net)) (occurrences net changed) (unchanged q) (are.each.each net)) in
            or_left (mark_at told.touched.marks.items net) false (h.each net (subst (λ v. not (is_same (value_at told.values.items net) v) ≡ true) (sym same) d))

-- one net more is noted
pub changes_in-append : (told values : List Value) (xs ys : List ℕ) → changes_in told values (xs ++ ys) ≡ changes_in told values xs ++ changes_in told values ys
changes_in-append told values [] ys = refl
changes_in-append told values (x ∷ xs) ys = at (differs told values x) (changes_in-append told values xs ys)
  where
    at : (b : Bool) → changes_in told values (xs ++ ys) ≡ changes_in told values xs ++ changes_in told values ys
        → (if b then record { net = x; before = value_at told x; after = value_at values x } ∷ changes_in told values (xs ++ ys) else changes_in told values (xs ++ ys))
        ≡ (if b then record { net = x; before = value_at told x; after = value_at values x } ∷ changes_in told values xs else changes_in told values xs) ++ changes_in told values ys
    at true e = ap (λ cs. record { net = x; before = value_at told x; after = value_at values x } ∷ cs) e
    at false e = e

pub noted_more : (told values : List Value) (nets : List ℕ) (i blank : ℕ) (mid new : List NetChange) → i < length nets → mid ≡ changes_in told values (take i nets) → new ≡ mid ++ changes_in told values (slice_index_or nets i blank ∷ []) → new ≡ changes_in told values (take (i + 1) nets)
noted_more told values nets i blank mid new l e f =
    f ∙ (ap (λ cs. cs ++ changes_in told values (slice_index_or nets i blank ∷ [])) e ∙ (sym (changes_in-append told values (take i nets) (slice_index_or nets i blank ∷ [])) ∙ sym (ap (changes_in told values) (take_more nets i blank l))))

pub noted_all : (told values : List Value) (nets : List ℕ) (i : ℕ) (new : List NetChange) → length nets ≤ i → new ≡ changes_in told values (take i nets) → new ≡ changes_in told values nets
noted_all told values nets i new l e = e ∙ ap (changes_in told values) (take_all i nets l)

-- whether a net is noted
pub note_one : (told values : List Value) (net : ℕ) (d e : Value) (old new : List NetChange) → net < length values → length told ≡ length values → is_same (slice_index_or told net d) (slice_index_or values net e) ≡ false
    → new ≡ old ++ record { net = net; before = slice_index_or told net d; after = slice_index_or values net e } ∷ [] → new ≡ old ++ changes_in told values (net ∷ [])
note_one told values net d e old new l many other h =
    let a : slice_index_or told net d ≡ value_at told net = get_or_default told net d X (subst (λ n. net < n) (sym many) l) in
    let b : slice_index_or values net e ≡ value_at values net = get_or_default values net e X l in
    let differ : differs told values net ≡ true = ap not (ap (λ v. is_same v (value_at values net)) (sym a) ∙ (ap (λ v. is_same (slice_index_or told net d) v) (sym b) ∙ other)) in
    h ∙ (ap (λ v. old ++ record { net = net; before = v; after = slice_index_or values net e } ∷ []) a ∙ (ap (λ v. old ++ record { net = net; before = value_at told net; after = v } ∷ []) b
    ∙ ap (λ t. old ++ (if t then record { net = net; before = value_at told net; after = value_at values net } ∷ [] else [])) (sym differ)))

pub note_none : (told values : List Value) (net : ℕ) (d e : Value) (old : List NetChange) → net < length values → length told ≡ length values → is_same (slice_index_or told net d) (slice_index_or values net e) ≡ true
    → old ≡ old ++ changes_in told values (net ∷ [])
note_none told values net d e old l many same =
    let a : slice_index_or told net d ≡ value_at told net = get_or_default told net d X (subst (λ n. net < n) (sym many) l) in
    let b : slice_index_or values net e ≡ value_at values net = get_or_default values net e X l in
    let stays : differs told values net ≡ false = ap not (ap (λ v. is_same v (value_at values net)) (sym a) ∙ (ap (λ v. is_same (slice_index_or told net d) v) (sym b) ∙ same)) in
    sym (append-nil old) ∙ ap (λ t. old ++ (if t then record { net = net; before = value_at told net; after = value_at values net } ∷ [] else [])) (sym stays)

-- what is noted are the differences
occurrences-noted : (told values : List Value) (ks : List ℕ) (k : ℕ) → occurrences k (map (λ c. c.net) (changes_in told values ks)) ≡ (if differs told values k then occurrences k ks else 0)
occurrences-noted told values [] k = none (differs told values k)
  where
    none : (b : Bool) → ◌≡◌ {A = ℕ} 0 (if b then 0 else 0)
    none true = refl
    none false = refl
occurrences-noted told values (x ∷ xs) k = at (differs told values x) refl (cases x k) (occurrences-noted told values xs k)
  where
    cases : (a b : ℕ) → (a ≡ b) ⊎ (a ≢ b)
    cases a b = grind arith

    one : (b : Bool) (n m : ℕ) → b ≡ true → n ≡ (if b then m else 0) → n + 1 ≡ (if b then m + 1 else 0)
    one true n m e h = let q : n ≡ m = h in omega arith
    one false n m e h = absurd (let f : false ≡ true = e in cc)

    other : (b : Bool) (n m m' : ℕ) → m' ≡ m → n ≡ (if b then m else 0) → n ≡ (if b then m' else 0)
    other true n m m' e h = h ∙ sym e
    other false n m m' e h = h

    gone : (b : Bool) (n m : ℕ) → b ≡ false → n ≡ (if b then m else 0) → n ≡ (if b then m + 1 else 0)
    gone true n m e h = absurd (let f : true ≡ false = e in cc)
    gone false n m e h = h

    rest : List ℕ
    rest = map (λ c. c.net) (changes_in told values xs)

    at : (b : Bool) → differs told values x ≡ b → (x ≡ k) ⊎ (x ≢ k) → occurrences k rest ≡ (if differs told values k then occurrences k xs else 0)
        → occurrences k (map (λ c. c.net) (if b then record { net = x; before = value_at told x; after = value_at values x } ∷ changes_in told values xs else changes_in told values xs)) ≡ (if differs told values k then occurrences k (x ∷ xs) else 0)
    at true q (inl same) h =
        occurs_here x k rest same ∙ (one (differs told values k) (occurrences k rest) (occurrences k xs) (subst (λ n. differs told values n ≡ true) same q) h ∙ ap (λ n. if differs told values k then n else 0) (sym (occurs_here x k xs same)))
    at true q (inr apart) h = occurs_later x k rest apart ∙ other (differs told values k) (occurrences k rest) (occurrences k xs) (occurrences k (x ∷ xs)) (occurs_later x k xs apart) h
    at false q (inl same) h =
        gone (differs told values k) (occurrences k rest) (occurrences k xs) (subst (λ n. differs told values n ≡ false) same q) h ∙ ap (λ n. if differs told values k then n else 0) (sym (occurs_here x k xs same))
    at false q (inr apart) h = other (differs told values k) (occurrences k rest) (occurrences k xs) (occurrences k (x ∷ xs)) (occurs_later x k xs apart) h

noted_values : (told values : List Value) (ks : List ℕ) → All (λ c. (c.before ≡ value_at told c.net) × (c.after ≡ value_at values c.net)) (changes_in told values ks)
noted_values told values [] = All-nil (λ c. (c.before ≡ value_at told c.net) × (c.after ≡ value_at values c.net))
noted_values told values (k ∷ ks) = at (differs told values k) (noted_values told values ks)
  where
    P : NetChange → Type 0
    P c = (c.before ≡ value_at told c.net) × (c.after ≡ value_at values c.net)

    at : (b : Bool) → All P (changes_in told values ks) → All P (if b then record { net = k; before = value_at told k; after = value_at values k } ∷ changes_in told values ks else changes_in told values ks)
    at true h = All-cons P (record { net = k; before = value_at told k; after = value_at values k }) (changes_in told values ks) (refl, refl) h
    at false h = h

pub are_differences : (told values : List Value) (marks : List Bool) (touched : List ℕ) → AreMarked marks touched → ((net : ℕ) → differs told values net ≡ true → mark_at marks net ≡ true) → AreDifferences told values (changes_in told values touched)
are_differences told values marks touched marked each = record {
  nets = record { each = λ k. occurrences-noted told values touched k ∙ at k (differs told values k) refl };
  values = noted_values told values touched;
}
  where
    at : (k : ℕ) (b : Bool) → differs told values k ≡ b → (if b then occurrences k touched else 0) ≡ (if b then 1 else 0)
    at k true e = marked.each.each k ∙ ap (λ b. if b then 1 else 0) (each k e)
    at k false e = refl

-- each is of a net
pub differences_within : (told values : List Value) (changes : List Change) → length told ≡ length values → AreDifferences told values (map net_change changes) → All (λ c. c.net < length values) changes
differences_within told values changes many h = λ i d l.
    (let n : ℕ = (slice_index_or changes i d).net in
    let m : i < length (map (λ c. c.net) (map net_change changes)) = subst (λ k. i < k) (sym (length-map (map net_change changes) (λ c. c.net) ∙ length-map changes net_change)) l in
    let is : slice_index_or (map (λ c. c.net) (map net_change changes)) i 0 ≡ n = picked changes i d l in
    differs_within told values n many (subst (λ k. differs told values k ≡ true) is (listed_at (differs told values) (map (λ c. c.net) (map net_change changes)) i 0 h.nets m)))
  where
    picked : (cs : List Change) (i : ℕ) (d : Change) → i < length cs → slice_index_or (map (λ c. c.net) (map net_change cs)) i 0 ≡ (slice_index_or cs i d).net
    picked [] i d l = absurd (omega arith)
    picked (c ∷ cs) zero d l = refl
    picked (c ∷ cs) (suc i) d l = picked cs i d (omega arith)

-- what was told is settled
pub settle_told_more : (told values mid : List Value) (touched : List ℕ) (i blank : ℕ) (d : Value) → slice_index_or touched i blank < length values → i < length touched
    → mid ≡ at_places (λ net old. value_at values net) X (take i touched) told
    → slice_set mid (slice_index_or touched i blank) (slice_index_or values (slice_index_or touched i blank) d) ≡ at_places (λ net old. value_at values net) X (take (i + 1) touched) told
settle_told_more told values mid touched i blank d m l e =
    let net : ℕ = slice_index_or touched i blank in
    let read : slice_index_or values net d ≡ value_at values net = get_or_default values net d X m in
    ap (λ v. slice_set mid net v) read ∙ (ap (λ vs. slice_set vs net (value_at values net)) e ∙ sym (at_places-more (λ net old. value_at values net) X touched i blank told l))

pub told_settled : (told values mid : List Value) (marks : List Bool) (touched : List ℕ) (i : ℕ) → length touched ≤ i → length told ≡ length values → AreMarked marks touched → ((net : ℕ) → differs told values net ≡ true → mark_at marks net ≡ true)
    → mid ≡ at_places (λ net old. value_at values net) X (take i touched) told → mid ≡ values
told_settled told values mid marks touched i l many marked each e =
    e ∙ (ap (λ ks. at_places (λ net old. value_at values net) X ks told) (take_all i touched l)
    ∙ (at_places-each (mark_at marks) (λ net old. value_at values net) X touched told marked.each (λ j m q. same j (differs told values j) refl q)
    ∙ ext_get_or X (each_from (λ net old. value_at values net) 0 told) values (length-each_from (λ net old. value_at values net) 0 told ∙ many)
    (λ j m. (let k : j < length told = subst (λ n. j < n) (length-each_from (λ (net : ℕ) (old : Value). value_at values net) 0 told) m in
    each_from-at (λ net old. value_at values net) 0 told j X X k ∙ ap (λ n. value_at values n) (zero-add j)))))
  where
    was : (b : Bool) → not b ≡ false → b ≡ true
    was true f = refl
    was false f = cc

    same : (j : ℕ) (b : Bool) → differs told values j ≡ b → mark_at marks j ≡ false → value_at values j ≡ value_at told j
    same j true q f = absurd (let k : false ≡ true = sym f ∙ each j q in cc)
    same j false q f = sym (same-true (value_at told j) (value_at values j) (was (is_same (value_at told j) (value_at values j)) q))

-- and told again
pub told_again : (told' : Told) (values : List Value) (marks : List Bool) → told'.values.items ≡ values → told'.touched.marks.items ≡ replicate (length marks) false → told'.touched.list.items ≡ [] → length marks ≡ length values → length values ≤ vec_capacity told'.touched.list → IsTold told' values
told_again told' values marks e clear empty many room =
    told_start told' values (length marks) e many (record { marks = clear; list = empty; room = subst (λ n. n ≤ vec_capacity told'.touched.list) (sym many) room })

-- a touched net is one of the nets
pub touched_within : (marks : List Bool) (touched ks : List ℕ) (values : List Value) → ks ≡ touched → AreMarked marks touched → length marks ≡ length values → All (λ net. net < length values) ks
touched_within marks touched ks values e marked many = λ i d l.
    subst (λ n. slice_index_or ks i d < n) many (marked-within marks ks i d (subst (AreMarked marks) (sym e) marked) l)
