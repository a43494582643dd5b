-- A net's events, found by the numbers that stand under it.
use Rattle.std.specs.Prelude.{◌≡◌, ℕ, zero, suc, ◌+◌, ◌-◌, ◌<◌, ◌≤◌, ◌==◌, nat_lt, Bool, true, false, cond, All, List, [], ◌∷◌, ◌++◌, length, map, take, filter, Option, Some, None, slice_get, slice_index_or, refl}
use Rattle.std.specs.List.{enumerate_from, last_or, AllByRecursion, AllPairs}
use Rattle.std.specs.List.Sorted.{IsPartitionedBy, IsPartitionPoint}
use Rattle.std.proofs.Common.{sym, ◌∙◌, ap, subst, arith, append_assoc, length-append, length-take-le, get_or-take}
use Rattle.std.proofs.lemmas.Bool.Decides.{nat_tests}
use Rattle.std.proofs.lemmas.List.{length-map, map-append}
use Rattle.std.proofs.lemmas.List.Elements.{All-map}
use Rattle.std.proofs.lemmas.List.FromFn.{length-enumerate_from, get_or-enumerate_from}
use Rattle.std.proofs.lemmas.Option.{get_or_from_slice_get}
use Rattle.sg_logic.specs.declared.values.Value.{Value}
use Rattle.sg_logic.specs.declared.values.Value.TheVariants.{X}
use Rattle.sg_circuit.specs.FanOut.{readers_at}
use Rattle.sg_circuit.specs.declared.building.Pin.{Pin}
use Rattle.sg_circuit.specs.Pins.{elements_on}
use Rattle.why_causes.specs.declared.events.Event.{Event}
use Rattle.why_causes.specs.Waveform.{Waveform, is_before, last_before}
use Rattle.why_causes.specs.Traces.{pins_of, comes_before, holds_before, IsTrace}
use Rattle.why_causes.proofs.Lists.{each-filter, filter-both, numbered-more, numbered-all}

abbrev pub of_net : ℕ → ℕ × Event → Bool
of_net net e = e.1.net == net

abbrev pub first_of : ℕ × Event → ℕ
first_of e = e.0

abbrev pub pin_of : ℕ × Event → Pin
pin_of e = record { net = e.1.net; element = e.0 }

-- the numbers under a net are those of its events
row-of : (net : ℕ) (es : List (ℕ × Event)) → elements_on net (map pin_of es) ≡ map first_of (filter (of_net net) es)
row-of net [] = refl
row-of net (e ∷ es) = at (of_net net e) (row-of net es)
  where
    at : (b : Bool) → elements_on net (map pin_of es) ≡ map first_of (filter (of_net net) es)
        → cond b (e.0 ∷ elements_on net (map pin_of es)) (elements_on net (map pin_of es)) ≡ map first_of (cond b (e ∷ filter (of_net net) es) (filter (of_net net) es))
    at true rest = ap (λ ns. e.0 ∷ ns) rest
    at false rest = rest

-- an event stands under its number
abbrev pub Stands : List Event → ℕ × Event → Type 0
Stands events e = slice_get events e.0 ≡ Some e.1

get-mid : (before : List Event) (e : Event) (rest : List Event) → slice_get (before ++ e ∷ rest) (length before) ≡ Some e
get-mid [] e rest = refl
get-mid (x ∷ xs) e rest =
    let n : length (x ∷ xs) ≡ suc (length xs) = omega arith in
    ap (slice_get (x ∷ (xs ++ e ∷ rest))) n ∙ get-mid xs e rest

all-stand-from : (before rest : List Event) (k : ℕ) → k ≡ length before → AllByRecursion (Stands (before ++ rest)) (enumerate_from k rest)
all-stand-from before [] k is = tt
all-stand-from before (e ∷ es) k is = (
  ap (slice_get (before ++ e ∷ es)) is ∙ get-mid before e es,
  subst (λ xs. AllByRecursion (Stands xs) (enumerate_from (k + 1) es)) (append_assoc before (e ∷ []) es) (all-stand-from (before ++ e ∷ []) es (k + 1) (let m = length-append before (e ∷ []) in omega (arith, is, m))),
)

all-stand : (events : List Event) → AllByRecursion (Stands events) (enumerate_from 0 events)
all-stand events = all-stand-from [] events 0 refl

-- times don't fall
abbrev Rise : List (ℕ × Event) → Type 0
Rise [] = Unit {0}
Rise (e ∷ es) = AllByRecursion (λ (f : ℕ × Event). e.1.time ≤ f.1.time) es × Rise es

rise-each : (time : ℕ) (es : List Event) (k : ℕ) → ((i : ℕ) (d : Event) → i < length es → time ≤ (slice_index_or es i d).time) → AllByRecursion (λ (f : ℕ × Event). time ≤ f.1.time) (enumerate_from k es)
rise-each time [] k h = tt
rise-each time (e ∷ es) k h = (h 0 e (omega arith), rise-each time es (k + 1) (λ i d l. h (suc i) d (omega arith)))

rise-from : (es : List Event) (k : ℕ) → AllPairs (λ d e. d.time ≤ e.time) es → Rise (enumerate_from k es)
rise-from [] k h = tt
rise-from (e ∷ es) k h = (rise-each e.time es (k + 1) (λ i d l. h 0 (suc i) d (omega arith) (omega arith)), rise-from es (k + 1) (λ i j d l m. h (suc i) (suc j) d (omega arith) (omega arith)))

rise-filter : (test : ℕ × Event → Bool) (es : List (ℕ × Event)) → Rise es → Rise (filter test es)
rise-filter test [] h = tt
rise-filter test (e ∷ es) h = at (test e) (rise-filter test es h.1)
  where
    at : (b : Bool) → Rise (filter test es) → Rise (cond b (e ∷ filter test es) (filter test es))
    at true rest = (each-filter (λ (f : ℕ × Event). e.1.time ≤ f.1.time) test es h.0, rest)
    at false rest = rest

abbrev in_time : ℕ → ℕ × Event → Bool
in_time time e = nat_lt e.1.time time

-- the test of a number is that of its event
same-test : (events : List Event) (time : ℕ) (e : ℕ × Event) → Stands events e → holds_before events time e.0 ≡ in_time time e
same-test events time e h = ap (comes_before time) h

filter-numbers : (events : List Event) (time : ℕ) (es : List (ℕ × Event)) → AllByRecursion (Stands events) es → filter (holds_before events time) (map first_of es) ≡ map first_of (filter (in_time time) es)
filter-numbers events time [] h = refl
filter-numbers events time (e ∷ es) h =
    ap (λ b. cond b (e.0 ∷ filter (holds_before events time) (map first_of es)) (filter (holds_before events time) (map first_of es))) (same-test events time e h.0)
    ∙ at (in_time time e) (filter-numbers events time es h.1)
  where
    at : (b : Bool) → filter (holds_before events time) (map first_of es) ≡ map first_of (filter (in_time time) es)
        → cond b (e.0 ∷ filter (holds_before events time) (map first_of es)) (filter (holds_before events time) (map first_of es)) ≡ map first_of (cond b (e ∷ filter (in_time time) es) (filter (in_time time) es))
    at true rest = ap (λ ns. e.0 ∷ ns) rest
    at false rest = rest

-- where one passes the test, all before it do
passes-later : (events : List Event) (time bound : ℕ) (es : List (ℕ × Event)) (j d : ℕ) → AllByRecursion (Stands events) es → AllByRecursion (λ (f : ℕ × Event). bound ≤ f.1.time) es → j < length (map first_of es)
    → holds_before events time (slice_index_or (map first_of es) j d) ≡ true → nat_lt bound time ≡ true
passes-later events time bound [] j d s h l p = absurd (omega arith)
passes-later events time bound (e ∷ es) zero d s h l p =
    let q : nat_lt e.1.time time ≡ true = sym (same-test events time e s.0) ∙ p in
    let m : bound ≤ e.1.time = h.0 in
    grind (arith, nat_tests)
passes-later events time bound (e ∷ es) (suc j) d s h l p = passes-later events time bound es j d s.1 h.1 (omega arith) p

parted : (events : List Event) (time : ℕ) (es : List (ℕ × Event)) → AllByRecursion (Stands events) es → Rise es → IsPartitionedBy (holds_before events time) (map first_of es)
parted events time [] s h i j d m l p = absurd (omega arith)
parted events time (e ∷ es) s h zero zero d m l p = p
parted events time (e ∷ es) s h zero (suc j) d m l p = same-test events time e s.0 ∙ passes-later events time e.1.time es j d s.1 h.0 (omega arith) p
parted events time (e ∷ es) s h (suc i) zero d m l p = absurd (omega arith)
parted events time (e ∷ es) s h (suc i) (suc j) d m l p = parted events time es s.1 h.1 i j d (omega arith) (omega arith) p

last-at : {A : Type 0} (o : Option A) (es : List A) (k : ℕ) (d : A) → length es ≡ suc k → last_or o es ≡ Some (slice_index_or es k d)
last-at o [] k d l = absurd (omega (arith, l))
last-at o (x ∷ []) zero d l = refl
last-at o (x ∷ []) (suc k) d l = absurd (omega (arith, l))
last-at o (x ∷ y ∷ ys) zero d l = absurd (omega (arith, l))
last-at o (x ∷ y ∷ ys) (suc k) d l = last-at (Some x) (y ∷ ys) k d (omega (arith, l))

each-at : {A : Type 0} (P : A → Type 0) (xs : List A) (i : ℕ) (d : A) → AllByRecursion P xs → i < length xs → P (slice_index_or xs i d)
each-at P [] i d h l = absurd (omega (arith, l))
each-at P (x ∷ xs) zero d h l = h.0
each-at P (x ∷ xs) (suc i) d h l = each-at P xs i d h.1 (omega (arith, l))

map-at : {A : Type 0} (f : A → ℕ) (xs : List A) (i n : ℕ) (d : A) → i < length xs → slice_index_or (map f xs) i n ≡ f (slice_index_or xs i d)
map-at f [] i n d l = absurd (omega (arith, l))
map-at f (x ∷ xs) zero n d l = refl
map-at f (x ∷ xs) (suc i) n d l = map-at f xs i n d (omega (arith, l))

-- of events whose numbers are the first so many of a row the last
record IsLast (events : List Event) (row : List ℕ) (k d : ℕ) (last : Option (ℕ × Event)) : Type 0 where
  pub event : Event
  pub is : last ≡ Some (slice_index_or row k d, event)
  pub stands : slice_get events (slice_index_or row k d) ≡ Some event

last-number : (events : List Event) (es : List (ℕ × Event)) (row : List ℕ) (k d : ℕ) (f : Event) → AllByRecursion (Stands events) es → map first_of es ≡ take (suc k) row → k < length row → IsLast events row k d (last_or None es)
last-number events es row k d f s e l =
    let many : length es ≡ suc k = sym (length-map es first_of) ∙ (ap length e ∙ length-take-le (suc k) row (omega (arith, l))) in
    let within : k < length es = omega (arith, many) in
    let x : ℕ × Event = slice_index_or es k (d, f) in
    let number : x.0 ≡ slice_index_or row k d = sym (map-at first_of es k d (d, f) within) ∙ (ap (λ ns. slice_index_or ns k d) e ∙ get_or-take (suc k) row k d (omega arith)) in
    record {
      event = x.1;
      is = last-at None es k (d, f) many ∙ ap (λ n. Some (n, x.1)) number;
      stands = ap (slice_get events) (sym number) ∙ each-at (Stands events) es k (d, f) s within;
    }

none-some : {A : Type 0} {x : A} → ◌≡◌ {A = Option A} None (Some x) → ⊥
none-some h = cc

abbrev blank : Event
blank = record { time = 0; net = 0; value = X }

stands-within : (events : List Event) (n : ℕ) (e : Event) → slice_get events n ≡ Some e → n < length events
stands-within [] n e h = absurd (none-some h)
stands-within (x ∷ xs) zero e h = omega arith
stands-within (x ∷ xs) (suc n) e h = let l = stands-within xs n e h in omega (arith, l)

-- the events of a net before a time
abbrev found : List Event → ℕ → ℕ → List (ℕ × Event)
found events net time = filter (is_before net time) (enumerate_from 0 events)

numbers-found : (events : List Event) (net time count : ℕ) (row : List ℕ) → row ≡ elements_on net (pins_of events) → take count row ≡ filter (holds_before events time) row → map first_of (found events net time) ≡ take count row
numbers-found events net time count row is counted =
    let numbered = enumerate_from 0 events in
    let own = filter (of_net net) numbered in
    ap (map first_of) (sym (filter-both (in_time time) (of_net net) numbered))
    ∙ (sym (filter-numbers events time own (each-filter (Stands events) (of_net net) numbered (all-stand events)))
    ∙ (ap (filter (holds_before events time)) (sym (is ∙ row-of net numbered)) ∙ sym counted))

none-last : (es : List (ℕ × Event)) → map first_of es ≡ [] → last_or None es ≡ None
none-last [] e = refl
none-last (x ∷ xs) e = absurd (omega (arith, ap length e))

none-before : (events : List Event) (net time count : ℕ) (row : List ℕ) → row ≡ elements_on net (pins_of events) → take count row ≡ filter (holds_before events time) row → count ≡ 0 → last_or None (found events net time) ≡ None
none-before events net time count row is counted zeroth = none-last (found events net time) (numbers-found events net time count row is counted ∙ ap (λ n. take n row) zeroth)

last-found : (events : List Event) (net time count k d : ℕ) (row : List ℕ) → row ≡ elements_on net (pins_of events) → take count row ≡ filter (holds_before events time) row → count ≤ length row → count ≡ suc k
    → IsLast events row k d (last_or None (found events net time))
last-found events net time count k d row is counted l e =
    last-number events (found events net time) row k d blank (each-filter (Stands events) (is_before net time) (enumerate_from 0 events) (all-stand events))
    (numbers-found events net time count row is counted ∙ ap (λ n. take n row) e) (omega (arith, l, e))

last-there-in : (events : List Event) (net time count d : ℕ) (row : List ℕ) → row ≡ elements_on net (pins_of events) → take count row ≡ filter (holds_before events time) row → count ≤ length row → (count ≡ 0 → ⊥)
    → slice_index_or row (count - 1) d < length events
last-there-in events net time zero d row is counted l some = absurd (some refl)
last-there-in events net time (suc k) d row is counted l some =
    let one : suc k - 1 ≡ k = omega arith in
    let found = last-found events net time (suc k) k d row is counted l refl in
    subst (λ n. slice_index_or row n d < length events) (sym one) (stands-within events (slice_index_or row k d) found.event found.stands)

last-is-in : (events : List Event) (net time count d : ℕ) (row : List ℕ) (f : Event) → row ≡ elements_on net (pins_of events) → take count row ≡ filter (holds_before events time) row → count ≤ length row → (count ≡ 0 → ⊥)
    → Some (slice_index_or row (count - 1) d, slice_index_or events (slice_index_or row (count - 1) d) f) ≡ last_or None (found events net time)
last-is-in events net time zero d row f is counted l some = absurd (some refl)
last-is-in events net time (suc k) d row f is counted l some =
    let one : suc k - 1 ≡ k = omega arith in
    let found = last-found events net time (suc k) k d row is counted l refl in
    ap (λ n. Some (slice_index_or row n d, slice_index_or events (slice_index_or row n d) f)) one
    ∙ (ap (λ (x : Event). Some (slice_index_or row k d, x)) (get_or_from_slice_get events (slice_index_or row k d) found.event f found.stands) ∙ sym found.is)

none-pass : (p : ℕ → Bool) (ns : List ℕ) → ((k d : ℕ) → k < length ns → p (slice_index_or ns k d) ≡ false) → filter p ns ≡ []
none-pass p [] h = refl
none-pass p (n ∷ ns) h = ap (λ b. cond b (n ∷ filter p ns) (filter p ns)) (h 0 0 (omega arith)) ∙ none-pass p ns (λ k d l. h (suc k) d (omega (arith, l)))

-- from the point where the test ends
pub up-to-point : (p : ℕ → Bool) (row : List ℕ) (count : ℕ) → IsPartitionPoint (λ n. p n ≡ true) (λ n. p n ≡ false) row count → count ≤ length row → take count row ≡ filter p row
up-to-point p row zero h l = sym (none-pass p row (λ k d m. h.1 k d (omega arith) m))
up-to-point p [] (suc count) h l = absurd (omega (arith, l))
up-to-point p (n ∷ ns) (suc count) h l =
    ap (λ ms. n ∷ ms) (up-to-point p ns count ((λ k d a b. h.0 (suc k) d (omega arith) (omega (arith, b))), (λ k d a b. h.1 (suc k) d (omega (arith, a)) (omega (arith, b)))) (omega (arith, l)))
    ∙ sym (ap (λ b. cond b (n ∷ filter p ns) (filter p ns)) (h.0 0 0 (omega arith) (omega arith)))

-- a net's events in a trace
module _ (w : Waveform) (first : List Value) (events : List Event) (index : List (List ℕ)) (net : ℕ) (row : List ℕ) (trace : IsTrace first events index) (view : record { first = first; events = events } ≡ w)
    (within : net < length w.first) (is : row ≡ readers_at index net) where
  own : row ≡ elements_on net (pins_of events)
  own =
      let same : length first ≡ length w.first = ap (λ (v : Waveform). length v.first) view in
      is ∙ trace.rows.each net (omega (arith, within, same, trace.row_of_each))

  pub row-parted : (time : ℕ) → IsPartitionedBy (holds_before events time) row
  row-parted time =
      subst (IsPartitionedBy (holds_before events time)) (sym (own ∙ row-of net (enumerate_from 0 events)))
      (parted events time (filter (of_net net) (enumerate_from 0 events)) (each-filter (Stands events) (of_net net) (enumerate_from 0 events) (all-stand events))
      (rise-filter (of_net net) (enumerate_from 0 events) (rise-from events 0 trace.rise)))

  pub none-found : (time count : ℕ) → take count row ≡ filter (holds_before events time) row → count ≡ 0 → None ≡ last_before w net time
  none-found time count counted zeroth =
      sym (sym (ap (λ (v : Waveform). last_before v net time) view) ∙ none-before events net time count row own counted zeroth)

  -- the number before the count stands in the row, and its event is there
  pub last-there : (time count d : ℕ) → take count row ≡ filter (holds_before events time) row → count ≤ length row → (count ≡ 0 → ⊥) → slice_index_or row (count - 1) d < length events
  last-there time count d counted l some = last-there-in events net time count d row own counted l some

  pub last-is : (time count d : ℕ) (f : Event) → take count row ≡ filter (holds_before events time) row → count ≤ length row → (count ≡ 0 → ⊥)
      → Some (slice_index_or row (count - 1) d, slice_index_or events (slice_index_or row (count - 1) d) f) ≡ last_before w net time
  last-is time count d f counted l some = last-is-in events net time count d row f own counted l some ∙ ap (λ (v : Waveform). last_before v net time) view

-- one pin more
pub pins-more : (events : List Event) (i : ℕ) (d : Event) (pins new : List Pin) → i < length events → pins ≡ map pin_of (take i (enumerate_from 0 events)) → new ≡ pins ++ pin_of (i, slice_index_or events i d) ∷ []
    → new ≡ map pin_of (take (i + 1) (enumerate_from 0 events))
pins-more events i d pins new l e n =
    n ∙ (ap (λ ps. ps ++ pin_of (i, slice_index_or events i d) ∷ []) e
    ∙ (sym (map-append pin_of (take i (enumerate_from 0 events)) ((i, slice_index_or events i d) ∷ [])) ∙ ap (map pin_of) (sym (numbered-more events i (slice_index_or events i d) d l refl))))

pub pins-all : (events : List Event) (i : ℕ) (pins : List Pin) → length events ≤ i → pins ≡ map pin_of (take i (enumerate_from 0 events)) → pins ≡ pins_of events
pins-all events i pins l e = e ∙ ap (map pin_of) (numbered-all events i l)

pub pins-within : (events : List Event) (n : ℕ) (pins : List Pin) → pins ≡ pins_of events → All (λ e. e.net < n) events → All (λ p. p.net < n) pins
pins-within events n pins is h =
    subst (All (λ (p : Pin). p.net < n)) (sym is) (All-map (λ (p : Pin). p.net < n) pin_of (enumerate_from 0 events)
    (λ k d l.
    let there : k < length events = subst (λ m. k < m) (length-enumerate_from 0 events) l in
    subst (λ (e : ℕ × Event). e.1.net < n) (sym (get_or-enumerate_from 0 events k d there)) (h k d.1 there)))
