-- The row and the variable that a place in the row of bits belongs to.
use Rattle.std.specs.Prelude.{◌≡◌, ℕ, zero, suc, ◌+◌, ◌-◌, ◌<◌, ◌≤◌, List, [], ◌∷◌, ◌++◌, true, false, Some, length, slice_index_or, slice_get, refl}
use Rattle.std.specs.Borrow.{Bor}
use Rattle.std.specs.List.{AllWithin}
use Rattle.std.specs.List.Sorted.{IsNonDecreasingBy, IsPartitionPoint, IsPartitionedBy}
use Rattle.std.proofs.Common.{sym, ◌∙◌, ap, subst, arith, leb}
use Rattle.std.proofs.lemmas.Bool.{leb-true, leb-false}
use Rattle.std.proofs.lemmas.List.FromFn.{get_or-map-range_with_len, length-map-range_with_len}
use Rattle.std.proofs.lemmas.List.Sorted.{IsPartitionedBy-leb}
use Rattle.std.proofs.lemmas.List.Sums.{sum_by-cons}
use Rattle.std.proofs.lemmas.Option.{slice_get-get_or}
use Rattle.sg_circuit.specs.Closed.{width_of}
use Rattle.elab_laws.specs.Handing.{all_bits, variable_bits}
use Rattle.elab_model.specs.Names.{Variable}
use Rattle.elab_variables.specs.declared.tables.Row.{Row}
use Rattle.elab_variables.specs.Rows.{blank, bit_count}
use Rattle.elab_variables.specs.Seen.{variable_at}
use Rattle.elab_variables.specs.Tables.{variable_seen, variables_seen, starts_are, HasPlace, IsTable}
use Rattle.elab_variables.proofs.TableSeen.{length-seen, seen-at, counted}

-- ---- starts rise

starts-above : (rows : List Row) (next j : ℕ) (d : Row) → starts_are next rows → j < length rows → next ≤ (slice_index_or rows j d).start
starts-above [] next j d s lt = absurd (omega (arith, lt))
starts-above (r ∷ rs) next zero d s lt = let e : r.start ≡ next = s.0 in omega (arith, e)
starts-above (r ∷ rs) next (suc j) d s lt = let le = starts-above rs (next + width_of r.range) j d s.1 (omega (arith, lt)) in omega (arith, le)

starts-rise : (rows : List Row) (next : ℕ) → starts_are next rows → IsNonDecreasingBy (λ r. r.start) rows
starts-rise [] next s = λ i j d le lt. absurd (omega (arith, lt))
starts-rise (r ∷ rs) next s = λ i j d le lt. by (starts-rise rs (next + width_of r.range) s.1) i j d le lt
  where
    by : IsNonDecreasingBy (λ r. r.start) rs → (i j : ℕ) (d : Row) → i ≤ j → j < length (r ∷ rs) → (slice_index_or (r ∷ rs) i d).start ≤ (slice_index_or (r ∷ rs) j d).start
    by less zero zero d le lt = omega arith
    by less zero (suc j) d le lt =
        let e : r.start ≡ next = s.0 in
        let above = starts-above rs (next + width_of r.range) j d s.1 (omega (arith, lt)) in
        omega (arith, e, above)
    by less (suc i) zero d le lt = absurd (omega (arith, le))
    by less (suc i) (suc j) d le lt = less i j d (omega (arith, le)) (omega (arith, lt))

pub starts-partition : (rows : List Row) (place : ℕ) → starts_are 0 rows → IsPartitionedBy (λ r. leb r.start place) rows
starts-partition rows place s = IsPartitionedBy-leb (λ r. r.start) rows place (starts-rise rows 0 s)

-- ---- the last that starts before a place

abbrev Parts : ℕ → List Row → ℕ → Type 0
Parts place [] k = k ≡ 0
Parts place (r ∷ rs) zero = place < r.start
Parts place (r ∷ rs) (suc k) = (r.start ≤ place) × Parts place rs k

abbrev Starts : ℕ → Row → Type 0
Starts place r = leb r.start place ≡ true

abbrev StartsLater : ℕ → Row → Type 0
StartsLater place r = leb r.start place ≡ false

parts : (place : ℕ) (rows : List Row) (k : ℕ) → k ≤ length rows → AllWithin (Starts place) rows 0 k → AllWithin (StartsLater place) rows k (length rows) → Parts place rows k
parts place [] k le a b = omega (arith, le)
parts place (r ∷ rs) zero le a b = leb-false r.start place (b 0 blank (omega arith) (omega arith))
parts place (r ∷ rs) (suc k) le a b = (
  leb-true r.start place (a 0 blank (omega arith) (omega arith)),
  parts place rs k (omega (arith, le)) (λ j d low high. a (suc j) d (omega arith) (omega (arith, high))) (λ j d low high. b (suc j) d (omega (arith, low)) (omega (arith, high))),
)

record LastBefore (rows : List Row) (place k : ℕ) : Type 0 where
  index : ℕ
  after : k ≡ suc index
  has : HasPlace rows place index

last-before : (rows : List Row) (next place k : ℕ) → starts_are next rows → next ≤ place → place < next + bit_count rows → Parts place rows k → LastBefore rows place k
last-before [] next place k s le lt p = absurd (omega (arith, le, lt))
last-before (r ∷ rs) next place zero s le lt p = let e : r.start ≡ next = s.0 in absurd (omega (arith, e, le, p))
last-before (r ∷ rs) next place (suc zero) s le lt p = record { index = 0; after = refl; has = record { inside = omega arith; from = p.0; below = ends rs s.1 p.1 lt } }
  where
    e : r.start ≡ next
    e = s.0

    ends : (rs : List Row) → starts_are (next + width_of r.range) rs → Parts place rs zero → place < next + bit_count (r ∷ rs) → place < r.start + width_of r.range
    ends [] t q lt = let c = sum_by-cons (λ r. width_of r.range) r [] in omega (arith, e, c, lt)
    ends (x ∷ xs) t q lt = let f : x.start ≡ next + width_of r.range = t.0 in omega (arith, e, f, q)
last-before (r ∷ rs) next place (suc (suc k)) s le lt p =
    let c = sum_by-cons (λ r. width_of r.range) r rs in
    let l = last-before rs (next + width_of r.range) place (suc k) s.1 (reaches rs s.1 p.1) (omega (arith, c, lt)) p.1 in
    record { index = suc l.index; after = ap suc l.after; has = record { inside = omega (arith, l.has.inside); from = l.has.from; below = l.has.below } }
  where
    reaches : (rs : List Row) → starts_are (next + width_of r.range) rs → Parts place rs (suc k) → next + width_of r.range ≤ place
    reaches [] t q = cc
    reaches (x ∷ xs) t q = let f : x.start ≡ next + width_of r.range = t.0 in omega (arith, f, q.0)

pub place-found : (rows : List Row) (place k : ℕ) → starts_are 0 rows → place < bit_count rows → k ≤ length rows → IsPartitionPoint (Starts place) (StartsLater place) rows k
    → (1 ≤ k) × HasPlace rows place (k - 1)
place-found rows place k s lt le p =
    let l = last-before rows 0 place k s (omega arith) (omega (arith, lt)) (parts place rows k le p.0 p.1) in
    let e : k - 1 ≡ l.index = omega (arith, l.after) in
    (omega (arith, l.after), subst (HasPlace rows place) (sym e) l.has)

-- ---- the bit at a place

get-left : {A : Type 0} (xs ys : List A) (i : ℕ) (x : A) → slice_get xs i ≡ Some x → slice_get (xs ++ ys) i ≡ Some x
get-left [] ys i x e = cc
get-left (y ∷ xs) ys zero x e = e
get-left (y ∷ xs) ys (suc i) x e = get-left xs ys i x e

get-right : {A : Type 0} (xs ys : List A) (i n : ℕ) → n ≡ length xs + i → slice_get (xs ++ ys) n ≡ slice_get ys i
get-right [] ys i n e = let f : n ≡ i = omega (arith, e) in ap (slice_get ys) f
get-right (x ∷ xs) ys i zero e = absurd (omega (arith, e))
get-right (x ∷ xs) ys i (suc n) e = get-right xs ys i n (omega (arith, e))

bit-of : (v : Variable) (i : ℕ) → i < width_of v.range → slice_get (variable_bits v) i ≡ Some (v, i)
bit-of v i lt =
    let long = length-map-range_with_len {X = Variable × ℕ} (λ p. (v, p)) 0 (width_of v.range) in
    let inside : i < length (variable_bits v) = omega (arith, lt, long) in
    slice_get-get_or (variable_bits v) i (v, 0) inside ∙ ap (λ b. Some b) (get_or-map-range_with_len (λ p. (v, p)) 0 (width_of v.range) i i (v, 0) lt (omega arith))

bit-from : (names : List (Bor (List ℕ))) (rows : List Row) (next i place : ℕ) → length names ≡ length rows → starts_are next rows → HasPlace rows place i
    → slice_get (all_bits (variables_seen names rows)) (place - next) ≡ Some (variable_at (variables_seen names rows) i, place - (slice_index_or rows i blank).start)
bit-from names [] next i place l s h = absurd (omega (arith, h.inside))
bit-from [] (r ∷ rs) next i place l s h = cc
bit-from (n ∷ ns) (r ∷ rs) next zero place l s h =
    let e : r.start ≡ next = s.0 in
    let v = variable_seen n.now r in
    let f : place - next ≡ place - r.start = omega (arith, e) in
    get-left (variable_bits v) (all_bits (variables_seen ns rs)) (place - next) (v, place - next) (bit-of v (place - next) (omega (arith, e, h.from, h.below))) ∙ ap (λ k. Some (v, k)) f
bit-from (n ∷ ns) (r ∷ rs) next (suc i) place l s h =
    let v = variable_seen n.now r in
    let above = starts-above rs (next + width_of r.range) i blank s.1 (omega (arith, h.inside)) in
    let wide = length-map-range_with_len {X = Variable × ℕ} (λ p. (v, p)) 0 (width_of v.range) in
    get-right (variable_bits v) (all_bits (variables_seen ns rs)) (place - (next + width_of r.range)) (place - next) (omega (arith, above, wide, h.from))
    ∙ bit-from ns rs (next + width_of r.range) i place (omega (arith, l)) s.1 (record { inside = omega (arith, h.inside); from = h.from; below = h.below })

pub bit-at : (names : List (Bor (List ℕ))) (rows : List Row) (i place : ℕ) → length names ≡ length rows → starts_are 0 rows → HasPlace rows place i
    → slice_get (all_bits (variables_seen names rows)) place ≡ Some (variable_at (variables_seen names rows) i, place - (slice_index_or rows i blank).start)
bit-at names rows i place l s h = let e : place ≡ place - 0 = omega arith in ap (slice_get (all_bits (variables_seen names rows))) e ∙ bit-from names rows 0 i place l s h

-- ---- what a table answers

same-at : (rows : List Row) (i : ℕ) (d e : Row) → i < length rows → slice_index_or rows i d ≡ slice_index_or rows i e
same-at [] i d e lt = absurd (omega (arith, lt))
same-at (r ∷ rs) zero d e lt = refl
same-at (r ∷ rs) (suc i) d e lt = same-at rs i d e (omega (arith, lt))

module _ (t : List Variable) (names : List (Bor (List ℕ))) (rows : List Row) (bits : ℕ) (is : IsTable names rows bits) (view : variables_seen names rows ≡ t) (now : List Row) (same : now ≡ rows)
    (place : ℕ) where
  pub starts-now : starts_are 0 now
  starts-now = subst (starts_are 0) (sym same) is.starts

  pub below-count : place < length (all_bits t) → place < bit_count now
  below-count lt = subst (λ n. place < n) (ap (λ vs. length (all_bits vs)) (sym view) ∙ sym (counted names rows is.same) ∙ ap bit_count (sym same)) lt

  module _ (i : ℕ) (has : HasPlace now place i) (r : Row) (at : r ≡ slice_index_or rows i r) where
    there : HasPlace rows place i
    there = subst (λ xs. HasPlace xs place i) same has

    row-is : r ≡ slice_index_or rows i blank
    row-is = at ∙ same-at rows i r blank there.inside

    pub variable-within : i < length t
    variable-within = subst (λ n. i < n) (length-seen names rows is.same ∙ ap length view) there.inside

    variable-seen : (variable_at t i).range ≡ r.range
    variable-seen =
        ap (λ vs. (variable_at vs i).range) (sym view) ∙ ap (λ v. v.range) (seen-at names rows i (record { ref_ptr = (0, 0); now = [] }) r is.same there.inside) ∙ sym (ap (λ x. x.range) at)

    pub position-within : place - r.start < width_of (variable_at t i).range
    position-within =
        let below : place < r.start + width_of r.range = subst (λ x. place < x.start + width_of x.range) (sym row-is) there.below in
        let from : r.start ≤ place = subst (λ x. x.start ≤ place) (sym row-is) there.from in
        subst (λ o. place - r.start < width_of o) (sym variable-seen) (omega (arith, below, from))

    pub bit-is : slice_get (all_bits t) place ≡ Some (variable_at t i, place - r.start)
    bit-is =
        ap (λ vs. slice_get (all_bits vs) place) (sym view) ∙ bit-at names rows i place is.same is.starts there
        ∙ ap (λ x. Some (variable_at (variables_seen names rows) i, place - x.start)) (sym row-is) ∙ ap (λ vs. Some (variable_at vs i, place - r.start)) view
