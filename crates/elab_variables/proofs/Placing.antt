-- Where the bits of each variable start.
use Rattle.std.specs.Prelude.{◌≡◌, ℕ, zero, suc, ◌+◌, ◌<◌, ◌≤◌, List, [], ◌∷◌, ◌++◌, length, slice_index_or, slice_set, take, drop, sum_by}
use Rattle.std.specs.List.{AllByRecursion}
use Rattle.std.proofs.Common.{sym, ◌∙◌, ap, subst, arith, append_assoc, drop-cons}
use Rattle.std.proofs.lemmas.List.{take_more, take_more_set, drop-set-lt}
use Rattle.std.proofs.lemmas.List.Sums.{sum_by-append}
use Rattle.sg_circuit.specs.Closed.{width_of}
use Rattle.elab_variables.specs.declared.tables.Row.{Row}
use Rattle.elab_variables.specs.Rows.{placed, bit_count}

all-at : {A : Type 0} (P : A → Type 0) (xs : List A) (i : ℕ) (d : A) → i < length xs → AllByRecursion P xs → P (slice_index_or xs i d)
all-at P [] i d lt a = absurd (omega (arith, lt))
all-at P (x ∷ xs) zero d lt a = a.0
all-at P (x ∷ xs) (suc i) d lt a = all-at P xs i d (omega (arith, lt)) a.1

heads : {A : Type 0} (x y : A) (xs ys : List A) → x ∷ xs ≡ y ∷ ys → (x ≡ y) × (xs ≡ ys)
heads x y xs ys e = (cc, cc)

-- what stands at a place of what is left
same-from : {A : Type 0} (xs ys : List A) (i : ℕ) (d : A) → i < length xs → i < length ys → drop i xs ≡ drop i ys
    → (slice_index_or xs i d ≡ slice_index_or ys i d) × (drop (suc i) xs ≡ drop (suc i) ys)
same-from xs ys i d lt le e = heads (slice_index_or xs i d) (slice_index_or ys i d) (drop (suc i) xs) (drop (suc i) ys) (sym (drop-cons xs i d lt) ∙ e ∙ drop-cons ys i d le)

pub width-at : (rows initial : List Row) (i : ℕ) (d : Row) → i < length rows → length rows ≡ length initial → drop i rows ≡ drop i initial → AllByRecursion (λ r. width_of r.range ≤ 65536) initial
    → width_of (slice_index_or rows i d).range ≤ 65536
width-at rows initial i d lt l e a =
    let le : i < length initial = omega (arith, lt, l) in
    subst (λ r. width_of r.range ≤ 65536) (sym (same-from rows initial i d lt le e).0) (all-at (λ r. width_of r.range ≤ 65536) initial i d le a)

abbrev pub starting_at : Row → ℕ → Row
starting_at r next = record { range = r.range; reg = r.reg; port = r.port; start = next }

one-placed : (rows : List Row) (i bits : ℕ) (d : Row) (total : List Row) → i < length rows → take i rows ++ placed bits (drop i rows) ≡ total
    → take (i + 1) (slice_set rows i (starting_at (slice_index_or rows i d) bits)) ++ placed (bits + width_of (slice_index_or rows i d).range)
    (drop (i + 1) (slice_set rows i (starting_at (slice_index_or rows i d) bits))) ≡ total
one-placed rows i bits d total lt h =
    let r = slice_index_or rows i d in
    let next = bits + width_of r.range in
    let more : i + 1 ≡ suc i = omega arith in
    ap (λ xs. xs ++ placed next (drop (i + 1) (slice_set rows i (starting_at r bits)))) (take_more_set rows i (starting_at r bits) lt)
    ∙ ap (λ xs. (take i rows ++ starting_at r bits ∷ []) ++ placed next xs) (drop-set-lt (i + 1) rows i (starting_at r bits) (omega arith))
    ∙ append_assoc (take i rows) (starting_at r bits ∷ []) (placed next (drop (i + 1) rows))
    ∙ ap (λ n. take i rows ++ starting_at r bits ∷ placed next (drop n rows)) more
    ∙ ap (λ xs. take i rows ++ placed bits xs) (sym (drop-cons rows i d lt))
    ∙ h

others-left : (rows initial : List Row) (i : ℕ) (x : Row) → i < length rows → length rows ≡ length initial → drop i rows ≡ drop i initial → drop (i + 1) (slice_set rows i x) ≡ drop (i + 1) initial
others-left rows initial i x lt l e =
    let more : i + 1 ≡ suc i = omega arith in
    drop-set-lt (i + 1) rows i x (omega arith) ∙ ap (λ n. drop n rows) more ∙ (same-from rows initial i x lt (omega (arith, lt, l)) e).1 ∙ ap (λ n. drop n initial) (sym more)

more-counted : (rows initial : List Row) (i bits : ℕ) (d : Row) → i < length rows → length rows ≡ length initial → drop i rows ≡ drop i initial → bits ≡ bit_count (take i initial)
    → bits + width_of (slice_index_or rows i d).range ≡ bit_count (take (i + 1) initial)
more-counted rows initial i bits d lt l e h =
    let le : i < length initial = omega (arith, lt, l) in
    let r = slice_index_or initial i d in
    ap (λ x. bits + width_of x.range) (same-from rows initial i d lt le e).0
    ∙ ap (λ n. n + width_of r.range) h
    ∙ sym (ap bit_count (take_more initial i d le) ∙ sum_by-append (λ r. width_of r.range) (take i initial) (r ∷ []) ∙ ap (λ n. bit_count (take i initial) + n) (one r))
  where
    one : (r : Row) → sum_by (λ r. width_of r.range) (r ∷ []) ≡ width_of r.range
    one r = omega arith

pub next-row : (rows initial : List Row) (i bits next : ℕ) (d : Row) → i < length rows → length rows ≡ length initial → next ≡ bits + width_of (slice_index_or rows i d).range
    → take i rows ++ placed bits (drop i rows) ≡ placed 0 initial → drop i rows ≡ drop i initial → bits ≡ bit_count (take i initial)
    → (take (i + 1) (slice_set rows i (starting_at (slice_index_or rows i d) bits)) ++ placed next (drop (i + 1) (slice_set rows i (starting_at (slice_index_or rows i d) bits))) ≡ placed 0 initial)
    × (drop (i + 1) (slice_set rows i (starting_at (slice_index_or rows i d) bits)) ≡ drop (i + 1) initial) × (next ≡ bit_count (take (i + 1) initial))
next-row rows initial i bits next d lt l is p e h = (
  ap (λ n. take (i + 1) (slice_set rows i (starting_at (slice_index_or rows i d) bits)) ++ placed n (drop (i + 1) (slice_set rows i (starting_at (slice_index_or rows i d) bits)))) is ∙ one-placed
      rows i bits d (placed 0 initial) lt p,
  others-left rows initial i (starting_at (slice_index_or rows i d) bits) lt l e,
  is ∙ more-counted rows initial i bits d lt l e h,
)
