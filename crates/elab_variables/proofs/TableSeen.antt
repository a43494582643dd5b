-- What the code's lists say of the variables that they are seen as.
use Rattle.std.specs.Prelude.{◌≡◌, ℕ, zero, suc, ◌+◌, ◌<◌, ◌≤◌, List, [], ◌∷◌, Option, Some, length, slice_index_or, slice_get, take, position, refl, bytes_eq}
use Rattle.std.specs.Borrow.{Bor}
use Rattle.std.specs.List.{AllByRecursion, position_from}
use Rattle.std.proofs.Common.{sym, ◌∙◌, ap, subst, arith, cond}
use Rattle.std.proofs.lemmas.List.{length-append}
use Rattle.std.proofs.lemmas.List.FromFn.{length-map-range_with_len}
use Rattle.std.proofs.lemmas.List.Sums.{sum_by-cons}
use Rattle.std.proofs.lemmas.Iterator.Adapters.{position_from-zero}
use Rattle.sg_circuit.specs.Closed.{width_of}
use Rattle.elab_laws.specs.Handing.{all_bits, variable_bits}
use Rattle.elab_model.specs.Names.{Variable}
use Rattle.elab_variables.specs.declared.tables.Row.{Row}
use Rattle.elab_variables.specs.Rows.{blank, placed, bit_count}
use Rattle.elab_variables.specs.Seen.{variable_at, place_named}
use Rattle.elab_variables.specs.Tables.{variable_seen, variables_seen, starts_are, IsTable}

pub length-seen : (names : List (Bor (List ℕ))) (rows : List Row) → length names ≡ length rows → length rows ≡ length (variables_seen names rows)
length-seen [] [] l = refl
length-seen [] (r ∷ rs) l = cc
length-seen (n ∷ ns) [] l = cc
length-seen (n ∷ ns) (r ∷ rs) l = ap suc (length-seen ns rs (omega (arith, l)))

-- a place within has a name and a row
pub seen-at : (names : List (Bor (List ℕ))) (rows : List Row) (i : ℕ) (n : Bor (List ℕ)) (r : Row) → length names ≡ length rows → i < length rows
    → variable_at (variables_seen names rows) i ≡ variable_seen (slice_index_or names i n).now (slice_index_or rows i r)
seen-at names [] i n r l lt = absurd (omega (arith, lt))
seen-at [] (x ∷ rs) i n r l lt = cc
seen-at (m ∷ ns) (x ∷ rs) zero n r l lt = refl
seen-at (m ∷ ns) (x ∷ rs) (suc i) n r l lt = seen-at ns rs i n r (omega (arith, l)) (omega (arith, lt))

-- ---- names

found-from : (n : List ℕ) (names : List (Bor (List ℕ))) (rows : List Row) (i : ℕ) → length names ≡ length rows
    → position_from (λ k. bytes_eq n k.now) i names ≡ position_from (λ v. bytes_eq n v.name) i (variables_seen names rows)
found-from n [] rows i l = refl
found-from n (k ∷ ks) [] i l = cc
found-from n (k ∷ ks) (r ∷ rs) i l = ap (cond (bytes_eq n k.now) (Some i)) (found-from n ks rs (i + 1) (omega (arith, l)))

pub found-seen : (n : List ℕ) (names : List (Bor (List ℕ))) (rows : List Row) → length names ≡ length rows → position (λ k. bytes_eq n k.now) names ≡ place_named (variables_seen names rows) n
found-seen n names rows l = position_from-zero (λ k. bytes_eq n k.now) names ∙ found-from n names rows 0 l

-- ---- bits

variable-wide : (v : Variable) → length (variable_bits v) ≡ width_of v.range
variable-wide v = length-map-range_with_len (λ p. (v, p)) 0 (width_of v.range)

one-wider : (v : Variable) (vs : List Variable) → length (all_bits (v ∷ vs)) ≡ width_of v.range + length (all_bits vs)
one-wider v vs = length-append (variable_bits v) (all_bits vs) ∙ ap (λ n. n + length (all_bits vs)) (variable-wide v)

pub starts-at : (names : List (Bor (List ℕ))) (rows : List Row) (next i : ℕ) (r : Row) → length names ≡ length rows → i < length rows → starts_are next rows
    → (slice_index_or rows i r).start ≡ next + length (all_bits (take i (variables_seen names rows)))
starts-at names [] next i r l lt s = absurd (omega (arith, lt))
starts-at [] (x ∷ rs) next i r l lt s = cc
starts-at (n ∷ ns) (x ∷ rs) next zero r l lt s = let e : next ≡ next + 0 = omega arith in s.0 ∙ e
starts-at (n ∷ ns) (x ∷ rs) next (suc i) r l lt s =
    let more = one-wider (variable_seen n.now x) (take i (variables_seen ns rs)) in
    let less = starts-at ns rs (next + width_of x.range) i r (omega (arith, l)) (omega (arith, lt)) s.1 in
    let e : next + width_of x.range + length (all_bits (take i (variables_seen ns rs))) ≡ next + (width_of x.range + length (all_bits (take i (variables_seen ns rs)))) = omega arith in
    less ∙ e ∙ ap (λ k. next + k) (sym more)

pub counted : (names : List (Bor (List ℕ))) (rows : List Row) → length names ≡ length rows → bit_count rows ≡ length (all_bits (variables_seen names rows))
counted [] [] l = refl
counted [] (r ∷ rs) l = cc
counted (n ∷ ns) [] l = cc
counted (n ∷ ns) (r ∷ rs) l = sum_by-cons (λ r. width_of r.range) r rs ∙ ap (λ k. width_of r.range + k) (counted ns rs (omega (arith, l))) ∙ sym
    (one-wider (variable_seen n.now r) (variables_seen ns rs))

pub wide-at : (rows : List Row) (i : ℕ) (r : Row) → i < length rows → AllByRecursion (λ r. width_of r.range ≤ 65536) rows → width_of (slice_index_or rows i r).range ≤ 65536
wide-at [] i r lt a = absurd (omega (arith, lt))
wide-at (x ∷ rs) zero r lt a = a.0
wide-at (x ∷ rs) (suc i) r lt a = wide-at rs i r (omega (arith, lt)) a.1

-- ---- placed rows

pub length-placed : (next : ℕ) (rs : List Row) → length (placed next rs) ≡ length rs
length-placed next [] = refl
length-placed next (r ∷ rs) = ap suc (length-placed (next + width_of r.range) rs)

pub placed-starts : (next : ℕ) (rs : List Row) → starts_are next (placed next rs)
placed-starts next [] = tt
placed-starts next (r ∷ rs) = (refl, placed-starts (next + width_of r.range) rs)

pub placed-wide : (next : ℕ) (rs : List Row) → AllByRecursion (λ r. width_of r.range ≤ 65536) rs → AllByRecursion (λ r. width_of r.range ≤ 65536) (placed next rs)
placed-wide next [] a = tt
placed-wide next (r ∷ rs) a = (a.0, placed-wide (next + width_of r.range) rs a.1)

pub placed-counted : (next : ℕ) (rs : List Row) → bit_count rs ≡ bit_count (placed next rs)
placed-counted next [] = refl
placed-counted next (r ∷ rs) =
    sum_by-cons (λ r. width_of r.range) r rs ∙ ap (λ k. width_of r.range + k) (placed-counted (next + width_of r.range) rs)
    ∙ sym (sum_by-cons (λ r. width_of r.range) (record { range = r.range; reg = r.reg; port = r.port; start = next }) (placed (next + width_of r.range) rs))

-- ---- what a table answers

module _ (t : List Variable) (names : List (Bor (List ℕ))) (rows : List Row) (bits : ℕ) (is : IsTable names rows bits) (view : variables_seen names rows ≡ t) where
  seen : t ≡ variables_seen names rows
  seen = sym view

  pub as-long : length t ≡ length rows
  as-long = ap length seen ∙ sym (length-seen names rows is.same)

  within : (place : ℕ) → place < length t → place < length rows
  within place lt = subst (λ n. place < n) as-long lt

  pub within-names : (place : ℕ) → place < length t → place < length names
  within-names place lt = subst (λ n. place < n) (sym is.same) (within place lt)

  pub within-rows : (place : ℕ) → place < length t → place < length rows
  within-rows place lt = within place lt

  pub found-place : (n : List ℕ) (place : Option ℕ) → place ≡ position (λ k. bytes_eq n k.now) names → place ≡ place_named t n
  found-place n place e = e ∙ found-seen n names rows is.same ∙ ap (λ vs. place_named vs n) (sym seen)

  variable-is : (place : ℕ) (n : Bor (List ℕ)) (r : Row) → place < length t → variable_at t place ≡ variable_seen (slice_index_or names place n).now (slice_index_or rows place r)
  variable-is place n r lt = ap (λ vs. variable_at vs place) seen ∙ seen-at names rows place n r is.same (within place lt)

  pub name-is : (place : ℕ) (n : Bor (List ℕ)) → place < length t → slice_get names place ≡ Some n → n.now ≡ (variable_at t place).name
  name-is place n lt e = ap (λ k. k.now) (got names place n e) ∙ sym (ap (λ v. v.name) (variable-is place n (slice_index_or rows place blank) lt))
    where
      got : (ks : List (Bor (List ℕ))) (i : ℕ) (k : Bor (List ℕ)) → slice_get ks i ≡ Some k → k ≡ slice_index_or ks i k
      got [] i k e = cc
      got (x ∷ ks) zero k e = cc
      got (x ∷ ks) (suc i) k e = got ks i k e

  module _ (place : ℕ) (r : Row) (lt : place < length t) (at : r ≡ slice_index_or rows place r) (n : Bor (List ℕ)) where
    of-variable : variable_at t place ≡ variable_seen (slice_index_or names place n).now r
    of-variable = variable-is place n r lt ∙ ap (variable_seen (slice_index_or names place n).now) (sym at)

    pub range-is : r.range ≡ (variable_at t place).range
    range-is = sym (ap (λ v. v.range) of-variable)

    pub reg-is : r.reg ≡ (variable_at t place).is_reg
    reg-is = sym (ap (λ v. v.is_reg) of-variable)

    pub port-is : r.port ≡ (variable_at t place).port
    port-is = sym (ap (λ v. v.port) of-variable)

    pub start-is : r.start ≡ length (all_bits (take place t))
    start-is =
        let none : 0 + length (all_bits (take place (variables_seen names rows))) ≡ length (all_bits (take place (variables_seen names rows))) = omega arith in
        ap (λ x. x.start) at ∙ starts-at names rows 0 place r is.same (within place lt) is.starts ∙ none ∙ ap (λ vs. length (all_bits (take place vs))) view

    pub wide-is : width_of r.range ≤ 65536
    wide-is = subst (λ x. width_of x.range ≤ 65536) (sym at) (wide-at rows place r (within place lt) is.wide)
