-- The table, and what a plain agenda keeps, after one driver's pairs are rewritten.
use Rattle.std.proofs.Common.{◌≡◌, ℕ, suc, ◌<◌, ◌≤◌, List, [], ◌∷◌, ◌++◌, reverse, refl, sym, ap, ◌∙◌, subst, arith, get_or, set, length, slice_index, replicate}
use Rattle.std.proofs.Common.{inl, inr, zero, ◌-◌}
use Rattle.std.proofs.lemmas.Bool.{cases_eq, cases_lt}
use Rattle.std.proofs.lemmas.List.{reverse-append, reverse-reverse, get_or-set_same, get_or-set_other, length-set, get_or_past, set-get_or, length-replicate, get_or-replicate, get_or_default, length-reverse, nil_from_length}
use Rattle.std.proofs.lemmas.List.FromFn.{length-map-range_with_len, get_or-map-range_with_len, fill_by_all}
use Rattle.sg_logic.specs.declared.values.Value.{Value}
use Rattle.sg_model.specs.Pending.{first_of, rest_of, last_of, without_last}
use Rattle.sg_model.specs.Agenda.{list_at, with_list, Rises}
use Rattle.pulse_list.specs.declared.plain.Pending.{Pending}
use Rattle.pulse_list.specs.Plain.{pairs_of, table_of, Falls, IsPlain, IsRewritten}
use Rattle.pulse_list.proofs.PairsLaws.{pairs_of-own, pairs_of-other}

pub length-table_of : (n : ℕ) (xs : List Pending) → length (table_of n xs) ≡ n
length-table_of n xs = length-map-range_with_len (λ d. reverse (pairs_of d xs)) 0 n

pub in_table : (n : ℕ) (xs : List Pending) (d : ℕ) → d < length (table_of n xs) → d < n
in_table n xs d l = subst (λ k. d < k) (length-table_of n xs) l

pub list_at-table_of : (n : ℕ) (xs : List Pending) (d : ℕ) → d < n → list_at (table_of n xs) d ≡ reverse (pairs_of d xs)
list_at-table_of n xs d l = get_or-map-range_with_len (λ k. reverse (pairs_of k xs)) 0 n d d [] l (omega arith)

-- the latest pair first
pub reverse-list_at : (n : ℕ) (xs : List Pending) (d : ℕ) → d < n → reverse (list_at (table_of n xs) d) ≡ pairs_of d xs
reverse-list_at n xs d l = ap reverse (list_at-table_of n xs d l) ∙ reverse-reverse (pairs_of d xs)

pub table-rewritten : (n : ℕ) (xs new : List Pending) (d : ℕ) (pairs : List (ℕ × Value)) → d < n → IsRewritten xs new d pairs → table_of n new ≡ with_list (table_of n xs) d (reverse pairs)
table-rewritten n xs new d pairs l h =
    sym (fill_by_all (λ k. reverse (pairs_of k new)) (with_list (table_of n xs) d (reverse pairs)) n [] (length-set (table_of n xs) d (reverse pairs) ∙ length-table_of n xs)
    (λ k m. elim (cases_eq k d) [
      | inl same ↦ (let l' : d < length (table_of n xs) = subst (λ i. d < i) (sym (length-table_of n xs)) l in
          subst (λ i. get_or (with_list (table_of n xs) d (reverse pairs)) i [] ≡ reverse (pairs_of i new)) (sym same) (get_or-set_same (table_of n xs) d (reverse pairs) [] l' ∙ ap reverse (sym h.own)))
      | inr other ↦ get_or-set_other (table_of n xs) d k (reverse pairs) [] other ∙ (list_at-table_of n xs k m ∙ ap reverse (sym (h.others k other)))
    ]))

pub table-empty : (n : ℕ) → table_of n [] ≡ replicate n []
table-empty n = sym (fill_by_all (λ k. reverse (pairs_of k [])) (replicate n []) n [] (length-replicate n []) (λ k l. get_or-replicate n k [] [] l))

-- what the calls promise of the table
pub table-appended : (n : ℕ) (xs new : List Pending) (d : ℕ) (pair : ℕ × Value) → d < n → IsRewritten xs new d (pair ∷ pairs_of d xs)
    → table_of n new ≡ with_list (table_of n xs) d (list_at (table_of n xs) d ++ pair ∷ [])
table-appended n xs new d pair l h =
    table-rewritten n xs new d (pair ∷ pairs_of d xs) l h
    ∙ ap (with_list (table_of n xs) d) (reverse-append (pair ∷ []) (pairs_of d xs) ∙ ap (λ ys. ys ++ pair ∷ []) (sym (list_at-table_of n xs d l)))

pub table-dropped : (n : ℕ) (xs new : List Pending) (d : ℕ) → d < n → IsRewritten xs new d (rest_of (pairs_of d xs))
    → table_of n new ≡ with_list (table_of n xs) d (without_last (list_at (table_of n xs) d))
table-dropped n xs new d l h =
    table-rewritten n xs new d (rest_of (pairs_of d xs)) l h
    ∙ ap (λ ys. with_list (table_of n xs) d (reverse (rest_of ys))) (sym (reverse-list_at n xs d l))

-- a driver without pairs
pub table-clear : (n : ℕ) (xs : List Pending) (d : ℕ) → d < n → length (pairs_of d xs) ≡ 0 → table_of n xs ≡ with_list (table_of n xs) d []
table-clear n xs d l e =
    sym (set-get_or (table_of n xs) d []) ∙ ap (with_list (table_of n xs) d) (list_at-table_of n xs d l ∙ ap reverse (nil_from_length (pairs_of d xs) e))

pub last_of-table : (n : ℕ) (xs : List Pending) (d : ℕ) → d < n → last_of (list_at (table_of n xs) d) ≡ first_of (pairs_of d xs)
last_of-table n xs d l = ap first_of (reverse-list_at n xs d l)

-- what is kept
pub plain-rewritten : (xs new : List Pending) (counts after : List ℕ) (d : ℕ) (pairs : List (ℕ × Value)) → IsPlain xs counts → d < length counts
    → IsRewritten xs new d pairs → after ≡ set counts d (length pairs) → Rises pairs → Falls new → IsPlain new after
plain-rewritten xs new counts after d pairs h l w e r f = record {
  falls = f;
  rises = λ k. elim (cases_eq k d) [
    | inl same ↦ subst (λ i. Rises (pairs_of i new)) (sym same) (subst Rises (sym w.own) r)
    | inr other ↦ subst Rises (sym (w.others k other)) (h.rises k)
  ];
  counted = λ k. elim (cases_eq k d) [
    | inl same ↦ subst (λ i. slice_index after i ≡ length (pairs_of i new)) (sym same) (ap (λ c. slice_index c d) e ∙ (get_or-set_same counts d (length pairs) 0 l ∙ ap length (sym w.own)))
    | inr other ↦ ap (λ c. slice_index c k) e ∙ (get_or-set_other counts d k (length pairs) 0 other ∙ (h.counted k ∙ ap length (sym (w.others k other))))
  ];
}

pub plain-empty : (n : ℕ) → IsPlain [] (replicate n 0)
plain-empty n = record { falls = λ i j d l m. absurd (omega arith); rises = λ d. tt; counted = λ k. at n k }
  where
    at : (m k : ℕ) → slice_index (replicate m 0) k ≡ 0
    at zero k = refl
    at (suc m) zero = refl
    at (suc m) (suc k) = at m k

-- a driver with pairs is one
pub has_pairs : (xs : List Pending) (counts : List ℕ) (d : ℕ) → IsPlain xs counts → 0 < length (pairs_of d xs) → d < length counts
has_pairs xs counts d h l =
    elim (cases_lt d (length counts)) [
      | inl m ↦ m
      | inr m ↦ (let past : slice_index counts d ≡ 0 = get_or_past counts d 0 m in let count = h.counted d in absurd (omega arith))
    ]

-- the same of a table that is seen
pub in_view : (xs : List Pending) (counts : List ℕ) (table : List (List (ℕ × Value))) (d : ℕ) → table_of (length counts) xs ≡ table → d < length table → d < length counts
in_view xs counts table d v l = in_table (length counts) xs d (subst (λ t. d < length t) (sym v) l)

-- its vector's length
pub in_counts : (xs : List Pending) (counts : List ℕ) (table : List (List (ℕ × Value))) (d n : ℕ) → table_of (length counts) xs ≡ table → n ≡ length counts → d < length table → d < n
in_counts xs counts table d n v e l = subst (λ k. d < k) (sym e) (in_view xs counts table d v l)

pub latest_in_view : (xs : List Pending) (counts : List ℕ) (table : List (List (ℕ × Value))) (d : ℕ) → table_of (length counts) xs ≡ table → d < length table → reverse (list_at table d) ≡ pairs_of d xs
latest_in_view xs counts table d v l =
    ap (λ t. reverse (list_at t d)) (sym v) ∙ reverse-list_at (length counts) xs d (in_view xs counts table d v l)

pub view-appended : (xs new : List Pending) (counts after : List ℕ) (table : List (List (ℕ × Value))) (d : ℕ) (pair : ℕ × Value) → table_of (length counts) xs ≡ table → d < length table → length after ≡ length counts
    → IsRewritten xs new d (pair ∷ pairs_of d xs) → table_of (length after) new ≡ with_list table d (list_at table d ++ pair ∷ [])
view-appended xs new counts after table d pair v l k h =
    ap (λ n. table_of n new) k
    ∙ subst (λ t. table_of (length counts) new ≡ with_list t d (list_at t d ++ pair ∷ [])) v (table-appended (length counts) xs new d pair (in_view xs counts table d v l) h)

pub view-dropped : (xs new : List Pending) (counts after : List ℕ) (table : List (List (ℕ × Value))) (d : ℕ) → table_of (length counts) xs ≡ table → d < length table → length after ≡ length counts
    → IsRewritten xs new d (rest_of (pairs_of d xs)) → table_of (length after) new ≡ with_list table d (without_last (list_at table d))
view-dropped xs new counts after table d v l k h =
    ap (λ n. table_of n new) k
    ∙ subst (λ t. table_of (length counts) new ≡ with_list t d (without_last (list_at t d))) v (table-dropped (length counts) xs new d (in_view xs counts table d v l) h)

pub view-cleared : (xs new : List Pending) (counts after : List ℕ) (table : List (List (ℕ × Value))) (d : ℕ) → table_of (length counts) xs ≡ table → d < length table → length after ≡ length counts
    → IsRewritten xs new d [] → table_of (length after) new ≡ with_list table d []
view-cleared xs new counts after table d v l k h =
    ap (λ n. table_of n new) k
    ∙ subst (λ t. table_of (length counts) new ≡ with_list t d []) v (table-rewritten (length counts) xs new d [] (in_view xs counts table d v l) h)

pub view-clear : (xs : List Pending) (counts : List ℕ) (table : List (List (ℕ × Value))) (d : ℕ) → table_of (length counts) xs ≡ table → d < length table → length (pairs_of d xs) ≡ 0 → table ≡ with_list table d []
view-clear xs counts table d v l e =
    subst (λ t. t ≡ with_list t d []) v (table-clear (length counts) xs d (in_view xs counts table d v l) e)

-- a driver's count
pub length-pairs_of : (d : ℕ) (xs : List Pending) → length (pairs_of d xs) ≤ length xs
length-pairs_of d [] = omega arith
length-pairs_of d (x ∷ xs) =
    let rest = length-pairs_of d xs in
    elim (cases_eq x.driver d) [
      | inl same ↦ subst (λ ys. length ys ≤ length (x ∷ xs)) (sym (pairs_of-own d x xs same)) (omega arith)
      | inr other ↦ subst (λ ys. length ys ≤ length (x ∷ xs)) (sym (pairs_of-other d x xs other)) (omega arith)
    ]

pub count_at : (xs : List Pending) (counts : List ℕ) (d count : ℕ) → IsPlain xs counts → count ≡ get_or counts d count → d < length counts → count ≡ length (pairs_of d xs)
count_at xs counts d count h e l = e ∙ (get_or_default counts d count 0 l ∙ h.counted d)

pub some_in_view : (xs : List Pending) (counts : List ℕ) (table : List (List (ℕ × Value))) (d : ℕ) → table_of (length counts) xs ≡ table → d < length table → 0 < length (list_at table d) → 0 < length (pairs_of d xs)
some_in_view xs counts table d v l some =
    subst (λ n. 0 < n) (sym (ap length (sym (latest_in_view xs counts table d v l)) ∙ length-reverse (list_at table d))) some

pub length-rest_of : (ys : List (ℕ × Value)) → length (rest_of ys) ≡ length ys - 1
length-rest_of [] = refl
length-rest_of (y ∷ ys) = omega arith

-- an agenda of n drivers, with nothing pending
pub view-empty : (n : ℕ) (xs : List Pending) (counts : List ℕ) → xs ≡ [] → counts ≡ replicate n 0 → table_of (length counts) xs ≡ replicate n []
view-empty n xs counts e c =
    ap (table_of (length counts)) e ∙ (ap (λ k. table_of k []) (ap length c ∙ length-replicate n 0) ∙ table-empty n)

pub plain-new : (n : ℕ) (xs : List Pending) (counts : List ℕ) → xs ≡ [] → counts ≡ replicate n 0 → IsPlain xs counts
plain-new n xs counts e c = subst (λ ys. IsPlain ys counts) (sym e) (subst (IsPlain []) (sym c) (plain-empty n))
