-- How the list of changed nets follows a net that takes a value.
use Rattle.std.specs.Prelude.{◌≡◌, ◌≢◌, ◌⊎◌, ℕ, zero, suc, ◌+◌, ◌<◌, ◌≤◌, Bool, true, false, not, if◌then◌else◌, List, [], ◌∷◌, ◌++◌, length, map, take, slice_index_or, slice_set, refl}
use Rattle.std.proofs.Common.{sym, ◌∙◌, ap, subst, arith, inl, inr, zero-add}
use Rattle.std.proofs.lemmas.Bool.{cases_eq}
use Rattle.std.proofs.lemmas.List.{length-set, length-append, get_or-set_same, get_or-set_other, get_or_past, set-get_or, get_or_default, take_more, take_all, map-append, ext_get_or}
use Rattle.sg_logic.specs.declared.values.Value.{Value}
use Rattle.sg_logic.specs.declared.values.Value.TheVariants.{X}
use Rattle.sg_logic.specs.Values.{is_same}
use Rattle.sg_model.specs.Values.{value_at}
use Rattle.sg_model.specs.Round.{each_from, changed_by}
use Rattle.sg_stimulus.specs.declared.steps.Set.{Set}
use Rattle.sg_model.proofs.PlacedLaws.{same-true, same-false}
use Rattle.sg_model.proofs.PlacingSteps.{same-differs, same-self}
use Rattle.fan_round.specs.Lists.{occurrences, at_places}
use Rattle.sg_stimulus.specs.Seen.{set_seen}
use Rattle.fan_round.specs.Nets.{differs, count_same, AreChanged}
use Rattle.fan_round.proofs.ListLaws.{without, occurs_here, occurs_later, occurrences-append, occurs_removed, occurs_kept, length-without, listed_at, at_places-more, at_places-each, each_from-at, length-each_from}

count_same-set : (before values : List Value) (net : ℕ) (v : Value) → length values ≡ length before → net < length values
    → count_same before (slice_set values net v) + (if is_same (value_at before net) (value_at values net) then 1 else 0) ≡ count_same before values + (if is_same (value_at before net) v then 1 else 0)
count_same-set before [] net v e l = absurd (omega arith)
count_same-set [] (w ∷ ws) net v e l = absurd (omega arith)
count_same-set (b ∷ bs) (w ∷ ws) zero v e l =
    let swap : (x y c : ℕ) → x + c + y ≡ y + c + x = (λ x y c. omega arith) in
    swap (if is_same b v then 1 else 0) (if is_same b w then 1 else 0) (count_same bs ws)
count_same-set (b ∷ bs) (w ∷ ws) (suc n) v e l =
    let more : (a c d x y : ℕ) → c + x ≡ d + y → a + c + x ≡ a + d + y = (λ a c d x y h. omega arith) in
    more (if is_same b w then 1 else 0) (count_same bs (slice_set ws n v)) (count_same bs ws) (if is_same (value_at bs n) (value_at ws n) then 1 else 0) (if is_same (value_at bs n) v then 1 else 0)
    (count_same-set bs ws n v (omega arith) (omega arith))

differs_here : (before values : List Value) (net k : ℕ) (v : Value) → net < length values → net ≡ k → differs before (slice_set values net v) k ≡ not (is_same (value_at before net) v)
differs_here before values net k v l e =
    ap (λ n. differs before (slice_set values net v) n) (sym e) ∙ ap (λ w. not (is_same (value_at before net) w)) (get_or-set_same values net v X l)

differs_there : (before values : List Value) (net k : ℕ) (v : Value) → net ≢ k → differs before (slice_set values net v) k ≡ differs before values k
differs_there before values net k v n =
    let apart : k ≢ net = (λ q. n (sym q)) in
    ap (λ w. not (is_same (value_at before k) w)) (get_or-set_other values net k v X apart)

alone : (net k : ℕ) → net ≡ k → occurrences k (net ∷ []) ≡ 1
alone net k e = occurs_here net k [] e ∙ refl

not_alone : (net k : ℕ) → net ≢ k → occurrences k (net ∷ []) ≡ 0
not_alone net k e = occurs_later net k [] e

-- a net that was as before takes another value
pub changed-more : (before values : List Value) (nets : List ℕ) (net : ℕ) (v : Value) → AreChanged before values nets → net < length values
    → value_at values net ≡ value_at before net → value_at before net ≢ v
    → AreChanged before (slice_set values net v) (nets ++ net ∷ []) × (length nets < length before)
changed-more before values nets net v are l was now =
    let was' : is_same (value_at before net) (value_at values net) ≡ true = same-self (value_at before net) (value_at values net) (sym was) in
    let now' : is_same (value_at before net) v ≡ false = same-differs (value_at before net) v now in
    let counted : count_same before (slice_set values net v) + 1 ≡ count_same before values + 0 =
    ap (λ b. count_same before (slice_set values net v) + (if b then 1 else 0)) (sym was') ∙ (count_same-set before values net v are.as_many l ∙ ap (λ b. count_same before values + (if b then 1 else 0)) now') in
    let count = are.count in (
      record {
        as_many = length-set values net v ∙ are.as_many;
        each = record {
          each = λ k. occurrences-append k nets (net ∷ []) ∙ elim (cases_eq net k) [
            | inl same ↦ (let old : occurrences k nets ≡ 0 = are.each.each k ∙ ap (λ n. if not (is_same (value_at before n) (value_at values n)) then 1 else 0) (sym same) ∙ ap (λ b. if not b then 1 else 0) was' in
                let new : differs before (slice_set values net v) k ≡ true = differs_here before values net k v l same ∙ ap not now' in
                ap (λ n. n + occurrences k (net ∷ [])) old ∙ (ap (λ n. 0 + n) (alone net k same) ∙ ap (λ b. if b then 1 else 0) (sym new)))
            | inr other ↦ ap (λ n. occurrences k nets + n) (not_alone net k other) ∙ ((let f : occurrences k nets + 0 ≡ occurrences k nets = omega arith in f) ∙ (are.each.each k ∙ ap (λ b. if b then 1 else 0) (sym (differs_there before values net k v other))))
          ];
        };
        count = let many : length (nets ++ net ∷ []) ≡ length nets + 1 = length-append nets (net ∷ []) in omega arith;
      },
      omega arith,
    )

-- a net that had changed takes another value than before
pub changed-again : (before values : List Value) (nets : List ℕ) (net : ℕ) (v : Value) → AreChanged before values nets → net < length values
    → value_at values net ≢ value_at before net → value_at before net ≢ v
    → AreChanged before (slice_set values net v) nets
changed-again before values nets net v are l was now =
    let was' : is_same (value_at before net) (value_at values net) ≡ false = same-differs (value_at before net) (value_at values net) (λ e. was (sym e)) in
    let now' : is_same (value_at before net) v ≡ false = same-differs (value_at before net) v now in
    let counted : count_same before (slice_set values net v) + 0 ≡ count_same before values + 0 =
    ap (λ b. count_same before (slice_set values net v) + (if b then 1 else 0)) (sym was') ∙ (count_same-set before values net v are.as_many l ∙ ap (λ b. count_same before values + (if b then 1 else 0)) now') in
    let count = are.count in
    record {
      as_many = length-set values net v ∙ are.as_many;
      each = record {
        each = λ k. elim (cases_eq net k) [
          | inl same ↦ (let old : occurrences k nets ≡ 1 = are.each.each k ∙ ap (λ n. if not (is_same (value_at before n) (value_at values n)) then 1 else 0) (sym same) ∙ ap (λ b. if not b then 1 else 0) was' in
              let new : differs before (slice_set values net v) k ≡ true = differs_here before values net k v l same ∙ ap not now' in
              old ∙ ap (λ b. if b then 1 else 0) (sym new))
          | inr other ↦ are.each.each k ∙ ap (λ b. if b then 1 else 0) (sym (differs_there before values net k v other))
        ];
      };
      count = omega arith;
    }

-- a net that had changed is as before again
pub changed-back : (before values : List Value) (nets : List ℕ) (net : ℕ) (v : Value) → AreChanged before values nets → net < length values
    → value_at values net ≢ value_at before net → value_at before net ≡ v
    → AreChanged before (slice_set values net v) (without net nets)
changed-back before values nets net v are l was now =
    let was' : is_same (value_at before net) (value_at values net) ≡ false = same-differs (value_at before net) (value_at values net) (λ e. was (sym e)) in
    let now' : is_same (value_at before net) v ≡ true = same-self (value_at before net) v now in
    let counted : count_same before (slice_set values net v) + 0 ≡ count_same before values + 1 =
    ap (λ b. count_same before (slice_set values net v) + (if b then 1 else 0)) (sym was') ∙ (count_same-set before values net v are.as_many l ∙ ap (λ b. count_same before values + (if b then 1 else 0)) now') in
    let count = are.count in
    let here : occurrences net nets ≡ 1 = are.each.each net ∙ ap (λ b. if not b then 1 else 0) was' in
    record {
      as_many = length-set values net v ∙ are.as_many;
      each = record {
        each = λ k. elim (cases_eq net k) [
          | inl same ↦ (let gone : occurrences k (without net nets) ≡ 0 = ap (λ n. occurrences n (without net nets)) (sym same) ∙ occurs_removed net nets in
              let new : differs before (slice_set values net v) k ≡ false = differs_here before values net k v l same ∙ ap not now' in
              gone ∙ ap (λ b. if b then 1 else 0) (sym new))
          | inr other ↦ occurs_kept k net nets other ∙ (are.each.each k ∙ ap (λ b. if b then 1 else 0) (sym (differs_there before values net k v other)))
        ];
      };
      count = let many : length (without net nets) + occurrences net nets ≡ length nets = length-without net nets in omega arith;
    }

-- nothing changed yet
pub unchanged : (values : List Value) → AreChanged values values []
unchanged values = record {
  as_many = refl;
  each = record { each = λ k. ap (λ b. if not b then 1 else 0) (sym (same-self (value_at values k) (value_at values k) refl)) };
  count = zero-add (count_same values values) ∙ all values;
}
  where
    all : (vs : List Value) → count_same vs vs ≡ length vs
    all [] = refl
    all (v ∷ vs) = ap (λ b. (if b then 1 else 0) + count_same vs vs) (same-self v v refl) ∙ (let e = all vs in let f : 1 + count_same vs vs ≡ suc (length vs) = omega arith in f)

-- a changed net is one of the nets
pub changed-within : (before values : List Value) (nets : List ℕ) (i blank : ℕ) → AreChanged before values nets → i < length nets → slice_index_or nets i blank < length before
changed-within before values nets i blank are l =
    let net : ℕ = slice_index_or nets i blank in
    let true' : differs before values net ≡ true = listed_at (differs before values) nets i blank are.each l in
    elim (within net (length before)) [
      | inl in' ↦ in'
      | inr past ↦ (let b : value_at before net ≡ X = get_or_past before net X past in
          let w : value_at values net ≡ X = get_or_past values net X (let many = are.as_many in omega arith) in
          let e : is_same (value_at before net) (value_at values net) ≡ true = same-self (value_at before net) (value_at values net) (b ∙ sym w) in
          let f : false ≡ true = sym (ap not e) ∙ true' in cc)
    ]
  where
    within : (n m : ℕ) → (n < m) ⊎ (m ≤ n)
    within n m = grind arith

-- the values of the changed nets are those of all nets
pub changed-settled : (before values : List Value) (nets : List ℕ) → AreChanged before values nets → at_places (λ net old. value_at values net) X nets before ≡ values
changed-settled before values nets are =
    at_places-each (differs before values) (λ net old. value_at values net) X nets before are.each (λ j l e. same j e)
    ∙ ext_get_or X (each_from (λ net old. value_at values net) 0 before) values (length-each_from (λ net old. value_at values net) 0 before ∙ sym are.as_many)
    (λ j l. (let m : j < length before = subst (λ n. j < n) (length-each_from (λ (net : ℕ) (old : Value). value_at values net) 0 before) l in
    each_from-at (λ net old. value_at values net) 0 before j X X m ∙ ap (λ n. value_at values n) (zero-add j)))
  where
    same : (j : ℕ) → not (is_same (value_at before j) (value_at values j)) ≡ false → value_at values j ≡ value_at before j
    same j e = sym (same-true (value_at before j) (value_at values j) (was (is_same (value_at before j) (value_at values j)) e))
      where
        was : (b : Bool) → not b ≡ false → b ≡ true
        was true f = refl
        was false f = cc

-- the same, from the tests as the code makes them
read_before : (before values : List Value) (nets : List ℕ) (net : ℕ) (d : Value) → AreChanged before values nets → net < length values → slice_index_or before net d ≡ value_at before net
read_before before values nets net d are l = get_or_default before net d X (let many = are.as_many in omega arith)

pub step_more : (before values : List Value) (nets : List ℕ) (net : ℕ) (v d : Value) → AreChanged before values nets → net < length values
    → is_same (slice_index_or values net d) (slice_index_or before net d) ≡ true → is_same (slice_index_or before net d) v ≡ false
    → AreChanged before (slice_set values net v) (nets ++ net ∷ []) × (length nets < length before)
step_more before values nets net v d are l was now =
    let b : slice_index_or before net d ≡ value_at before net = read_before before values nets net d are l in
    let w : slice_index_or values net d ≡ value_at values net = get_or_default values net d X l in
    changed-more before values nets net v are l (sym w ∙ (same-true (slice_index_or values net d) (slice_index_or before net d) was ∙ b)) (λ e. same-false (slice_index_or before net d) v now (b ∙ e))

pub step_again : (before values : List Value) (nets : List ℕ) (net : ℕ) (v d : Value) → AreChanged before values nets → net < length values
    → is_same (slice_index_or values net d) (slice_index_or before net d) ≡ false → is_same (slice_index_or before net d) v ≡ false
    → AreChanged before (slice_set values net v) nets
step_again before values nets net v d are l was now =
    let b : slice_index_or before net d ≡ value_at before net = read_before before values nets net d are l in
    let w : slice_index_or values net d ≡ value_at values net = get_or_default values net d X l in
    changed-again before values nets net v are l (λ e. same-false (slice_index_or values net d) (slice_index_or before net d) was (w ∙ (e ∙ sym b))) (λ e. same-false (slice_index_or before net d) v now (b ∙ e))

pub step_back : (before values : List Value) (nets : List ℕ) (net : ℕ) (v d : Value) → AreChanged before values nets → net < length values
    → is_same (slice_index_or values net d) (slice_index_or before net d) ≡ false → is_same (slice_index_or before net d) v ≡ true
    → AreChanged before (slice_set values net v) (without net nets)
step_back before values nets net v d are l was now =
    let b : slice_index_or before net d ≡ value_at before net = read_before before values nets net d are l in
    let w : slice_index_or values net d ≡ value_at values net = get_or_default values net d X l in
    changed-back before values nets net v are l (λ e. same-false (slice_index_or values net d) (slice_index_or before net d) was (w ∙ (e ∙ sym b))) (sym b ∙ same-true (slice_index_or before net d) v now)

-- it takes the value that it had before and still has
pub step_stays : (before values : List Value) (nets : List ℕ) (net : ℕ) (v d : Value) → AreChanged before values nets → net < length values
    → is_same (slice_index_or values net d) (slice_index_or before net d) ≡ true → is_same (slice_index_or before net d) v ≡ true
    → AreChanged before (slice_set values net v) nets
step_stays before values nets net v d are l was now =
    let b : slice_index_or before net d ≡ value_at before net = read_before before values nets net d are l in
    let w : slice_index_or values net d ≡ value_at values net = get_or_default values net d X l in
    let old : v ≡ value_at values net = sym (same-true (slice_index_or before net d) v now) ∙ (sym (same-true (slice_index_or values net d) (slice_index_or before net d) was) ∙ w) in
    subst (λ vs. AreChanged before vs nets) (sym (ap (λ x. slice_set values net x) old ∙ set-get_or values net X)) are

pub changed_append : (xs ys : List (ℕ × Value)) (values : List Value) → changed_by (xs ++ ys) values ≡ changed_by ys (changed_by xs values)
changed_append [] ys values = refl
changed_append (x ∷ xs) ys values = changed_append xs ys (slice_set values x.0 x.1)

-- one change more
pub one_more_change : (changes : List Set) (i : ℕ) (d : Set) (values : List Value) → i < length changes
    → changed_by (map (λ c. set_seen c) (take (i + 1) changes)) values ≡ slice_set (changed_by (map (λ c. set_seen c) (take i changes)) values) (slice_index_or changes i d).net (slice_index_or changes i d).value
one_more_change changes i d values h =
    ap (λ xs. changed_by (map (λ c. set_seen c) xs) values) (take_more changes i d h)
    ∙ (ap (λ xs. changed_by xs values) (map-append (λ (c : Set). set_seen c) (take i changes) (slice_index_or changes i d ∷ []))
    ∙ changed_append (map (λ c. set_seen c) (take i changes)) (set_seen (slice_index_or changes i d) ∷ []) values)

-- one net more is settled
pub settle_more : (before values : List Value) (nets : List ℕ) (mid : List Value) (i blank : ℕ) (d : Value) → AreChanged before values nets → i < length nets
    → mid ≡ at_places (λ net old. value_at values net) X (take i nets) before
    → slice_set mid (slice_index_or nets i blank) (slice_index_or values (slice_index_or nets i blank) d) ≡ at_places (λ net old. value_at values net) X (take (i + 1) nets) before
settle_more before values nets mid i blank d are l e =
    let net : ℕ = slice_index_or nets i blank in
    let m : net < length before = changed-within before values nets i blank are l in
    let read : slice_index_or values net d ≡ value_at values net = get_or_default values net d X (let many = are.as_many in omega arith) in
    ap (λ v. slice_set mid net v) read ∙ (ap (λ vs. slice_set vs net (value_at values net)) e ∙ sym (at_places-more (λ net old. value_at values net) X nets i blank before l))

-- all are settled
pub settled : (before values : List Value) (nets : List ℕ) (mid : List Value) (i : ℕ) → AreChanged before values nets → length nets ≤ i
    → mid ≡ at_places (λ net old. value_at values net) X (take i nets) before → mid ≡ values
settled before values nets mid i are l e = e ∙ (ap (λ ns. at_places (λ net old. value_at values net) X ns before) (take_all i nets l) ∙ changed-settled before values nets are)

pub apply_more : (changes : List Set) (i : ℕ) (d : Set) (start mid new : List Value) → i < length changes
    → mid ≡ changed_by (map (λ c. set_seen c) (take i changes)) start
    → new ≡ slice_set mid (slice_index_or changes i d).net (slice_index_or changes i d).value
    → new ≡ changed_by (map (λ c. set_seen c) (take (i + 1) changes)) start
apply_more changes i d start mid new l e f =
    f ∙ (ap (λ vs. slice_set vs (slice_index_or changes i d).net (slice_index_or changes i d).value) e ∙ sym (one_more_change changes i d start l))

pub unchanged_now : (before values : List Value) (nets : List ℕ) → before ≡ values → nets ≡ [] → AreChanged before values nets
unchanged_now before values nets e f = subst (λ ns. AreChanged before values ns) (sym f) (subst (λ vs. AreChanged vs values []) (sym e) (unchanged values))

-- new nets have not changed
pub unchanged_new : (values before seen : List Value) (nets : List ℕ) → values ≡ seen → before ≡ seen → nets ≡ [] → AreChanged before values nets
unchanged_new values before seen nets e f g = unchanged_now before values nets (f ∙ sym e) g
