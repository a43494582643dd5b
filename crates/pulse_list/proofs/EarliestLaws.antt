-- The transition at the end of the list of all is the earliest.
use Rattle.std.proofs.Common.{◌≡◌, ℕ, suc, ◌+◌, ◌-◌, ◌<◌, ◌≤◌, ◌==◌, true, false, List, [], ◌∷◌, ◌++◌, reverse, refl, sym, ap, ◌∙◌, subst, arith, get_or, take, length, Some, None}
use Rattle.std.proofs.Common.{set, inl, inr, if◌then◌else◌}
use Rattle.std.proofs.lemmas.Bool.{cases_eq, cases_lt}
use Rattle.std.proofs.lemmas.Bool.Decides.{nat_tests}
use Rattle.std.proofs.lemmas.List.{append-nil, reverse-append, get_or_append_left, get_or_at, take_at, length_push}
use Rattle.sg_logic.specs.declared.values.Value.{Value}
use Rattle.sg_model.specs.Pending.{rest_of}
use Rattle.sg_model.specs.Agenda.{list_at, with_list, Rises, due, NoneBelow, NothingBelow, NothingDue, IsTaken, IsLeastTime, AllEmpty, BeginsAt}
use Rattle.sg_model.proofs.RiseLaws.{rises-init}
use Rattle.pulse_list.specs.declared.plain.Pending.{Pending}
use Rattle.pulse_list.specs.Plain.{pair_of, pairs_of, table_of, Falls, IsPlain, IsRewritten}
use Rattle.pulse_list.proofs.PairsLaws.{pairs_of-append, pairs_of-own, pairs_of-other, pairs_of-between}
use Rattle.pulse_list.proofs.TableLaws.{length-table_of, list_at-table_of, in_table, table-rewritten, has_pairs, count_at, plain-rewritten}

pub pairs_of-last : (xs : List Pending) (p : Pending) → pairs_of p.driver (xs ++ p ∷ []) ≡ pairs_of p.driver xs ++ pair_of p ∷ []
pairs_of-last xs p = pairs_of-append p.driver xs (p ∷ []) ∙ ap (λ ys. pairs_of p.driver xs ++ ys) (pairs_of-own p.driver p [] refl)

pub without_earliest : (xs : List Pending) (p : Pending) → IsRewritten (xs ++ p ∷ []) xs p.driver (pairs_of p.driver xs)
without_earliest xs p = record {
  own = refl;
  others = λ o n. sym (pairs_of-between o xs p [] (λ k. n (sym k)) ∙ ap (pairs_of o) (append-nil xs));
}

-- its driver's list begins with it
pub begins_earliest : (n : ℕ) (xs : List Pending) (p : Pending) → p.driver < n → list_at (table_of n (xs ++ p ∷ [])) p.driver ≡ pair_of p ∷ reverse (pairs_of p.driver xs)
begins_earliest n xs p l =
    list_at-table_of n (xs ++ p ∷ []) p.driver l ∙ (ap reverse (pairs_of-last xs p) ∙ reverse-append (pairs_of p.driver xs) (pair_of p ∷ []))

pub is_driver : (xs : List Pending) (p : Pending) (counts : List ℕ) → IsPlain (xs ++ p ∷ []) counts → p.driver < length counts
is_driver xs p counts h =
    has_pairs (xs ++ p ∷ []) counts p.driver h (subst (λ ys. 0 < length ys) (sym (pairs_of-last xs p)) (let k = length_push (pairs_of p.driver xs) (pair_of p) in omega arith))

-- what `pop` leaves
pub popped : (xs later new : List Pending) (p : Pending) (n : ℕ) → xs ≡ later ++ p ∷ [] → n ≡ length xs → new ≡ take (n - 1) xs → new ≡ later
popped xs later new p n e l t =
    let k : length xs ≡ length later + 1 = ap length e ∙ length_push later p in
    let m : n - 1 ≡ length later = omega arith in
    t ∙ (ap (λ i. take i xs) m ∙ (ap (take (length later)) e ∙ take_at later (p ∷ []) (length later) refl))

pub rises_without : (xs : List Pending) (p : Pending) (counts : List ℕ) → IsPlain (xs ++ p ∷ []) counts → Rises (pairs_of p.driver xs)
rises_without xs p counts h = rises-init (pairs_of p.driver xs) (pair_of p) (subst Rises (pairs_of-last xs p) (h.rises p.driver))

pub falls_without : (xs : List Pending) (p : Pending) → Falls (xs ++ p ∷ []) → Falls xs
falls_without xs p f i j d l m =
    let k = length_push xs p in
    let a : get_or (xs ++ p ∷ []) i d ≡ get_or xs i d = get_or_append_left xs (p ∷ []) d i (omega arith) in
    let b : get_or (xs ++ p ∷ []) j d ≡ get_or xs j d = get_or_append_left xs (p ∷ []) d j m in
    subst (λ (q : Pending). q.time ≤ (get_or xs i d).time) b (subst (λ (q : Pending). (get_or (xs ++ p ∷ []) j d).time ≤ q.time) a (f i j d l (omega arith)))

-- none is below it
from_last : (xs : List Pending) (p : Pending) → Falls (xs ++ p ∷ []) → (k : ℕ) (d : Pending) → k < length (xs ++ p ∷ []) → p.time ≤ (get_or (xs ++ p ∷ []) k d).time
from_last xs p f k d l =
    let n = length_push xs p in
    let at : get_or (xs ++ p ∷ []) (length xs) d ≡ p = get_or_at xs p [] d (length xs) refl in
    elim (cases_lt k (length xs)) [
      | inl m ↦ subst (λ (q : Pending). q.time ≤ (get_or (xs ++ p ∷ []) k d).time) at (f k (length xs) d m (omega arith))
      | inr m ↦ (let same : length xs ≡ k = omega arith in subst (λ i. p.time ≤ (get_or (xs ++ p ∷ []) i d).time) same (subst (λ (q : Pending). p.time ≤ q.time) (sym at) (omega arith)))
    ]

none_below_pairs : (t d : ℕ) (xs : List Pending) → ((k : ℕ) (e : Pending) → k < length xs → t ≤ (get_or xs k e).time) → NoneBelow t (pairs_of d xs)
none_below_pairs t d [] h = tt
none_below_pairs t d (x ∷ xs) h =
    let rest : NoneBelow t (pairs_of d xs) = none_below_pairs t d xs (λ k e l. h (suc k) e (omega arith)) in
    elim (cases_eq x.driver d) [
      | inl same ↦ subst (NoneBelow t) (sym (pairs_of-own d x xs same)) (h 0 x (omega arith), rest)
      | inr other ↦ subst (NoneBelow t) (sym (pairs_of-other d x xs other)) rest
    ]

none_below-append : (t : ℕ) (xs ys : List (ℕ × Value)) → NoneBelow t xs → NoneBelow t ys → NoneBelow t (xs ++ ys)
none_below-append t [] ys h k = k
none_below-append t (x ∷ xs) ys h k = (h.0, none_below-append t xs ys h.1 k)

pub none_below-reverse : (t : ℕ) (xs : List (ℕ × Value)) → NoneBelow t xs → NoneBelow t (reverse xs)
none_below-reverse t [] h = tt
none_below-reverse t (x ∷ xs) h = subst (NoneBelow t) (sym (reverse-append (x ∷ []) xs)) (none_below-append t (reverse xs) (x ∷ []) (none_below-reverse t xs h.1) (h.0, tt))

pub none_below_earliest : (n : ℕ) (xs : List Pending) (p : Pending) (d : ℕ) → Falls (xs ++ p ∷ []) → d < n → NoneBelow p.time (list_at (table_of n (xs ++ p ∷ [])) d)
none_below_earliest n xs p d f l =
    subst (NoneBelow p.time) (sym (list_at-table_of n (xs ++ p ∷ []) d l)) (none_below-reverse p.time (pairs_of d (xs ++ p ∷ [])) (none_below_pairs p.time d (xs ++ p ∷ []) (from_last xs p f)))

-- where it isn't due, nothing is
none_due : (now t : ℕ) (ys : List (ℕ × Value)) → now < t → NoneBelow t ys → due now ys ≡ None
none_due now t [] l h = refl
none_due now t (y ∷ ys) l h = let m = h.0 in let k : (y.0 == now) ≡ false = grind (arith, nat_tests) in rw k refl

pub nothing_due : (n now : ℕ) (xs : List Pending) (p : Pending) → p.driver < n → Falls (xs ++ p ∷ []) → NothingBelow now (table_of n (xs ++ p ∷ [])) → (p.time ≡ now → ⊥) → NothingDue now (table_of n (xs ++ p ∷ []))
nothing_due n now xs p l f below other =
    let at : NoneBelow now (list_at (table_of n (xs ++ p ∷ [])) p.driver) = below p.driver (subst (λ k. p.driver < k) (sym (length-table_of n (xs ++ p ∷ []))) l) in
    let first : now ≤ p.time = (subst (NoneBelow now) (begins_earliest n xs p l) at).0 in
    record { none = λ d m. none_due now p.time (list_at (table_of n (xs ++ p ∷ [])) d) (omega arith) (none_below_earliest n xs p d f (in_table n (xs ++ p ∷ []) d m)) }

pub taken : (n now : ℕ) (xs : List Pending) (p : Pending) → p.driver < n → p.time ≡ now → IsTaken now (table_of n (xs ++ p ∷ [])) (table_of n xs) (p.driver, p.value)
taken n now xs p l e =
    let list = begins_earliest n xs p l in
    let same : (p.time == now) ≡ true = grind (arith, nat_tests) in
    record {
      driver = subst (λ k. p.driver < k) (sym (length-table_of n (xs ++ p ∷ []))) l;
      due = ap (due now) list ∙ ap (λ b. if b then Some p.value else None) same;
      lists = table-rewritten n (xs ++ p ∷ []) xs p.driver (pairs_of p.driver xs) l (without_earliest xs p)
          ∙ ap (λ ys. with_list (table_of n (xs ++ p ∷ [])) p.driver (rest_of ys)) (sym list);
    }

least_first : (t first : ℕ) (ys : List (ℕ × Value)) → NoneBelow t ys → BeginsAt ys first → t ≤ first
least_first t first [] h b = absurd b
least_first t first (y ∷ ys) h b = let m = h.0 in omega arith

pub least_time : (n : ℕ) (xs : List Pending) (p : Pending) → p.driver < n → Falls (xs ++ p ∷ []) → IsLeastTime (table_of n (xs ++ p ∷ [])) p.time
least_time n xs p l f = record {
  some = (p.driver, subst (λ k. p.driver < k) (sym (length-table_of n (xs ++ p ∷ []))) l, subst (λ ys. BeginsAt ys p.time) (sym (begins_earliest n xs p l)) refl);
  least = λ d first m b. least_first p.time first (list_at (table_of n (xs ++ p ∷ [])) d) (none_below_earliest n xs p d f (in_table n (xs ++ p ∷ []) d m)) b;
}

-- where there is none, all lists are empty
pub all_empty : (n : ℕ) → AllEmpty (table_of n [])
all_empty n = record { each = λ d l. list_at-table_of n [] d (in_table n [] d l) }

pub none_at_all : (n now : ℕ) → NothingDue now (table_of n [])
none_at_all n now = record { none = λ d l. ap (due now) (list_at-table_of n [] d (in_table n [] d l)) }

-- the same of a table that is seen, over a list that ends with the earliest
pub end-driver : (xs later : List Pending) (p : Pending) (counts : List ℕ) → IsPlain xs counts → xs ≡ later ++ p ∷ [] → p.driver < length counts
end-driver xs later p counts h e = is_driver later p counts (subst (λ ys. IsPlain ys counts) e h)

-- its vector's length
pub end-within : (xs later : List Pending) (p : Pending) (counts : List ℕ) (n : ℕ) → IsPlain xs counts → xs ≡ later ++ p ∷ [] → n ≡ length counts → p.driver < n
end-within xs later p counts n h e l = subst (λ k. p.driver < k) (sym l) (end-driver xs later p counts h e)

pub end-nothing_due : (xs later : List Pending) (p : Pending) (counts : List ℕ) (table : List (List (ℕ × Value))) (now : ℕ) → IsPlain xs counts → xs ≡ later ++ p ∷ [] → table_of (length counts) xs ≡ table
    → NothingBelow now table → (p.time ≡ now → ⊥) → NothingDue now table
end-nothing_due xs later p counts table now h e v below other =
    let all : table_of (length counts) (later ++ p ∷ []) ≡ table = ap (table_of (length counts)) (sym e) ∙ v in
    subst (NothingDue now) all (nothing_due (length counts) now later p (end-driver xs later p counts h e) (subst Falls e h.falls) (subst (NothingBelow now) (sym all) below) other)

pub end-least : (xs later : List Pending) (p : Pending) (counts : List ℕ) (table : List (List (ℕ × Value))) → IsPlain xs counts → xs ≡ later ++ p ∷ [] → table_of (length counts) xs ≡ table → IsLeastTime table p.time
end-least xs later p counts table h e v =
    subst (λ t. IsLeastTime t p.time) (ap (table_of (length counts)) (sym e) ∙ v) (least_time (length counts) later p (end-driver xs later p counts h e) (subst Falls e h.falls))

pub end-taken : (xs later new : List Pending) (p : Pending) (counts after : List ℕ) (table : List (List (ℕ × Value))) (now : ℕ) → IsPlain xs counts → xs ≡ later ++ p ∷ [] → table_of (length counts) xs ≡ table
    → new ≡ later → length after ≡ length counts → p.time ≡ now → IsTaken now table (table_of (length after) new) (p.driver, p.value)
end-taken xs later new p counts after table now h e v k l due =
    subst (λ t. IsTaken now t (table_of (length after) new) (p.driver, p.value)) (ap (table_of (length counts)) (sym e) ∙ v)
    (subst (λ t. IsTaken now (table_of (length counts) (later ++ p ∷ [])) t (p.driver, p.value)) (sym (ap (λ n. table_of n new) l ∙ ap (table_of (length counts)) k))
    (taken (length counts) now later p (end-driver xs later p counts h e) due))

pub end-count : (xs later : List Pending) (p : Pending) (counts : List ℕ) (count : ℕ) → IsPlain xs counts → xs ≡ later ++ p ∷ [] → count ≡ get_or counts p.driver count → count ≡ length (pairs_of p.driver later) + 1
end-count xs later p counts count h e at =
    count_at xs counts p.driver count h at (end-driver xs later p counts h e)
    ∙ (ap (λ ys. length (pairs_of p.driver ys)) e ∙ (ap length (pairs_of-last later p) ∙ length_push (pairs_of p.driver later) (pair_of p)))

pub end-plain : (xs later new : List Pending) (p : Pending) (counts after : List ℕ) → IsPlain xs counts → xs ≡ later ++ p ∷ [] → new ≡ later → after ≡ set counts p.driver (length (pairs_of p.driver later)) → IsPlain new after
end-plain xs later new p counts after h e k l =
    let whole : IsPlain (later ++ p ∷ []) counts = subst (λ ys. IsPlain ys counts) e h in
    subst (λ ys. IsPlain ys after) (sym k)
    (plain-rewritten (later ++ p ∷ []) later counts after p.driver (pairs_of p.driver later) whole (is_driver later p counts whole) (without_earliest later p) l (rises_without later p counts whole) (falls_without later p whole.falls))

-- where nothing is pending
pub empty-least : (xs : List Pending) (n : ℕ) (table : List (List (ℕ × Value))) → xs ≡ [] → table_of n xs ≡ table → AllEmpty table
empty-least xs n table e v = subst AllEmpty (ap (table_of n) (sym e) ∙ v) (all_empty n)

pub empty-due : (xs : List Pending) (n now : ℕ) (table : List (List (ℕ × Value))) → xs ≡ [] → table_of n xs ≡ table → NothingDue now table
empty-due xs n now table e v = subst (NothingDue now) (ap (table_of n) (sym e) ∙ v) (none_at_all n now)
