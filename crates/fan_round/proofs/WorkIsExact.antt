-- The elements that read a changed net are those with an input that differs.
use Rattle.std.specs.Prelude.{◌≡◌, ◌≢◌, ◌⊎◌, ℕ, zero, suc, ◌+◌, ◌<◌, ◌≤◌, ◌==◌, Bool, true, false, if◌then◌else◌, ◌||◌, All, List, [], ◌∷◌, length, map, replicate, slice_index_or, slice_set, refl}
use Rattle.std.proofs.Common.{sym, ◌∙◌, ap, subst, arith, inl, inr, zero-add}
use Rattle.std.proofs.lemmas.Bool.{cases_eq}
use Rattle.std.proofs.lemmas.List.{length-set, length-map, get_or-set_same, get_or-set_other, get_or_past, get_or-replicate, length-replicate, ext_get_or}
use Rattle.sg_logic.specs.declared.values.Value.{Value}
use Rattle.sg_model.specs.Time.{any_differs, count_differing}
use Rattle.fan_round.specs.Lists.{occurrences, IsListOf}
use Rattle.fan_round.specs.Nets.{differs, AreChanged}
use Rattle.sg_circuit.specs.FanOut.{has, readers_from, readers_at, IsFanOut}
use Rattle.fan_round.specs.Work.{IsWorkOf, AreReaders, mark_at, count_marks, AreMarked, with_marks, with_readers, has_changed}
use Rattle.fan_round.proofs.ListLaws.{test_same, test_other, occurs_here, occurs_later, listed_at}
use Rattle.fan_round.specs.Rounds.{IsOnce}
use Rattle.fan_round.proofs.NetLaws.{changed-within}
use Rattle.fan_round.proofs.WorkLaws.{length-with_marks, length-with_readers, count_marks-length}

-- either holds, or one after the other
pub or_left : (a b : Bool) → a ≡ true → (a || b) ≡ true
or_left a b e = ap (λ c. c || b) e

pub or_right : (a b : Bool) → b ≡ true → (a || b) ≡ true
or_right true b e = refl
or_right false b e = e

or_cases : (a b : Bool) → (a || b) ≡ true → (a ≡ true) ⊎ (b ≡ true)
or_cases true b e = inl refl
or_cases false b e = inr e

or_assoc : (a b c : Bool) → ((a || b) || c) ≡ (a || (b || c))
or_assoc true b c = refl
or_assoc false b c = refl

both_ways : (a b : Bool) → (a ≡ true → b ≡ true) → (b ≡ true → a ≡ true) → a ≡ b
both_ways true b f g = sym (f refl)
both_ways false true f g = g refl
both_ways false false f g = refl

-- what occurs stands in the list
pub occurs_has : (k : ℕ) (ks : List ℕ) → 0 < occurrences k ks → has k ks ≡ true
occurs_has k [] l = absurd (omega arith)
occurs_has k (x ∷ xs) l = elim (cases_eq x k) [
  | inl same ↦ or_left (x == k) (has k xs) (test_same x k same)
  | inr other ↦ (let m : 0 < occurrences k xs = subst (λ n. 0 < n) (occurs_later x k xs other) l in or_right (x == k) (has k xs) (occurs_has k xs m))
]

pub has_occurs : (k : ℕ) (ks : List ℕ) → has k ks ≡ true → 0 < occurrences k ks
has_occurs k [] e = cc
has_occurs k (x ∷ xs) e = elim (cases_eq x k) [
  | inl same ↦ omega (arith, occurs_here x k xs same)
  | inr other ↦ subst (λ n. 0 < n) (sym (occurs_later x k xs other)) (has_occurs k xs (sym (ap (λ b. b || has k xs) (test_other x k other)) ∙ e))
]

-- an element's mark after its elements, or the readers of some nets, are marked
mark_set : (marks : List Bool) (x e : ℕ) → e < length marks → mark_at (slice_set marks x true) e ≡ (mark_at marks e || (x == e))
mark_set marks x e l = elim (cases_eq x e) [
  | inl same ↦ ap (λ n. mark_at (slice_set marks x true) n) (sym same) ∙ (get_or-set_same marks x true false (subst (λ n. n < length marks) (sym same) l) ∙ sym (or_right (mark_at marks e) (x == e) (test_same x e same)))
  | inr other ↦ (let apart : e ≢ x = (λ q. other (sym q)) in
      get_or-set_other marks x e true false apart ∙ (or_no (mark_at marks e) ∙ ap (λ b. mark_at marks e || b) (sym (test_other x e other))))
]
  where
    or_no : (b : Bool) → b ≡ (b || false)
    or_no true = refl
    or_no false = refl

pub mark_with : (es : List ℕ) (marks : List Bool) (e : ℕ) → e < length marks → mark_at (with_marks es marks) e ≡ (mark_at marks e || has e es)
mark_with [] marks e l = or_no (mark_at marks e)
  where
    or_no : (b : Bool) → b ≡ (b || false)
    or_no true = refl
    or_no false = refl
mark_with (x ∷ xs) marks e l =
    let m : e < length (slice_set marks x true) = subst (λ n. e < n) (sym (length-set marks x true)) l in
    mark_with xs (slice_set marks x true) e m ∙ (ap (λ b. b || has e xs) (mark_set marks x e l) ∙ or_assoc (mark_at marks e) (x == e) (has e xs))

-- whether an element is a reader of one of the nets
abbrev pub reads_one : ℕ → List (List ℕ) → List ℕ → Bool
reads_one e fan [] = false
reads_one e fan (n ∷ ns) = has e (readers_at fan n) || reads_one e fan ns

mark_readers : (fan : List (List ℕ)) (nets : List ℕ) (marks : List Bool) (e : ℕ) → e < length marks → mark_at (with_readers fan nets marks) e ≡ (mark_at marks e || reads_one e fan nets)
mark_readers fan [] marks e l = or_no (mark_at marks e)
  where
    or_no : (b : Bool) → b ≡ (b || false)
    or_no true = refl
    or_no false = refl
mark_readers fan (n ∷ ns) marks e l =
    let m : e < length (with_marks (readers_at fan n) marks) = subst (λ k. e < k) (sym (length-with_marks (readers_at fan n) marks)) l in
    mark_readers fan ns (with_marks (readers_at fan n) marks) e m
    ∙ (ap (λ b. b || reads_one e fan ns) (mark_with (readers_at fan n) marks e l) ∙ or_assoc (mark_at marks e) (has e (readers_at fan n)) (reads_one e fan ns))

-- readers are numbered from k
no_reader : (net k e : ℕ) (inputs : List (List ℕ)) → e < k → has e (readers_from net k inputs) ≡ false
no_reader net k e [] l = refl
no_reader net k e (xs ∷ rest) l =
    let more : has e (readers_from net (suc k) rest) ≡ false = no_reader net (suc k) e rest (omega arith) in
    let apart : (k == e) ≡ false = test_other k e (omega arith) in
    elim (has net xs) as (λ b. has e (if b then (k ∷ readers_from net (suc k) rest) else readers_from net (suc k) rest) ≡ false) [
      | true ↦ ap (λ c. c || has e (readers_from net (suc k) rest)) apart ∙ more
      | false ↦ more
    ]

-- a net's readers are the elements that have it as an input
pub is_reader : (net k e : ℕ) (inputs : List (List ℕ)) → e < length inputs → has (k + e) (readers_from net k inputs) ≡ has net (slice_index_or inputs e [])
is_reader net k e [] l = absurd (omega arith)
is_reader net k zero (xs ∷ rest) l =
    let none : has (k + 0) (readers_from net (suc k) rest) ≡ false = no_reader net (suc k) (k + 0) rest (omega arith) in
    let same : (k == k + 0) ≡ true = test_same k (k + 0) (omega arith) in
    elim (has net xs) as (λ b. has (k + 0) (if b then (k ∷ readers_from net (suc k) rest) else readers_from net (suc k) rest) ≡ b) [
      | true ↦ or_left (k == k + 0) (has (k + 0) (readers_from net (suc k) rest)) same
      | false ↦ none
    ]
is_reader net k (suc e) (xs ∷ rest) l =
    let more : has (suc k + e) (readers_from net (suc k) rest) ≡ has net (slice_index_or rest e []) = is_reader net (suc k) e rest (omega arith) in
    let moved : suc k + e ≡ k + suc e = omega arith in
    let there : has (k + suc e) (readers_from net (suc k) rest) ≡ has net (slice_index_or rest e []) = ap (λ n. has n (readers_from net (suc k) rest)) (sym moved) ∙ more in
    let apart : (k == k + suc e) ≡ false = test_other k (k + suc e) (omega arith) in
    elim (has net xs) as (λ b. has (k + suc e) (if b then (k ∷ readers_from net (suc k) rest) else readers_from net (suc k) rest) ≡ has net (slice_index_or rest e [])) [
      | true ↦ ap (λ c. c || has (k + suc e) (readers_from net (suc k) rest)) apart ∙ there
      | false ↦ there
    ]

-- one of the inputs is one of the nets
abbrev pub meets : List ℕ → List ℕ → Bool
meets xs [] = false
meets xs (n ∷ ns) = has n xs || meets xs ns

reads_meets : (inputs fan : List (List ℕ)) (nets : List ℕ) (e : ℕ) → IsFanOut inputs fan → e < length inputs → ((k : ℕ) → has k nets ≡ true → k < length fan) → reads_one e fan nets ≡ meets (slice_index_or inputs e []) nets
reads_meets inputs fan [] e is l within = refl
reads_meets inputs fan (n ∷ ns) e is l within =
    let in' : n < length fan = within n (or_left (n == n) (has n ns) (test_same n n refl)) in
    let here : has e (readers_at fan n) ≡ has n (slice_index_or inputs e []) =
    ap (λ es. has e es) (is.each n in') ∙ (ap (λ x. has x (readers_from n 0 inputs)) (sym (zero-add e)) ∙ is_reader n 0 e inputs l) in
    ap (λ b. b || reads_one e fan ns) here ∙ ap (λ b. has n (slice_index_or inputs e []) || b) (reads_meets inputs fan ns e is l (λ k h. within k (or_right (n == k) (has k ns) h)))

-- some input differs exactly where one is among the nets that changed
differs_found : (before values : List Value) (xs : List ℕ) (n : ℕ) → has n xs ≡ true → differs before values n ≡ true → any_differs before values xs ≡ true
differs_found before values [] n h d = cc
differs_found before values (x ∷ xs) n h d = elim (cases_eq x n) [
  | inl same ↦ or_left (differs before values x) (any_differs before values xs) (ap (λ k. differs before values k) same ∙ d)
  | inr other ↦ or_right (differs before values x) (any_differs before values xs) (differs_found before values xs n (sym (ap (λ b. b || has n xs) (test_other x n other)) ∙ h) d)
]

meets_differs : (before values : List Value) (xs nets : List ℕ) → ((k : ℕ) → has k nets ≡ true → differs before values k ≡ true) → meets xs nets ≡ true → any_differs before values xs ≡ true
meets_differs before values xs [] all h = cc
meets_differs before values xs (n ∷ ns) all h = elim (or_cases (has n xs) (meets xs ns) h) [
  | inl here ↦ differs_found before values xs n here (all n (or_left (n == n) (has n ns) (test_same n n refl)))
  | inr later ↦ meets_differs before values xs ns (λ k g. all k (or_right (n == k) (has k ns) g)) later
]

meets_both : (xs nets : List ℕ) (k : ℕ) → has k xs ≡ true → has k nets ≡ true → meets xs nets ≡ true
meets_both xs [] k h g = cc
meets_both xs (n ∷ ns) k h g = elim (cases_eq n k) [
  | inl same ↦ or_left (has n xs) (meets xs ns) (ap (λ x. has x xs) same ∙ h)
  | inr other ↦ or_right (has n xs) (meets xs ns) (meets_both xs ns k h (sym (ap (λ b. b || has k ns) (test_other n k other)) ∙ g))
]

differs_meets : (before values : List Value) (xs ys nets : List ℕ) → ((k : ℕ) → differs before values k ≡ true → has k nets ≡ true) → ((k : ℕ) → has k xs ≡ true → has k ys ≡ true) → any_differs before values xs ≡ true → meets ys nets ≡ true
differs_meets before values [] ys nets all in' h = cc
differs_meets before values (x ∷ xs) ys nets all in' h = elim (or_cases (differs before values x) (any_differs before values xs) h) [
  | inl here ↦ meets_both ys nets x (in' x (or_left (x == x) (has x xs) (test_same x x refl))) (all x here)
  | inr later ↦ differs_meets before values xs ys nets all (λ k g. in' k (or_right (x == k) (has k xs) g)) later
]

pub meets_is_differs : (before values : List Value) (nets xs : List ℕ) → IsListOf (differs before values) nets → meets xs nets ≡ any_differs before values xs
meets_is_differs before values nets xs is =
    both_ways (meets xs nets) (any_differs before values xs) (meets_differs before values xs nets (λ k h. listed k h)) (differs_meets before values xs xs nets (λ k h. occurs_has k nets (once k h)) (λ k h. h))
  where
    yes : (k : ℕ) (b : Bool) → differs before values k ≡ b → 0 < (if b then 1 else 0) → b ≡ true
    yes k true e l = refl
    yes k false e l = absurd (omega arith)

    listed : (k : ℕ) → has k nets ≡ true → differs before values k ≡ true
    listed k h = yes k (differs before values k) refl (subst (λ n. 0 < n) (is.each k) (has_occurs k nets h))

    once : (k : ℕ) → differs before values k ≡ true → 0 < occurrences k nets
    once k h = let e : occurrences k nets ≡ 1 = is.each k ∙ ap (λ b. if b then 1 else 0) h in omega arith

-- the marks are those of the elements with an input that differs
pub marks_are : (before values : List Value) (inputs fan : List (List ℕ)) (nets : List ℕ) → IsFanOut inputs fan → IsListOf (differs before values) nets → ((k : ℕ) → has k nets ≡ true → k < length fan)
    → with_readers fan nets (replicate (length inputs) false) ≡ map (any_differs before values) inputs
marks_are before values inputs fan nets is listed within =
    let start : List Bool = replicate (length inputs) false in
    let long : length start ≡ length inputs = length-replicate (length inputs) false in
    ext_get_or false (with_readers fan nets start) (map (any_differs before values) inputs) (length-with_readers fan nets start ∙ (long ∙ sym (length-map inputs (any_differs before values))))
    (λ e l. (let m : e < length start = subst (λ n. e < n) (length-with_readers fan nets start) l in
    let m' : e < length inputs = subst (λ n. e < n) long m in
    mark_readers fan nets start e m ∙ (ap (λ b. b || reads_one e fan nets) (get_or-replicate (length inputs) e false false m')
    ∙ (reads_meets inputs fan nets e is m' within ∙ (meets_is_differs before values nets (slice_index_or inputs e []) listed ∙ sym (mark_map (any_differs before values) inputs e refl))))))
  where
    mark_map : (f : List ℕ → Bool) (xs : List (List ℕ)) (e : ℕ) → f [] ≡ false → mark_at (map f xs) e ≡ f (slice_index_or xs e [])
    mark_map f [] e h = sym h
    mark_map f (x ∷ xs) zero h = refl
    mark_map f (x ∷ xs) (suc e) h = mark_map f xs e h

-- so the list has them, each once
pub work_is : (before values : List Value) (inputs : List (List ℕ)) (marks : List Bool) (work : List ℕ) → marks ≡ map (any_differs before values) inputs → AreMarked marks work → IsListOf (has_changed before values inputs) work
work_is before values inputs marks work e are = record { each = λ k. are.each.each k ∙ ap (λ b. if b then 1 else 0) (ap (λ ms. mark_at ms k) e ∙ mark_map (any_differs before values) inputs k refl) }
  where
    mark_map : (f : List ℕ → Bool) (xs : List (List ℕ)) (j : ℕ) → f [] ≡ false → mark_at (map f xs) j ≡ f (slice_index_or xs j [])
    mark_map f [] j h = sym h
    mark_map f (x ∷ xs) zero h = refl
    mark_map f (x ∷ xs) (suc j) h = mark_map f xs j h

-- and is as long as the model counts
pub work_count : (before values : List Value) (inputs : List (List ℕ)) (marks : List Bool) (work : List ℕ) → marks ≡ map (any_differs before values) inputs → AreMarked marks work → length work ≡ count_differing before values inputs
work_count before values inputs marks work e are = are.count ∙ (ap count_marks e ∙ counted inputs)
  where
    counted : (xs : List (List ℕ)) → count_marks (map (any_differs before values) xs) ≡ count_differing before values xs
    counted [] = refl
    counted (x ∷ xs) = ap (λ n. (if any_differs before values x then 1 else 0) + n) (counted xs)

-- the readers of the changed nets are the work
pub readers_are_work : (fan : List (List ℕ)) (nets : List ℕ) (elements : ℕ) (start marks : List Bool) (work : List ℕ) → All (λ net. net < length fan) nets → start ≡ replicate elements false
    → marks ≡ with_readers fan nets start → AreMarked marks work → IsWorkOf fan nets elements work
readers_are_work fan nets elements start marks work within clear e are = record {
  each = λ inputs before values is many listed.
      (let start' : start ≡ replicate (length inputs) false = clear ∙ ap (λ n. replicate n false) (sym many) in
      let are' : marks ≡ map (any_differs before values) inputs = e ∙ (ap (λ ms. with_readers fan nets ms) start' ∙ marks_are before values inputs fan nets is listed (within_has nets within)) in
      (work_is before values inputs marks work are' are, work_count before values inputs marks work are' are));
}
  where
    within_has : (ns : List ℕ) → All (λ net. net < length fan) ns → (k : ℕ) → has k ns ≡ true → k < length fan
    within_has [] all k h = cc
    within_has (x ∷ xs) all k h = elim (cases_eq x k) [
      | inl same ↦ subst (λ n. n < length fan) same (all 0 0 (omega arith))
      | inr other ↦ within_has xs (λ i d l. all (suc i) d (omega arith)) k (sym (ap (λ b. b || has k xs) (test_other x k other)) ∙ h)
    ]

pub work_most : (elements : ℕ) (start marks : List Bool) (fan : List (List ℕ)) (nets work : List ℕ) → length start ≡ elements → marks ≡ with_readers fan nets start → AreMarked marks work → length work ≤ elements
work_most elements start marks fan nets work e f are =
    let many : length marks ≡ elements = ap length f ∙ (length-with_readers fan nets start ∙ e) in
    let most = count_marks-length marks in
    let count = are.count in
    omega arith

-- each reader is an element
first_reader : (k n d i : ℕ) (xs : List ℕ) → ((j : ℕ) → j < length xs → slice_index_or xs j d < suc k + n) → i < suc (length xs) → slice_index_or (k ∷ xs) i d < k + suc n
first_reader k n d zero xs more m = omega arith
first_reader k n d (suc i) xs more m = let h : slice_index_or xs i d < suc k + n = more i (omega arith) in omega arith

readers_below : (net k : ℕ) (inputs : List (List ℕ)) (i d : ℕ) → i < length (readers_from net k inputs) → slice_index_or (readers_from net k inputs) i d < k + length inputs
readers_below net k [] i d l = absurd (omega arith)
readers_below net k (xs ∷ rest) i d l =
    let more = λ (j : ℕ) (m : j < length (readers_from net (suc k) rest)). readers_below net (suc k) rest j d m in
    (elim (has net xs) as (λ b. i < length (if b then (k ∷ readers_from net (suc k) rest) else readers_from net (suc k) rest)
    → slice_index_or (if b then (k ∷ readers_from net (suc k) rest) else readers_from net (suc k) rest) i d < k + suc (length rest)) [
      | true ↦ first_reader k (length rest) d i (readers_from net (suc k) rest) more
      | false ↦ λ m. (let h : slice_index_or (readers_from net (suc k) rest) i d < suc k + length rest = more i m in omega arith)
    ]) l

pub are_readers : (inputs fan : List (List ℕ)) (n : ℕ) → IsFanOut inputs fan → length inputs ≡ n → AreReaders fan n
are_readers inputs fan n is e = record { each = λ net. at net (within net (length fan)) }
  where
    within : (a b : ℕ) → (a < b) ⊎ (b ≤ a)
    within a b = grind arith

    at : (net : ℕ) → (net < length fan) ⊎ (length fan ≤ net) → All (λ x. x < n) (readers_at fan net)
    at net (inl l) = subst (λ xs. All (λ x. x < n) xs) (sym (is.each net l)) (λ i d m. subst (λ y. slice_index_or (readers_from net 0 inputs) i d < y) (zero-add (length inputs) ∙ e) (readers_below net 0 inputs i d m))
    at net (inr past) = subst (λ xs. All (λ x. x < n) xs) (sym (get_or_past fan net [] past)) (λ i d m. absurd (omega arith))

-- the changed nets have readers
pub nets_in_fan : (before values : List Value) (nets seen : List ℕ) (n : ℕ) → AreChanged before values nets → length values ≤ n → seen ≡ nets → All (λ net. net < n) seen
nets_in_fan before values nets seen n are l e = subst (λ xs. All (λ net. net < n) xs) (sym e) (λ i d m. (let h : slice_index_or nets i d < length before = changed-within before values nets i d are m in let many = are.as_many in omega arith))

-- what is listed is an element, once
pub work_within : (before values : List Value) (inputs : List (List ℕ)) (work seen : List ℕ) (n : ℕ) → IsListOf (has_changed before values inputs) work → length inputs ≡ n → seen ≡ work → All (λ e. e < n) seen
work_within before values inputs work seen n is many e = subst (λ xs. All (λ x. x < n) xs) (sym e) (λ i d m. at (slice_index_or work i d) (listed_at (has_changed before values inputs) work i d is m) (within (slice_index_or work i d) (length inputs)))
  where
    within : (a b : ℕ) → (a < b) ⊎ (b ≤ a)
    within a b = grind arith

    at : (k : ℕ) → has_changed before values inputs k ≡ true → (k < length inputs) ⊎ (length inputs ≤ k) → k < n
    at k h (inl l) = omega arith
    at k h (inr past) = let f : false ≡ true = sym (ap (any_differs before values) (get_or_past inputs k [] past)) ∙ h in cc

pub work_once : (before values : List Value) (inputs : List (List ℕ)) (work seen : List ℕ) → IsListOf (has_changed before values inputs) work → seen ≡ work → IsOnce seen
work_once before values inputs work seen is e = record { each = λ k. subst (λ xs. occurrences k xs ≤ 1) (sym e) (at k (has_changed before values inputs k) (is.each k)) }
  where
    at : (k : ℕ) (b : Bool) → occurrences k work ≡ (if b then 1 else 0) → occurrences k work ≤ 1
    at k true h = omega arith
    at k false h = omega arith

-- what is listed, of the nets that an engine has
pub work_of : (fan : List (List ℕ)) (seen nets : List ℕ) (marks : List Bool) (work : List ℕ) (before values : List Value) (inputs : List (List ℕ)) → IsWorkOf fan seen (length marks) work → seen ≡ nets → AreChanged before values nets → IsFanOut inputs fan → length inputs ≡ length marks
    → IsListOf (has_changed before values inputs) work × (length work ≡ count_differing before values inputs)
work_of fan seen nets marks work before values inputs is e are fits many = is.each inputs before values fits many (subst (λ ns. IsListOf (differs before values) ns) (sym e) are.each)

pub as_many_marks : (seen marks : List Bool) (n k : ℕ) → seen ≡ marks → marks ≡ replicate n false → k ≡ n → k ≡ length seen
as_many_marks seen marks n k e f h = h ∙ sym (ap length (e ∙ f) ∙ length-replicate n false)
