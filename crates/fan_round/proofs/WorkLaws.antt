-- How the list of marked elements follows their marks.
use Rattle.std.specs.Prelude.{◌≡◌, ◌≢◌, ◌⊎◌, ℕ, zero, suc, ◌+◌, ◌<◌, ◌≤◌, Bool, true, false, if◌then◌else◌, List, [], ◌∷◌, ◌++◌, length, take, replicate, slice_index_or, slice_set, refl}
use Rattle.std.proofs.Common.{sym, ◌∙◌, ap, subst, arith, inl, inr}
use Rattle.std.proofs.lemmas.Bool.{cases_eq}
use Rattle.std.proofs.lemmas.List.{length-set, length-append, get_or-set_same, get_or-set_other, get_or_past, set-get_or, get_or_default, take_more, take_all}
use Rattle.sg_model.specs.Round.{each_from}
use Rattle.fan_round.specs.Lists.{occurrences, at_places}
use Rattle.sg_circuit.specs.FanOut.{readers_at}
use Rattle.fan_round.specs.Work.{mark_at, count_marks, AreMarked, with_marks, with_readers}
use Rattle.fan_round.proofs.ListLaws.{occurs_here, occurs_later, occurrences-append, listed_at, at_places-more, at_places-each}

count_marks-set : (marks : List Bool) (e : ℕ) → e < length marks → mark_at marks e ≡ false → count_marks (slice_set marks e true) ≡ count_marks marks + 1
count_marks-set [] e l h = absurd (omega arith)
count_marks-set (m ∷ ms) zero l h =
    let f : (c : ℕ) → 1 + c ≡ 0 + c + 1 = (λ c. omega arith) in
    f (count_marks ms) ∙ ap (λ b. (if b then 1 else 0) + count_marks ms + 1) (sym h)
count_marks-set (m ∷ ms) (suc e) l h =
    let f : (a c d : ℕ) → c ≡ d + 1 → a + c ≡ a + d + 1 = (λ a c d h. omega arith) in
    f (if m then 1 else 0) (count_marks (slice_set ms e true)) (count_marks ms) (count_marks-set ms e (omega arith) h)

pub count_marks-length : (marks : List Bool) → count_marks marks ≤ length marks
count_marks-length [] = omega arith
count_marks-length (true ∷ ms) = let h = count_marks-length ms in omega arith
count_marks-length (false ∷ ms) = let h = count_marks-length ms in omega arith

pub marked-already : (marks : List Bool) (work : List ℕ) (e : ℕ) (d : Bool) → AreMarked marks work → slice_index_or marks e d ≡ true → AreMarked (slice_set marks e true) work × (slice_set marks e true ≡ marks)
marked-already marks work e d are h =
    let same : slice_set marks e true ≡ marks = ap (λ b. slice_set marks e b) (sym h) ∙ set-get_or marks e d in
    (subst (λ ms. AreMarked ms work) (sym same) are, same)

pub marked-more : (marks : List Bool) (work : List ℕ) (e : ℕ) (d : Bool) → AreMarked marks work → e < length marks → slice_index_or marks e d ≡ false
    → AreMarked (slice_set marks e true) (work ++ e ∷ []) × (length work < length marks)
marked-more marks work e d are l h =
    let h' : mark_at marks e ≡ false = get_or_default marks e false d l ∙ h in
    let more : count_marks (slice_set marks e true) ≡ count_marks marks + 1 = count_marks-set marks e l h' in
    let count = are.count in
    let most : count_marks (slice_set marks e true) ≤ length marks = subst (λ n. count_marks (slice_set marks e true) ≤ n) (length-set marks e true) (count_marks-length (slice_set marks e true)) in (
      record {
        each = record {
          each = λ k. occurrences-append k work (e ∷ []) ∙ elim (cases_eq e k) [
            | inl same ↦ (let old : occurrences k work ≡ 0 = are.each.each k ∙ ap (λ n. if mark_at marks n then 1 else 0) (sym same) ∙ ap (λ b. if b then 1 else 0) h' in
                let new : mark_at (slice_set marks e true) k ≡ true = ap (λ n. mark_at (slice_set marks e true) n) (sym same) ∙ get_or-set_same marks e true false l in
                let one : occurrences k (e ∷ []) ≡ 1 = occurs_here e k [] same ∙ refl in
                ap (λ n. n + occurrences k (e ∷ [])) old ∙ (ap (λ n. 0 + n) one ∙ ap (λ b. if b then 1 else 0) (sym new)))
            | inr other ↦ (let none : occurrences k (e ∷ []) ≡ 0 = occurs_later e k [] other in
                let apart : k ≢ e = (λ q. other (sym q)) in
                ap (λ n. occurrences k work + n) none ∙ ((let f : occurrences k work + 0 ≡ occurrences k work = omega arith in f) ∙ (are.each.each k ∙ ap (λ b. if b then 1 else 0) (sym (get_or-set_other marks e k true false apart)))))
          ];
        };
        count = let many : length (work ++ e ∷ []) ≡ length work + 1 = length-append work (e ∷ []) in omega arith;
      },
      omega arith,
    )

pub marked-none : (n : ℕ) → AreMarked (replicate n false) []
marked-none n = record {
  each = record { each = λ k. ap (λ b. if b then 1 else 0) (sym (none n k)) };
  count = sym (zeros n);
}
  where
    none : (m k : ℕ) → mark_at (replicate m false) k ≡ false
    none zero k = refl
    none (suc m) zero = refl
    none (suc m) (suc k) = none m k

    zeros : (m : ℕ) → count_marks (replicate m false) ≡ 0
    zeros zero = refl
    zeros (suc m) = ap (λ c. 0 + c) (zeros m)

-- a listed element is one of those that have marks
pub marked-within : (marks : List Bool) (work : List ℕ) (i blank : ℕ) → AreMarked marks work → i < length work → slice_index_or work i blank < length marks
marked-within marks work i blank are l =
    let e : ℕ = slice_index_or work i blank in
    let yes : mark_at marks e ≡ true = listed_at (mark_at marks) work i blank are.each l in
    elim (within e (length marks)) [
      | inl in' ↦ in'
      | inr past ↦ (let no : mark_at marks e ≡ false = get_or_past marks e false past in let f : false ≡ true = sym no ∙ yes in cc)
    ]
  where
    within : (n m : ℕ) → (n < m) ⊎ (m ≤ n)
    within n m = grind arith

-- one reader more, of one net
pub length-with_marks : (es : List ℕ) (marks : List Bool) → length (with_marks es marks) ≡ length marks
length-with_marks [] marks = refl
length-with_marks (e ∷ es) marks = length-with_marks es (slice_set marks e true) ∙ length-set marks e true

with_marks-append : (es : List ℕ) (e : ℕ) (marks : List Bool) → with_marks (es ++ e ∷ []) marks ≡ slice_set (with_marks es marks) e true
with_marks-append [] e marks = refl
with_marks-append (x ∷ xs) e marks = with_marks-append xs e (slice_set marks x true)

pub with_marks-more : (es : List ℕ) (i blank : ℕ) (start mid new : List Bool) → i < length es → mid ≡ with_marks (take i es) start → new ≡ slice_set mid (slice_index_or es i blank) true → new ≡ with_marks (take (i + 1) es) start
with_marks-more es i blank start mid new l e f =
    f ∙ (ap (λ ms. slice_set ms (slice_index_or es i blank) true) e ∙ (sym (with_marks-append (take i es) (slice_index_or es i blank) start) ∙ ap (λ xs. with_marks xs start) (sym (take_more es i blank l))))

-- one net more
pub length-with_readers : (fan : List (List ℕ)) (nets : List ℕ) (marks : List Bool) → length (with_readers fan nets marks) ≡ length marks
length-with_readers fan [] marks = refl
length-with_readers fan (n ∷ ns) marks = length-with_readers fan ns (with_marks (readers_at fan n) marks) ∙ length-with_marks (readers_at fan n) marks

with_readers-append : (fan : List (List ℕ)) (nets : List ℕ) (net : ℕ) (marks : List Bool) → with_readers fan (nets ++ net ∷ []) marks ≡ with_marks (readers_at fan net) (with_readers fan nets marks)
with_readers-append fan [] net marks = refl
with_readers-append fan (x ∷ xs) net marks = with_readers-append fan xs net (with_marks (readers_at fan x) marks)

pub with_readers-more : (fan : List (List ℕ)) (nets : List ℕ) (i blank : ℕ) (start mid new : List Bool) → i < length nets → mid ≡ with_readers fan (take i nets) start
    → new ≡ with_marks (readers_at fan (slice_index_or nets i blank)) mid → new ≡ with_readers fan (take (i + 1) nets) start
with_readers-more fan nets i blank start mid new l e f =
    f ∙ (ap (λ ms. with_marks (readers_at fan (slice_index_or nets i blank)) ms) e ∙ (sym (with_readers-append fan (take i nets) (slice_index_or nets i blank) start) ∙ ap (λ xs. with_readers fan xs start) (sym (take_more nets i blank l))))

-- the marks are cleared
pub cleared_more : (work : List ℕ) (i blank : ℕ) (start mid new : List Bool) → i < length work → mid ≡ at_places (λ e b. false) false (take i work) start → new ≡ slice_set mid (slice_index_or work i blank) false
    → new ≡ at_places (λ e b. false) false (take (i + 1) work) start
cleared_more work i blank start mid new l e f =
    f ∙ (ap (λ ms. slice_set ms (slice_index_or work i blank) false) e ∙ sym (at_places-more (λ e b. false) false work i blank start l))

all_false : (k : ℕ) (marks : List Bool) → each_from (λ (e : ℕ) (b : Bool). false) k marks ≡ replicate (length marks) false
all_false k [] = refl
all_false k (m ∷ ms) = ap (λ bs. false ∷ bs) (all_false (suc k) ms)

pub cleared : (marks : List Bool) (work : List ℕ) (mid : List Bool) (i : ℕ) → AreMarked marks work → length work ≤ i → mid ≡ at_places (λ e b. false) false (take i work) marks → mid ≡ replicate (length marks) false
cleared marks work mid i are l e =
    e ∙ (ap (λ es. at_places (λ e b. false) false es marks) (take_all i work l)
    ∙ (at_places-each (mark_at marks) (λ e b. false) false work marks are.each (λ j m h. sym h) ∙ all_false 0 marks))

pub marked-start : (marks : List Bool) (work : List ℕ) (n : ℕ) → marks ≡ replicate n false → work ≡ [] → AreMarked marks work
marked-start marks work n e f = subst (λ es. AreMarked marks es) (sym f) (subst (λ ms. AreMarked ms []) (sym e) (marked-none n))
