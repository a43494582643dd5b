-- The list of all elements.
use Rattle.std.specs.Prelude.{◌≡◌, ◌≢◌, ◌⊎◌, ℕ, ◌+◌, ◌<◌, ◌≤◌, nat_lt, Bool, true, false, if◌then◌else◌, All, List, [], ◌∷◌, ◌++◌, length, map, slice_index_or, refl}
use Rattle.std.proofs.Common.{sym, ◌∙◌, ap, subst, arith, inl, inr, add-zero}
use Rattle.std.proofs.lemmas.Bool.{cases_eq}
use Rattle.std.proofs.lemmas.Bool.Decides.{nat_tests}
use Rattle.std.specs.declared.option.Option.{Option}
use Rattle.sg_logic.specs.declared.values.Value.{Value}
use Rattle.sg_logic.specs.declared.values.Value.TheVariants.{X}
use Rattle.sg_model.specs.Machine.{Machine}
use Rattle.sg_model.specs.Round.{each_from, element_list, element_value}
use Rattle.fan_round.specs.declared.stamps.Stamp as code_stamp
use Rattle.fan_round.specs.Lists.{occurrences, IsListOf, at_places}
use Rattle.fan_round.specs.Nets.{stamp_seen}
use Rattle.fan_round.specs.Rounds.{IsOnce}
use Rattle.fan_round.proofs.ListLaws.{occurs_here, occurs_later, occurrences-append, listed_at, at_places-each}

test_above : (a b : ℕ) → b ≤ a → nat_lt a b ≡ false
test_above a b l = grind (arith, nat_tests)

test_below : (a b : ℕ) → a < b → nat_lt a b ≡ true
test_below a b l = grind (arith, nat_tests)

is_below : (a b : ℕ) → nat_lt a b ≡ true → a < b
is_below a b e = grind (arith, nat_tests)

not_below : (a b : ℕ) → nat_lt a b ≡ false → b ≤ a
not_below a b e = grind (arith, nat_tests)

pub every-none : (ks : List ℕ) → ks ≡ [] → IsListOf (λ e. nat_lt e 0) ks
every-none ks e = record { each = λ k. ap (occurrences k) e ∙ ap (λ b. if b then 1 else 0) (sym (test_above k 0 (omega arith))) }

same_test : (k i : ℕ) → k ≢ i → nat_lt k i ≡ nat_lt k (i + 1)
same_test k i n = elim (sides k i n) [
  | inl l ↦ test_below k i l ∙ sym (test_below k (i + 1) (omega arith))
  | inr l ↦ test_above k i (omega arith) ∙ sym (test_above k (i + 1) (omega arith))
]
  where
    sides : (a b : ℕ) → a ≢ b → (a < b) ⊎ (b < a)
    sides a b h = grind arith

pub every-more : (i : ℕ) (ks new : List ℕ) → IsListOf (λ e. nat_lt e i) ks → new ≡ ks ++ i ∷ [] → IsListOf (λ e. nat_lt e (i + 1)) new
every-more i ks new h e = subst (λ xs. IsListOf (λ k. nat_lt k (i + 1)) xs) (sym e) (record {
  each = λ k. occurrences-append k ks (i ∷ []) ∙ elim (cases_eq i k) [
    | inl same ↦ (let none : occurrences k ks ≡ 0 = h.each k ∙ ap (λ b. if b then 1 else 0) (test_above k i (omega arith)) in
        let one : occurrences k (i ∷ []) ≡ 1 = occurs_here i k [] same ∙ refl in
        ap (λ n. n + occurrences k (i ∷ [])) none ∙ (ap (λ n. 0 + n) one ∙ ap (λ b. if b then 1 else 0) (sym (test_below k (i + 1) (omega arith)))))
    | inr other ↦ ap (λ n. occurrences k ks + n) (occurs_later i k [] other) ∙ (add-zero (occurrences k ks) ∙ (h.each k ∙ ap (λ b. if b then 1 else 0) (same_test k i (λ q. other (sym q)))))
  ];
})

pub every_within : (n m : ℕ) (ks seen : List ℕ) → IsListOf (λ e. nat_lt e n) ks → seen ≡ ks → n ≡ m → All (λ e. e < m) seen
every_within n m ks seen h e f = subst (λ xs. All (λ x. x < m) xs) (sym e) (λ i d l. subst (λ y. slice_index_or ks i d < y) f (is_below (slice_index_or ks i d) n (listed_at (λ k. nat_lt k n) ks i d h l)))

pub every_once : (n : ℕ) (ks seen : List ℕ) → IsListOf (λ e. nat_lt e n) ks → seen ≡ ks → IsOnce seen
every_once n ks seen h e = record { each = λ k. subst (λ xs. occurrences k xs ≤ 1) (sym e) (at k (nat_lt k n) (h.each k)) }
  where
    at : (k : ℕ) (b : Bool) → occurrences k ks ≡ (if b then 1 else 0) → occurrences k ks ≤ 1
    at k true g = omega arith
    at k false g = omega arith

every_written : {A : Type 0} (n : ℕ) (f : ℕ → A → A) (d : A) (ks : List ℕ) (xs : List A) → IsListOf (λ e. nat_lt e n) ks → length xs ≡ n → at_places f d ks xs ≡ each_from f 0 xs
every_written n f d ks xs h many = at_places-each (λ e. nat_lt e n) f d ks xs h (λ j l e. (let g : n ≤ j = not_below j n e in let k : ⊥ = omega arith in absurd k))

pub every_lists : (m : Machine) (now n : ℕ) (before values b v : List Value) (stamps st : List (Option code_stamp.Stamp)) (lists ls new : List (List (ℕ × Value))) (states : List Value) (work w : List ℕ) → b ≡ before → v ≡ values → st ≡ stamps → w ≡ work → ls ≡ lists
    → IsListOf (λ e. nat_lt e n) work → length lists ≡ n
    → new ≡ at_places (element_list m now b v (map stamp_seen st) states) [] w ls → new ≡ each_from (element_list m now before values (map stamp_seen stamps) states) 0 lists
every_lists m now n before values b v stamps st lists ls new states work w eb ev es ew el is many made =
    made ∙ (ap (λ x. at_places (element_list m now x v (map stamp_seen st) states) [] w ls) eb
    ∙ (ap (λ x. at_places (element_list m now before x (map stamp_seen st) states) [] w ls) ev
    ∙ (ap (λ x. at_places (element_list m now before values (map stamp_seen x) states) [] w ls) es
    ∙ (ap (λ x. at_places (element_list m now before values (map stamp_seen stamps) states) [] x ls) ew
    ∙ (ap (λ x. at_places (element_list m now before values (map stamp_seen stamps) states) [] work x) el
    ∙ every_written n (element_list m now before values (map stamp_seen stamps) states) [] work lists is many)))))

pub every_states : (m : Machine) (n : ℕ) (before values b v : List Value) (states new : List Value) (work w : List ℕ) → b ≡ before → v ≡ values → w ≡ work → IsListOf (λ e. nat_lt e n) work → length states ≡ n
    → new ≡ at_places (element_value m b v) X w states → new ≡ each_from (element_value m before values) 0 states
every_states m n before values b v states new work w eb ev ew is many made =
    made ∙ (ap (λ x. at_places (element_value m x v) X w states) eb ∙ (ap (λ x. at_places (element_value m before x) X w states) ev
    ∙ (ap (λ x. at_places (element_value m before values) X x states) ew ∙ every_written n (element_value m before values) X work states is many)))
