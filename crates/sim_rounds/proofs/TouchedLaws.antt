-- The nets that changed since the last snapshot, from round to round.
use Rattle.std.specs.Prelude.{◌≡◌, ℕ, ◌<◌, Bool, true, false, not, ◌||◌, if◌then◌else◌, All, List, [], ◌∷◌, length, refl}
use Rattle.std.proofs.Common.{sym, ◌∙◌, ap, subst, arith, inl, inr}
use Rattle.std.proofs.lemmas.Bool.{cases_eq}
use Rattle.std.proofs.lemmas.List.Elements.{All-head, All-tail}
use Rattle.sg_logic.specs.declared.values.Value.{Value}
use Rattle.sg_logic.specs.Values.{is_same}
use Rattle.sg_circuit.specs.FanOut.{has}
use Rattle.sg_model.specs.Machine.{Snapshot}
use Rattle.sg_model.specs.Values.{value_at}
use Rattle.sg_model.proofs.PlacedLaws.{same-true}
use Rattle.fan_round.specs.declared.work.WorkList.{WorkList}
use Rattle.fan_round.specs.Lists.{occurrences}
use Rattle.fan_round.specs.Nets.{differs, AreChanged}
use Rattle.fan_round.specs.Work.{mark_at, with_marks, AreMarked}
use Rattle.fan_round.proofs.ListLaws.{test_other}
use Rattle.fan_round.proofs.WorkIsExact.{or_left, or_right, mark_with, occurs_has}
use Rattle.time_checks.specs.Checking.{Covers, LeadsTo}
use Rattle.time_checks.proofs.TouchLaws.{listed-within}
use Rattle.sim_rounds.proofs.NotifierLaws.{listed_marked}

-- a number that stands in a list is as small as all of them
has_within : (k n : ℕ) (xs : List ℕ) → All (λ x. x < n) xs → has k xs ≡ true → k < n
has_within k n [] a h = absurd (let q : false ≡ true = h in cc)
has_within k n (x ∷ xs) a h =
    elim (cases_eq x k) [
      | inl same ↦ subst (λ y. y < n) same (All-head (λ y. y < n) x xs a)
      | inr other ↦ has_within k n xs (All-tail (λ y. y < n) x xs a) (sym (ap (λ b. b || has k xs) (test_other x k other)) ∙ h)
    ]

-- a net that differs from the last snapshot after a round differed before it, or changed in it
touched_covers : (last before values : List Value) (changed : List ℕ) (old new : WorkList) (n : ℕ) → AreChanged before values changed → length old.marks.items ≡ n → All (λ net. net < n) changed
    → AreMarked old.marks.items old.list.items → AreMarked new.marks.items new.list.items → new.marks.items ≡ with_marks changed old.marks.items → Covers last before old.list.items → Covers last values new.list.items
touched_covers last before values changed old new n are many within was is made covers = record { each = λ net d. at net (differs last before net) refl d }
  where
    listed : (net : ℕ) → net < n → (mark_at old.marks.items net || has net changed) ≡ true → has net new.list.items ≡ true
    listed net l h = sym (listed_marked new.marks.items new.list.items net is) ∙ (ap (λ ms. mark_at ms net) made ∙ (mark_with changed old.marks.items net (subst (λ k. net < k) (sym many) l) ∙ h))

    at : (net : ℕ) (b : Bool) → differs last before net ≡ b → differs last values net ≡ true → has net new.list.items ≡ true
    at net true e d =
        let stood : has net old.list.items ≡ true = covers.each net e in
        listed net (has_within net n old.list.items (listed-within old.marks.items old.list.items old.list.items n was many refl) stood)
        (or_left (mark_at old.marks.items net) (has net changed) (listed_marked old.marks.items old.list.items net was ∙ stood))
    at net false e d =
        let same : value_at last net ≡ value_at before net = same-true (value_at last net) (value_at before net) (undone (is_same (value_at last net) (value_at before net)) e) in
        let moved : differs before values net ≡ true = sym (ap (λ v. not (is_same v (value_at values net))) same) ∙ d in
        let once : occurrences net changed ≡ 1 = are.each.each net ∙ ap (λ b. if b then 1 else 0) moved in
        let stands : has net changed ≡ true = occurs_has net changed (omega arith) in
        listed net (has_within net n changed within stands) (or_right (mark_at old.marks.items net) (has net changed) stands)
      where
        undone : (b : Bool) → not b ≡ false → b ≡ true
        undone true q = refl
        undone false q = absurd (let z : true ≡ false = q in cc)

pub touched_leads : (before values : List Value) (changed : List ℕ) (old new : WorkList) (n : ℕ) → AreChanged before values changed → length old.marks.items ≡ n → All (λ net. net < n) changed
    → AreMarked old.marks.items old.list.items → AreMarked new.marks.items new.list.items → new.marks.items ≡ with_marks changed old.marks.items → (ss : List Snapshot) → LeadsTo ss old.list.items before → LeadsTo ss new.list.items values
touched_leads before values changed old new n are many within was is made [] h = tt
touched_leads before values changed old new n are many within was is made (last ∷ older) h = touched_covers last.values before values changed old new n are many within was is made h
