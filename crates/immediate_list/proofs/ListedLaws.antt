-- How the list of drivers follows their standings.
use Rattle.std.specs.Prelude.{◌≡◌, ◌≢◌, ◌⊎◌, ℕ, zero, suc, ◌+◌, ◌<◌, ◌≤◌, Bool, true, false, if◌then◌else◌, List, [], ◌∷◌, ◌++◌, length, map, slice_index_or, slice_set, refl}
use Rattle.std.proofs.Common.{sym, ◌∙◌, ap, subst, arith, inl, inr}
use Rattle.std.proofs.lemmas.Bool.{cases_eq}
use Rattle.std.proofs.lemmas.List.{length-map, length-append, get_or-map, get_or_past, get_or-set_same, get_or-set_other, map-set}
use Rattle.sg_logic.specs.declared.values.Value.{Value}
use Rattle.fan_round.specs.Lists.{occurrences}
use Rattle.fan_round.specs.Work.{mark_at, count_marks, AreMarked}
use Rattle.fan_round.proofs.ListLaws.{occurs_here, occurs_later, occurrences-append}
use Rattle.fan_round.proofs.WorkLaws.{marked-more}
use Rattle.immediate_list.specs.declared.standings.Standing.{Standing}
use Rattle.immediate_list.specs.declared.standings.Standing.TheVariants.{Nothing, Listed, OnAgenda}
use Rattle.immediate_list.specs.Standings.{standing_at, is_listed, AreListed}

pub flag_at : (ss : List Standing) (k : ℕ) (d b : Bool) → k < length ss → is_listed (standing_at ss k) ≡ b → slice_index_or (map (λ s. is_listed s) ss) k d ≡ b
flag_at ss k d b l e = get_or-map (λ s. is_listed s) ss k OnAgenda d l ∙ e

-- a driver more
pub enlisted : (ss : List Standing) (ds : List ℕ) (k : ℕ) (v : Standing) → is_listed v ≡ true → AreListed ss ds → k < length ss → is_listed (standing_at ss k) ≡ false → AreListed (slice_set ss k v) (ds ++ k ∷ []) × (length ds < length ss)
enlisted ss ds k v is are l e =
    let marks : List Bool = map (λ s. is_listed s) ss in
    let many : length marks ≡ length ss = length-map ss (λ s. is_listed s) in
    let step = marked-more marks ds k false are (subst (λ n. k < n) (sym many) l) (flag_at ss k false false l e) in (
      subst (λ ms. AreMarked ms (ds ++ k ∷ [])) (sym (map-set (λ s. is_listed s) ss k v ∙ ap (λ b. slice_set marks k b) is)) step.0,
      subst (λ n. length ds < n) many step.1,
    )

count_marks-unset : (marks : List Bool) (e : ℕ) → e < length marks → mark_at marks e ≡ true → count_marks (slice_set marks e false) + 1 ≡ count_marks marks
count_marks-unset [] e l h = absurd (omega arith)
count_marks-unset (m ∷ ms) zero l h =
    let f : (c : ℕ) → 0 + c + 1 ≡ 1 + c = (λ c. omega arith) in
    f (count_marks ms) ∙ ap (λ b. (if b then 1 else 0) + count_marks ms) (sym h)
count_marks-unset (m ∷ ms) (suc e) l h =
    let f : (a c d : ℕ) → c + 1 ≡ d → a + c + 1 ≡ a + d = (λ a c d h. omega arith) in
    f (if m then 1 else 0) (count_marks (slice_set ms e false)) (count_marks ms) (count_marks-unset ms e (omega arith) h)

-- the last of the list is marked, and without it the others are
pub marked-fewer : (marks : List Bool) (ds : List ℕ) (k : ℕ) → AreMarked marks (ds ++ k ∷ []) → (k < length marks) × (mark_at marks k ≡ true) × AreMarked (slice_set marks k false) ds
marked-fewer marks ds k are =
    let here : occurrences k (ds ++ k ∷ []) ≡ occurrences k ds + 1 = occurrences-append k ds (k ∷ []) ∙ ap (λ n. occurrences k ds + n) (occurs_here k k [] refl ∙ refl) in
    let yes : mark_at marks k ≡ true = marked (mark_at marks k) refl (sym here ∙ are.each.each k) in
    let none : occurrences k ds ≡ 0 = (let e : occurrences k ds + 1 ≡ 1 = sym here ∙ (are.each.each k ∙ ap (λ b. if b then 1 else 0) yes) in omega arith) in
    let within : k < length marks = elim (sides k (length marks)) [
      | inl l ↦ l
      | inr past ↦ (let no : mark_at marks k ≡ false = get_or_past marks k false past in let f : false ≡ true = sym no ∙ yes in cc)
    ] in (
      within,
      yes,
      record {
        each = record {
          each = λ j. elim (cases_eq k j) [
            | inl same ↦ ap (λ n. occurrences n ds) (sym same) ∙ (none ∙ ap (λ b. if b then 1 else 0) (sym (ap (λ n. mark_at (slice_set marks k false) n) (sym same) ∙ get_or-set_same marks k false false within)))
            | inr other ↦ (let apart : j ≢ k = (λ q. other (sym q)) in
                let kept : occurrences j ds ≡ occurrences j (ds ++ k ∷ []) =
                (let e : occurrences j (ds ++ k ∷ []) ≡ occurrences j ds + occurrences j (k ∷ []) = occurrences-append j ds (k ∷ []) in
                let f : occurrences j (k ∷ []) ≡ 0 = occurs_later k j [] other in omega arith) in
                kept ∙ (are.each.each j ∙ ap (λ b. if b then 1 else 0) (sym (get_or-set_other marks k j false false apart))))
          ];
        };
        count = (let many : length (ds ++ k ∷ []) ≡ length ds + 1 = length-append ds (k ∷ []) in
            let fewer : count_marks (slice_set marks k false) + 1 ≡ count_marks marks = count_marks-unset marks k within yes in
            let count = are.count in omega arith);
      },
    )
  where
    marked : (b : Bool) → mark_at marks k ≡ b → occurrences k ds + 1 ≡ (if mark_at marks k then 1 else 0) → mark_at marks k ≡ true
    marked true e h = e
    marked false e h = let f : occurrences k ds + 1 ≡ 0 = h ∙ ap (λ b. if b then 1 else 0) e in absurd (omega arith)

    sides : (n m : ℕ) → (n < m) ⊎ (m ≤ n)
    sides n m = grind arith

-- a driver fewer
pub unlisted : (ss : List Standing) (ds : List ℕ) (k : ℕ) (after : Standing) → is_listed after ≡ false → AreListed ss (ds ++ k ∷ []) → (k < length ss) × (is_listed (standing_at ss k) ≡ true) × AreListed (slice_set ss k after) ds
unlisted ss ds k after free are =
    let marks : List Bool = map (λ s. is_listed s) ss in
    let many : length marks ≡ length ss = length-map ss (λ s. is_listed s) in
    let step = marked-fewer marks ds k are in
    let l : k < length ss = subst (λ n. k < n) many step.0 in (
      l,
      sym (get_or-map (λ s. is_listed s) ss k OnAgenda false l) ∙ step.1,
      subst (λ ms. AreMarked ms ds) (sym (map-set (λ s. is_listed s) ss k after ∙ ap (λ b. slice_set marks k b) free)) step.2,
    )

-- the standing of a driver that isn't listed turns to another that isn't either
pub still_listed : (ss : List Standing) (ds : List ℕ) (k : ℕ) (after : Standing) → is_listed after ≡ false → is_listed (standing_at ss k) ≡ false → AreListed ss ds → AreListed (slice_set ss k after) ds
still_listed ss ds k after free was are =
    let marks : List Bool = map (λ s. is_listed s) ss in
    subst (λ ms. AreMarked ms ds) (sym (map-set (λ s. is_listed s) ss k after ∙ (ap (λ b. slice_set marks k b) free ∙ stays))) are
  where
    stays : slice_set (map (λ s. is_listed s) ss) k false ≡ map (λ s. is_listed s) ss
    stays = at ss k was
      where
        at : (xs : List Standing) (j : ℕ) → is_listed (standing_at xs j) ≡ false → slice_set (map (λ s. is_listed s) xs) j false ≡ map (λ s. is_listed s) xs
        at [] j e = refl
        at (x ∷ xs) zero e = ap (λ b. b ∷ map (λ s. is_listed s) xs) (sym e)
        at (x ∷ xs) (suc j) e = ap (λ bs. is_listed x ∷ bs) (at xs j e)

-- where none is listed
pub none_listed : (ss : List Standing) (k : ℕ) → AreListed ss [] → k < length ss → is_listed (standing_at ss k) ≡ false
none_listed ss k are l = at (is_listed (standing_at ss k)) refl
  where
    at : (b : Bool) → is_listed (standing_at ss k) ≡ b → is_listed (standing_at ss k) ≡ false
    at false e = e
    at true e = let f : occurrences k [] ≡ 1 = are.each.each k ∙ ap (λ (x : Bool). if x then 1 else 0) (flag_at ss k false true l e) in absurd (omega (arith, f))

-- a listed driver has a value
pub listed_value : (ss : List Standing) (k : ℕ) → is_listed (standing_at ss k) ≡ true → (v : Value) × (standing_at ss k ≡ Listed v)
listed_value ss k e = at (standing_at ss k) refl e
  where
    at : (s : Standing) → standing_at ss k ≡ s → is_listed s ≡ true → (v : Value) × (standing_at ss k ≡ Listed v)
    at Nothing f g = cc
    at (Listed v) f g = (v, f)
    at OnAgenda f g = cc
