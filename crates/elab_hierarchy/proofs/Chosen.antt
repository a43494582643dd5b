-- The candidates for the top, and the only one.
use Rattle.std.specs.Prelude.{◌≡◌, ℕ, zero, suc, ◌+◌, ◌<◌, List, [], ◌∷◌, Bool, true, false, not, ◌&&◌, Option, Some, None, Result, Ok, Err, IfOk, IfErr, filter, map, length, slice_get, slice_index_or, refl, if◌then◌else◌}
use Rattle.std.specs.Borrow.{Bor}
use Rattle.std.specs.List.{list_any}
use Rattle.std.specs.Option.{option_map, is_some}
use Rattle.std.proofs.Common.{sym, ◌∙◌, ap, drop, drop-cons, add-one, subst}
use Rattle.std.proofs.Math.Seq.{drop-length}
use Rattle.std.proofs.lemmas.Option.{slice_get-map, slice_get-get_or}
use Rattle.sg_text.specs.declared.refusals.Refused.{Refused}
use Rattle.sg_text.specs.declared.refusals.Refused.TheVariants as refused
use Rattle.vl_tree.specs.declared.modules.Part as code_part
use Rattle.vl_tree.specs.Seen.{view_part}
use Rattle.vl_tree.specs.Tree.{Module, Part, a_module, a_primitive, Source}
use Rattle.elab_model.specs.declared.kinds.ElabKind.{ElabKind}
use Rattle.elab_model.specs.declared.kinds.ElabKind.TheVariants.{NoTop, SeveralTops}
use Rattle.elab_model.specs.Tops.{has_instance, candidates, only_one, modules, top_of}
use Rattle.elab_declared.specs.Words.{is_seen}
use Rattle.elab_hierarchy.specs.Tops.{StandsAt, IsOnly, RefusesChoice, RefusesTop, chosen, is_candidate_of, part_has}
use Rattle.elab_hierarchy.proofs.Used.{has-instance}

same-chosen : (f g : List ℕ → Bool) → ((n : List ℕ) → f n ≡ g n) → (ms : List Module)
    → filter (λ m. not m.settings.cell && not (f m.name.text)) ms ≡ filter (λ m. not m.settings.cell && not (g m.name.text)) ms
same-chosen f g h [] = refl
same-chosen f g h (m ∷ ms) =
    ap (λ b. if not m.settings.cell && not b then m ∷ filter (λ m. not m.settings.cell && not (f m.name.text)) ms else filter (λ m. not m.settings.cell && not (f m.name.text)) ms) (h m.name.text)
    ∙ ap (λ xs. if not m.settings.cell && not (g m.name.text) then m ∷ xs else xs) (same-chosen f g h ms)

-- the candidates, by the names that the code keeps
pub chosen-candidates : (keys : List (Bor (List ℕ))) (ps qs source : Source) → ps ≡ source → qs ≡ source
    → ((n : List ℕ) → is_seen n keys ≡ list_any (part_has n) ps) → chosen (λ n. is_seen n keys) qs ≡ candidates source
chosen-candidates keys ps qs source is same h =
    ap (chosen (λ n. is_seen n keys)) same
    ∙ same-chosen (λ n. is_seen n keys) (has_instance source) (λ n. h n ∙ has-instance n ps ∙ ap (λ s. has_instance s n) is) (modules source)

-- what was found among the first k definitions, and what is left, are all
abbrev pub FoundSoFar : (List ℕ → Bool) → Source → Option ℕ → ℕ → Type 0
FoundSoFar used source None k = chosen used source ≡ chosen used (drop k source)
FoundSoFar used source (Some i) k = (m : Module) × StandsAt source i m × (chosen used source ≡ m ∷ chosen used (drop k source))

-- the part at a place
pub record PartAt (source : Source) (k : ℕ) (p : Part) : Type 0 where
  pub there : slice_get source k ≡ Some p
  pub cut : drop k source ≡ p ∷ drop (suc k) source

pub part-at : (d : code_part.Part) (parts : List code_part.Part) (source : Source) (k : ℕ) → map view_part parts ≡ source → k < length parts → PartAt source k (view_part (slice_index_or parts k d))
part-at d parts source k is lt =
    subst (λ s. PartAt s k (view_part (slice_index_or parts k d))) is
    (record {
      there = slice_get-map view_part parts k ∙ ap (option_map view_part) (slice_get-get_or parts k d lt);
      cut = drop-map parts k ∙ ap (map view_part) (drop-cons parts k d lt) ∙ ap (λ xs. view_part (slice_index_or parts k d) ∷ xs) (sym (drop-map parts (suc k)));
    })
  where
    drop-map : (xs : List code_part.Part) (n : ℕ) → drop n (map view_part xs) ≡ map view_part (drop n xs)
    drop-map xs zero = refl
    drop-map [] (suc n) = refl
    drop-map (x ∷ xs) (suc n) = drop-map xs n

-- a part that is no candidate
pub not-chosen : (used : List ℕ → Bool) (source : Source) (k : ℕ) (p : Part) (b : Bool) (found : Option ℕ) → PartAt source k p → b ≡ is_candidate_of used p → b ≡ false
    → FoundSoFar used source found k → FoundSoFar used source found (k + 1)
not-chosen used source k p b found at e f h = by found h
  where
    skipped : (p : Part) (ps : Source) → is_candidate_of used p ≡ false → chosen used (p ∷ ps) ≡ chosen used ps
    skipped (a_module m) ps e = ap (λ b. if b then m ∷ chosen used ps else chosen used ps) e
    skipped (a_primitive p) ps e = refl

    left : chosen used (drop k source) ≡ chosen used (drop (k + 1) source)
    left = ap (chosen used) at.cut ∙ skipped p (drop (suc k) source) (sym e ∙ f) ∙ rw add-one refl

    by : (found : Option ℕ) → FoundSoFar used source found k → FoundSoFar used source found (k + 1)
    by None h = h ∙ left
    by (Some i) h = (h.0, h.1, h.2 ∙ ap (λ xs. h.0 ∷ xs) left)

pub record IsChosen (used : List ℕ → Bool) (source : Source) (k : ℕ) : Type 0 where
  pub chosen_one : Module
  pub stands : StandsAt source k chosen_one
  pub left : chosen used (drop k source) ≡ chosen_one ∷ chosen used (drop (k + 1) source)

-- one that is
pub is-chosen : (used : List ℕ → Bool) (source : Source) (k : ℕ) (p : Part) (b : Bool) → PartAt source k p → b ≡ is_candidate_of used p → b ≡ true → IsChosen used source k
is-chosen used source k (a_module m) b at e f = record {
  chosen_one = m;
  stands = at.there;
  left = ap (chosen used) at.cut ∙ ap (λ b. if b then m ∷ chosen used (drop (suc k) source) else chosen used (drop (suc k) source)) (sym e ∙ f) ∙ rw add-one refl;
}
is-chosen used source k (a_primitive p) b at e f = let x : true ≡ false = sym f ∙ e in cc

pub is-none : (found : Option ℕ) (b : Bool) → b ≡ is_some found → b ≡ false → found ≡ None
is-none None b e f = refl
is-none (Some i) b e f = let x : true ≡ false = sym e ∙ f in cc

pub is-some : (found : Option ℕ) (b : Bool) → b ≡ is_some found → b ≡ true → (i : ℕ) × (found ≡ Some i)
is-some None b e f = let x : false ≡ true = sym e ∙ f in cc
is-some (Some i) b e f = (i, refl)

pub first-chosen : (used : List ℕ → Bool) (source : Source) (k : ℕ) (found : Option ℕ) → found ≡ None → IsChosen used source k → FoundSoFar used source found k → FoundSoFar used source (Some k) (k + 1)
first-chosen used source k found none c h = let g : FoundSoFar used source None k = subst (λ o. FoundSoFar used source o k) none h in (c.chosen_one, c.stands, g ∙ c.left)

pub second-chosen : (used : List ℕ → Bool) (source : Source) (k i : ℕ) (found : Option ℕ) → found ≡ Some i → IsChosen used source k
    → FoundSoFar used source found k → only_one (chosen used source) ≡ Err SeveralTops
second-chosen used source k i found some c h =
    let g : FoundSoFar used source (Some i) k = subst (λ o. FoundSoFar used source o k) some h in
    ap only_one (g.2 ∙ ap (λ xs. g.0 ∷ xs) c.left)

nothing-left : (used : List ℕ → Bool) (source : Source) (k : ℕ) → k ≡ length source → chosen used (drop k source) ≡ []
nothing-left used source k e = ap (chosen used) (ap (λ n. drop n source) e ∙ drop-length source)

pub none-chosen : (used : List ℕ → Bool) (source : Source) (k : ℕ) (found : Option ℕ) → found ≡ None → k ≡ length source
    → FoundSoFar used source found k → only_one (chosen used source) ≡ Err NoTop
none-chosen used source k found none e h =
    let g : FoundSoFar used source None k = subst (λ o. FoundSoFar used source o k) none h in
    ap only_one (g ∙ nothing-left used source k e)

pub one-chosen : (used : List ℕ → Bool) (source : Source) (k i : ℕ) (found : Option ℕ) → found ≡ Some i → k ≡ length source
    → FoundSoFar used source found k → IsOnly (chosen used source) source i
one-chosen used source k i found some e h =
    let g : FoundSoFar used source (Some i) k = subst (λ o. FoundSoFar used source o k) some h in
    (g.0, ap only_one (g.2 ∙ ap (λ xs. g.0 ∷ xs) (nothing-left used source k e)), g.1)

-- what is chosen among the candidates is the top
pub top-chosen : (r : Result ℕ (Refused ElabKind)) (ms : List Module) (ps source : Source) → ms ≡ candidates source → ps ≡ source → IfOk r (IsOnly ms ps)
    → IfOk r (λ i. (m : Module) × (top_of source None ≡ Ok m) × StandsAt source i m)
top-chosen (Ok i) ms ps source e f h = (h.0, ap only_one (sym e) ∙ h.1, subst (λ s. StandsAt s i h.0) f h.2)
top-chosen (Err r) ms ps source e f h = tt

pub top-refused : (r : Result ℕ (Refused ElabKind)) (ms : List Module) (source : Source) → ms ≡ candidates source → IfErr r (RefusesChoice ms) → IfErr r (RefusesTop source None)
top-refused (Ok i) ms source e h = tt
top-refused (Err (refused.Fault kind place)) ms source e h = (ap only_one (sym e) ∙ h.0, h.1)
top-refused (Err refused.NoMemory) ms source e h = tt
