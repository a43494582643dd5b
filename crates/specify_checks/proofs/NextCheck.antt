-- The checks so far, and one more.
use Rattle.std.specs.Prelude.{◌≡◌, ℕ, zero, suc, ◌+◌, ◌<◌, ◌≤◌, All, List, [], ◌∷◌, ◌++◌, length, map, slice_index_or, refl}
use Rattle.std.specs.Borrow.{Bor}
use Rattle.std.specs.List.{AllByRecursion}
use Rattle.std.proofs.Common.{sym, ◌∙◌, ap, arith, subst, append_assoc, drop, drop-cons}
use Rattle.std.proofs.lemmas.List.{append-nil, drop_all, map-append}
use Rattle.std.proofs.lemmas.List.Elements.{All-nil, All-push}
use Rattle.vl_tree.specs.declared.checks.Check as code
use Rattle.vl_tree.specs.Seen.{view_check}
use Rattle.vl_tree.specs.Tree.{Check, Module}
use Rattle.elab_model.specs.Lates.{DelayedCopy}
use Rattle.elab_model.specs.Names.{Variable}
use Rattle.specify_model.specs.CheckFaults.{check_faults}
use Rattle.specify_model.specs.Checks as def
use Rattle.specify_model.specs.Values.{Measure, Values}
use Rattle.specify_values.specs.Seen.{view_checks}
use Rattle.specify_values.proofs.InTurn.{left_from, next-faultless}
use Rattle.elab_lates.specs.declared.copies.ModuleCopies.{ModuleCopies}
use Rattle.specify_checks.specs.Copies.{IsCheckOf}
use Rattle.specify_checks.specs.Seen.{check_seen, IsFitting, IsSpelledCheck}
use Rattle.specify_checks.specs.declared.checks.ModuleCheck.{ModuleCheck}

abbrev pub view : Bor code.Check → Check
view c = view_check c.now

-- the checks that are left, and their faults, complete all
pub record AreSoFar (by : Measure) (vs : List Variable) (cs : List DelayedCopy) (copies signals : ℕ) (values : Values) (texts : List (Bor code.Check)) (i : ℕ) (list : List ModuleCheck) : Type 0 where
  pub seen : map (check_seen vs cs) list ++ map (def.module_check by vs values) (view_checks (drop i texts)) ≡ map (def.module_check by vs values) (view_checks texts)
  pub fits : All (IsFitting vs copies) list
  pub spelled : All IsSpelledCheck list
  pub left : left_from view (check_faults signals by vs values) texts i

module _ (by : Measure) (vs : List Variable) (cs : List DelayedCopy) (copies signals : ℕ) (values : Values) (texts : List (Bor code.Check)) where
  pub none-yet : (list : List ModuleCheck) → list ≡ [] → AreSoFar by vs cs copies signals values texts 0 list
  none-yet list e = subst (AreSoFar by vs cs copies signals values texts 0) (sym e) (record { seen = refl; fits = All-nil (IsFitting vs copies); spelled = All-nil IsSpelledCheck; left = refl })

  abbrev left : ℕ → List def.ModuleCheck
  left i = map (def.module_check by vs values) (view_checks (drop i texts))

  pub next-check : (i k : ℕ) (x : Bor code.Check) (c : ModuleCheck) (list longer : List ModuleCheck) → k ≡ i + 1 → i < length texts → x ≡ slice_index_or texts i x → longer ≡ list ++ c ∷ []
      → check_seen vs cs c ≡ def.module_check by vs values (view x) → IsFitting vs copies c → IsSpelledCheck c → check_faults signals by vs values (view x) ≡ [] → AreSoFar by vs cs copies signals values texts i list
      → AreSoFar by vs cs copies signals values texts k longer
  next-check i k x c list longer next lt is more e fit spell faultless h =
      let n : suc i ≡ i + 1 = omega arith in
      let made = def.module_check by vs values (view x) in
      let step : left i ≡ made ∷ left (i + 1) =
      ap (λ ts. map (def.module_check by vs values) (view_checks ts)) (drop-cons texts i x lt ∙ ap (λ y. y ∷ drop (suc i) texts) (sym is)) ∙ ap (λ m. made ∷ left m) n in
      subst (λ m. AreSoFar by vs cs copies signals values texts m longer) (sym next)
      (record {
        seen = ap (λ l. map (check_seen vs cs) l ++ left (i + 1)) more ∙ ap (λ l. l ++ left (i + 1)) (map-append (check_seen vs cs) list (c ∷ []))
            ∙ append_assoc (map (check_seen vs cs) list) (check_seen vs cs c ∷ []) (left (i + 1)) ∙ ap (λ m. map (check_seen vs cs) list ++ (m ∷ left (i + 1))) e
            ∙ ap (λ l. map (check_seen vs cs) list ++ l) (sym step) ∙ h.seen;
        fits = subst (All (IsFitting vs copies)) (sym more) (All-push (IsFitting vs copies) list c h.fits fit);
        spelled = subst (All IsSpelledCheck) (sym more) (All-push IsSpelledCheck list c h.spelled spell);
        left = next-faultless view (check_faults signals by vs values) texts i x lt is faultless h.left;
      })

  pub all-checks : (i : ℕ) (list : List ModuleCheck) → length texts ≤ i → AreSoFar by vs cs copies signals values texts i list → map (check_seen vs cs) list ≡ map (def.module_check by vs values) (view_checks texts)
  all-checks i list le h =
      sym (append-nil (map (check_seen vs cs) list)) ∙ ap (λ ts. map (check_seen vs cs) list ++ map (def.module_check by vs values) (view_checks ts)) (sym (drop_all i texts le)) ∙ h.seen

-- each text is a check of the module
pub one-asked : (vs : List Variable) (copies : ModuleCopies) (texts : List (Bor code.Check)) (i : ℕ) (x : Bor code.Check) → i < length texts → x ≡ slice_index_or texts i x
    → (m : Module) × AllByRecursion (IsCheckOf m vs copies) (view_checks texts) → (m : Module) × IsCheckOf m vs copies (view x)
one-asked vs copies texts i x lt is (m, all) = (m, subst (λ y. IsCheckOf m vs copies (view y)) (sym is) (by texts i x lt all))
  where
    by : (xs : List (Bor code.Check)) (i : ℕ) (d : Bor code.Check) → i < length xs → AllByRecursion (IsCheckOf m vs copies) (view_checks xs) → IsCheckOf m vs copies (view (slice_index_or xs i d))
    by [] i d lt h = absurd (omega (arith, lt))
    by (y ∷ ys) zero d lt h = h.0
    by (y ∷ ys) (suc i) d lt h = by ys i d (omega (arith, lt)) h.1
