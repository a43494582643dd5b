-- The instances stand at their numbers, in the definition's list and in the code's.
use Rattle.std.specs.Prelude.{◌≡◌, ℕ, zero, suc, ◌+◌, ◌<◌, ◌==◌, List, [], ◌∷◌, ◌++◌, Some, length, map, slice_get, sum_by, refl}
use Rattle.std.specs.List.{range_with_len}
use Rattle.std.proofs.Common.{sym, ◌∙◌, ap, arith, inl, inr, subst}
use Rattle.std.proofs.lemmas.Bool.{eq-eqb}
use Rattle.std.proofs.lemmas.Bool.Decides.{nat_tests}
use Rattle.std.proofs.lemmas.List.Sums.{sum_by-cons}
use Rattle.vl_tree.specs.Tree.{Module, Source}
use Rattle.elab_model.specs.Hierarchy.{Step, Instance, Child, children_in, size, instances, is_empty, has_no_child}
use Rattle.elab_laws.proofs.Lists.{In}
use Rattle.elab_laws.proofs.Numbers.{number}
use Rattle.elab_laws.proofs.Stated.{instances-have_places}
use Rattle.elab_hierarchy.specs.declared.instances.Placed.{Placed}
use Rattle.elab_hierarchy.specs.Placing.{IsPlaced, ArePlaced}

abbrev first : List ℕ → ℕ
first [] = 0
first (n ∷ ns) = n

abbrev rest : List ℕ → List ℕ
rest [] = []
rest (n ∷ ns) = ns

place-of : (a : ℕ) (xs : List Instance) (c : Instance) → map number xs ≡ range_with_len a (length xs) → In c xs → (j : ℕ) × (c.step.number ≡ a + j) × (slice_get xs j ≡ Some c)
place-of a [] c e h = absurd h
place-of a (x ∷ xs) c e (inl h) = let n : x.step.number ≡ a = ap first e in let m : c.step.number ≡ x.step.number = ap number h in (0, omega arith, ap (λ y. Some y) (sym h))
place-of a (x ∷ xs) c e (inr h) =
    let r = place-of (a + 1) xs c (ap rest e) h in
    let n : c.step.number ≡ (a + 1) + r.0 = r.1 in
    (suc r.0, omega arith, r.2)

-- an instance stands at its number
pub at-number : (source : Source) (top : Module) (c : Instance) → In c (instances source top) → slice_get (instances source top) c.step.number ≡ Some c
at-number source top c h =
    let r = place-of 0 (instances source top) c (instances-have_places source top) h in
    let n : c.step.number ≡ 0 + r.0 = r.1 in
    let m : c.step.number ≡ r.0 = omega arith in
    ap (slice_get (instances source top)) m ∙ r.2

-- and so two of one number are one
pub same-instance : (source : Source) (top : Module) (c t : Instance) → In c (instances source top) → In t (instances source top) → c.step.number ≡ t.step.number → c ≡ t
same-instance source top c t h k e =
    let a : slice_get (instances source top) c.step.number ≡ Some c = at-number source top c h in
    let b : slice_get (instances source top) c.step.number ≡ Some t = ap (slice_get (instances source top)) e ∙ at-number source top t k in
    let f : Some c ≡ Some t = sym a ∙ b in
    cc

numbers-split : (a : ℕ) (xs ys : List Instance) (s : Instance) → map number (xs ++ s ∷ ys) ≡ range_with_len a (length (xs ++ s ∷ ys)) → s.step.number ≡ a + length xs
numbers-split a [] ys s e = let n : s.step.number ≡ a = ap first e in omega arith
numbers-split a (x ∷ xs) ys s e = let n : s.step.number ≡ (a + 1) + length xs = numbers-split (a + 1) xs ys s (ap rest e) in omega arith

-- as many instances stand before one as its number says
pub number-is : (source : Source) (top : Module) (before after : List Instance) (s : Instance) → instances source top ≡ before ++ s ∷ after → s.step.number ≡ length before
number-is source top before after s e =
    let n : s.step.number ≡ 0 + length before = numbers-split 0 before after s (subst (λ xs. map number xs ≡ range_with_len 0 (length xs)) e (instances-have_places source top)) in
    omega arith

pub in-split : (before after : List Instance) (s : Instance) → In s (before ++ s ∷ after)
in-split [] after s = inl refl
in-split (x ∷ xs) after s = inr (in-split xs after s)

pub is-there : (source : Source) (top : Module) (before after : List Instance) (s : Instance) → instances source top ≡ before ++ s ∷ after → In s (instances source top)
is-there source top before after s e = subst (In s) (sym e) (in-split before after s)

-- ---- in the code's list

pub placed-at : (source : Source) (placed : List Placed) (xs : List Instance) → ArePlaced source placed xs → (j : ℕ) (c : Instance) → slice_get xs j ≡ Some c → (p : Placed) × (slice_get placed j ≡ Some p) × IsPlaced source p c
placed-at source [] [] h j c e = cc
placed-at source [] (x ∷ xs) h j c e = absurd h
placed-at source (p ∷ ps) [] h j c e = absurd h
placed-at source (p ∷ ps) (x ∷ xs) h zero c e = let f : x ≡ c = cc in (p, refl, subst (IsPlaced source p) f h.0)
placed-at source (p ∷ ps) (x ∷ xs) h (suc j) c e = placed-at source ps xs h.1 j c e

pub placed-count : (source : Source) (placed : List Placed) (xs : List Instance) → ArePlaced source placed xs → length placed ≡ length xs
placed-count source [] [] h = refl
placed-count source [] (x ∷ xs) h = absurd h
placed-count source (p ∷ ps) [] h = absurd h
placed-count source (p ∷ ps) (x ∷ xs) h = ap suc (placed-count source ps xs h.1)

-- ---- leaves

some-size : (source : Source) (d : ℕ) (m : Module) → 0 < size source d m
some-size source zero m = omega arith
some-size source (suc d) m = omega arith

counted : (source : Source) (d n : ℕ) (cs : List Child) → (n + suc (sum_by (λ c. size source d c.definition) cs) == n + 1) ≡ is_empty cs
counted source d n [] = let e : n + suc 0 ≡ n + 1 = omega arith in eq-eqb (n + suc 0) (n + 1) e
counted source d n (c ∷ cs) =
    let s : sum_by (λ c. size source d c.definition) (c ∷ cs) ≡ size source d c.definition + sum_by (λ c. size source d c.definition) cs = sum_by-cons (λ c. size source d c.definition) c cs in
    let l : 0 < size source d c.definition = some-size source d c.definition in
    grind (arith, nat_tests)

-- an instance has no child where the number behind it is the next
pub lone-is : (source : Source) (s : Step) (last : ℕ) → (s.levels ≡ 0 → children_in source s.definition ≡ []) → last ≡ s.number + size source s.levels s.definition → (last == s.number + 1) ≡ has_no_child source s
lone-is source s last none e = ap (λ k. k == s.number + 1) e ∙ by s.levels refl
  where
    by : (d : ℕ) → s.levels ≡ d → (s.number + size source d s.definition == s.number + 1) ≡ has_no_child source s
    by zero z = eq-eqb (s.number + 1) (s.number + 1) refl ∙ ap is_empty (sym (none z))
    by (suc d) z = counted source d s.number (children_in source s.definition)
