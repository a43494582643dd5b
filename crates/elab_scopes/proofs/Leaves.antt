-- An instance is a leaf where the next instance isn't in it.
use Rattle.std.specs.Prelude.{◌≡◌, ℕ, zero, suc, ◌+◌, ◌==◌, List, [], ◌∷◌, Bool, true, false, ◌&&◌, not, is_some, refl, sum_by, if◌then◌else◌}
use Rattle.std.proofs.Common.{sym, ◌∙◌, ap, arith}
use Rattle.std.proofs.lemmas.Bool.{eq-eqb, eqb-true}
use Rattle.std.proofs.lemmas.List.Sums.{sum_by-cons}
use Rattle.vl_tree.specs.Tree.{Module, Source}
use Rattle.elab_model.specs.Hierarchy.{Step, Instance, Child, children_in, size, is_empty, has_no_child, is_leaf}
use Rattle.elab_model.specs.HierarchyFaults.{past_limit}
use Rattle.elab_model.specs.Scopes.{parent_of}
use Rattle.elab_hierarchy.specs.declared.instances.Placed.{Placed}
use Rattle.elab_hierarchy.specs.Placing.{IsPlaced}

sized : (source : Source) (levels : ℕ) (m : Module) → (k : ℕ) × (size source levels m ≡ suc k)
sized source zero m = (0, refl)
sized source (suc levels) m = (sum_by (λ c. size source levels c.definition) (children_in source m), refl)

-- it alone
alone : (n size_is : ℕ) (cs : List Child) (source : Source) (levels : ℕ) → size_is ≡ suc (sum_by (λ c. size source levels c.definition) cs) → (n + size_is == n + 1) ≡ is_empty cs
alone n k [] source levels e = eq-eqb (n + k) (n + 1) (ap (λ j. n + j) e)
alone n k (c ∷ cs) source levels e =
    let (j, f) = sized source levels c.definition in
    let more : sum_by (λ d. size source levels d.definition) (c ∷ cs) ≡ size source levels c.definition + sum_by (λ d. size source levels d.definition) cs =
    sum_by-cons (λ d. size source levels d.definition) c cs in
    differ (n + k == n + 1) refl (λ t. let q : n + k ≡ n + 1 = eqb-true (n + k) (n + 1) t in omega (arith, q, e, f, more))
  where
    differ : (b : Bool) → (n + k == n + 1) ≡ b → ((n + k == n + 1) ≡ true → ⊥) → (n + k == n + 1) ≡ false
    differ true t h = absurd (h t)
    differ false t h = t

lowest : (source : Source) (s : Instance) → s.step.levels ≡ 0 → past_limit source s ≡ [] → children_in source s.step.definition ≡ []
lowest source s e t = sym (ap (λ k. if k == 0 then children_in source s.step.definition else []) e) ∙ t

pub alone-is : (source : Source) (s : Instance) → past_limit source s ≡ [] → (s.step.number + size source s.step.levels s.step.definition == s.step.number + 1) ≡ has_no_child source s.step
alone-is source s t = by s.step.levels refl
  where
    by : (levels : ℕ) → s.step.levels ≡ levels → (s.step.number + size source s.step.levels s.step.definition == s.step.number + 1) ≡ has_no_child source s.step
    by zero e =
        let none : children_in source s.step.definition ≡ [] = lowest source s e t in
        eq-eqb (s.step.number + size source s.step.levels s.step.definition) (s.step.number + 1) (ap (λ k. s.step.number + size source k s.step.definition) e) ∙ sym (ap is_empty none)
    by (suc levels) e =
        alone s.step.number (size source s.step.levels s.step.definition) (children_in source s.step.definition) source levels (ap (λ k. size source k s.step.definition) e)

-- one that has a parent
pub leaf-below : (source : Source) (p : Placed) (s : Instance) (number : ℕ) → IsPlaced source p s → number ≡ s.step.number → past_limit source s ≡ [] → is_some p.parent ≡ true
    → (p.end == number + 1) ≡ is_leaf source s
leaf-below source p s number h n t e =
    ap (λ k. k == number + 1) h.end ∙ ap (λ k. s.step.number + size source s.step.levels s.step.definition == k + 1) n ∙ alone-is source s t
    ∙ below s.above refl
  where
    below : (above : List Step) → s.above ≡ above → has_no_child source s.step ≡ is_leaf source s
    below [] w = let f : false ≡ true = sym (ap (λ over. is_some (parent_of over)) w) ∙ sym (ap is_some h.parent) ∙ e in cc
    below (a ∷ above) w = sym (ap (λ over. not (is_empty over) && has_no_child source s.step) w)

-- the top
pub leaf-top : (source : Source) (p : Placed) (s : Instance) → IsPlaced source p s → is_some p.parent ≡ false → false ≡ is_leaf source s
leaf-top source p s h e = top s.above refl
  where
    top : (above : List Step) → s.above ≡ above → false ≡ is_leaf source s
    top [] w = sym (ap (λ over. not (is_empty over) && has_no_child source s.step) w)
    top (a ∷ above) w = let f : false ≡ true = sym e ∙ ap is_some h.parent ∙ ap (λ over. is_some (parent_of over)) w in cc
