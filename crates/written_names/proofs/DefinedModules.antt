-- What is so of each module of a tree is so of the top's, and of each instance's.
use Rattle.std.specs.Prelude.{◌≡◌, ℕ, zero, suc, ◌+◌, ◌&&◌, not, Bool, true, false, IfSome, List, [], ◌∷◌, bytes_eq, find, if◌then◌else◌, Option, Some, None, Result, Ok, Err}
use Rattle.std.specs.List.{AllByRecursion, enumerate_from}
use Rattle.std.specs.Option.{option_and_then}
use Rattle.std.proofs.Common.{subst}
use Rattle.vl_tree.specs.Tree.{Module, Part, Source, a_module, a_primitive}
use Rattle.elab_model.specs.Definitions.{as_module, definition_of, module_of, name_of}
use Rattle.elab_model.specs.Hierarchy.{Child, Instance, Step, child_of, child_of_member, children_at, children_from, children_in, instances, instances_from, levels_below_top, size, top_instance}
use Rattle.elab_model.specs.Members.{Member, assignment, check, gate, instance, members, path, supply}
use Rattle.elab_model.specs.Tops.{candidates, has_instance, modules, only_one, or_no_top, top_of}
use Rattle.elab_model.specs.declared.kinds.ElabKind.{ElabKind}
use Rattle.elab_laws.proofs.Filters.{all-filter}
use Rattle.elab_laws.proofs.Lists.{all-anyway, all-flat_in, all-weaker}
use Rattle.elab_laws.proofs.Once.{all-kept}

module _ (P : Module → Type 0) where
  abbrev pub OfPart : Part → Type 0
  OfPart (a_module m) = P m
  OfPart (a_primitive p) = Unit {0}

  module_is : (p : Part) → OfPart p → IfSome (as_module p) P
  module_is (a_module m) h = h
  module_is (a_primitive p) h = tt

  found : (test : Part → Bool) (ps : List Part) → AllByRecursion OfPart ps → IfSome (find test ps) OfPart
  found test [] h = tt
  found test (p ∷ ps) h = by (test p) (found test ps h.1)
    where
      by : (b : Bool) → IfSome (find test ps) OfPart → IfSome (if b then Some p else find test ps) OfPart
      by true k = h.0
      by false k = k

  named : (source : Source) → AllByRecursion OfPart source → (n : List ℕ) → IfSome (module_of source n) P
  named source h n = by (definition_of source n) (found (λ d. bytes_eq n (name_of d).text) source h)
    where
      by : (o : Option Part) → IfSome o OfPart → IfSome (option_and_then as_module o) P
      by None k = tt
      by (Some p) k = module_is p k

  -- ---- the top

  abbrev IfTop : Result Module ElabKind → Type 0
  IfTop (Ok m) = P m
  IfTop (Err k) = Unit {0}

  only : (ms : List Module) → AllByRecursion P ms → IfTop (only_one ms)
  only [] h = tt
  only (m ∷ []) h = h.0
  only (m ∷ n ∷ ms) h = tt

  given : (o : Option Module) → IfSome o P → IfTop (or_no_top o)
  given None h = tt
  given (Some m) h = h

  of_top : (source : Source) → AllByRecursion OfPart source → (name : Option (List ℕ)) → IfTop (top_of source name)
  of_top source h None =
      only (candidates source)
      (all-filter P (λ m. not m.settings.cell && not (has_instance source m.name.text)) (modules source)
      (all-kept P as_module source (all-weaker OfPart (λ p. (m : Module) → as_module p ≡ Some m → P m) source (λ p k m e. subst (λ o. IfSome o P) e (module_is p k)) h)))
  of_top source h (Some n) = given (module_of source n) (named source h n)

  pub top_is : (source : Source) → AllByRecursion OfPart source → (name : Option (List ℕ)) (top : Module) → top_of source name ≡ Ok top → P top
  top_is source h name top e = subst IfTop e (of_top source h name)

  -- ---- instances

  child_is : (source : Source) → AllByRecursion OfPart source → (k : ℕ) (m : Member) (c : Child) → child_of_member source k m ≡ Some c → P c.definition
  child_is source h k (assignment j) c e = absurd cc
  child_is source h k (supply n v) c e = absurd cc
  child_is source h k (gate g d i) c e = absurd cc
  child_is source h k (path p) c e = absurd cc
  child_is source h k (check t) c e = absurd cc
  child_is source h k (instance n d i) c e = by (module_of source n.text) (named source h n.text) e
    where
      by : (o : Option Module) → IfSome o P → child_of o k i ≡ Some c → P c.definition
      by None q e = absurd cc
      by (Some m) q e = subst (λ o. IfSome o (λ x. P x.definition)) e q

  children_are : (source : Source) → AllByRecursion OfPart source → (m : Module) → AllByRecursion (λ c. P c.definition) (children_in source m)
  children_are source h m =
      all-kept (λ (c : Child). P c.definition) (λ i. child_of_member source i.0 i.1) (enumerate_from 0 (members m))
      (all-anyway (λ i. (c : Child) → child_of_member source i.0 i.1 ≡ Some c → P c.definition) (enumerate_from 0 (members m)) (λ i c e. child_is source h i.0 i.1 c e))

  abbrev OfInstance : Instance → Type 0
  OfInstance s = P s.step.definition

  from_children : (source : Source) (levels : ℕ) (above : List Step) (next : ℕ) (cs : List Child) → AllByRecursion (λ c. P c.definition) cs → AllByRecursion OfInstance (children_from source levels above next cs)
  from_children source levels above next [] h = tt
  from_children source levels above next (c ∷ cs) h = (h.0, from_children source levels above (next + size source levels c.definition) cs h.1)

  below : (source : Source) → AllByRecursion OfPart source → (levels : ℕ) (s : Instance) → OfInstance s → AllByRecursion OfInstance (instances_from source levels s)
  below source h zero s k = (k, tt)
  below source h (suc levels) s k = (
    k,
    all-flat_in OfInstance (instances_from source levels) (children_at source (suc levels) s)
        (all-weaker OfInstance (λ c. AllByRecursion OfInstance (instances_from source levels c)) (children_at source (suc levels) s) (λ c q. below source h levels c q)
        (from_children source levels (s.step ∷ s.above) (suc s.step.number) (children_in source s.step.definition) (children_are source h s.step.definition))),
  )

  pub instances_are : (source : Source) → AllByRecursion OfPart source → (top : Module) → P top → AllByRecursion (λ s. P s.step.definition) (instances source top)
  instances_are source h top k = below source h levels_below_top (top_instance top) k
