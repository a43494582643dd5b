-- Instances have names of their own among those of one instance, and all but the top lie in one.
use Rattle.std.specs.Prelude.{◌≡◌, ◌⊎◌, ℕ, zero, suc, ◌+◌, ◌<◌, ℤ, true, false, IfSome, IsSome, List, [], ◌∷◌, ◌++◌, bytes_eq, filter_map, flat_map, Option, Some, None, slice_get, refl}
use Rattle.std.specs.List.{AllByRecursion, cons_option, enumerate_from}
use Rattle.std.specs.Option.{option_and_then}
use Rattle.std.proofs.Common.{sym, ◌∙◌, ap, subst, arith, inl, inr}
use Rattle.std.proofs.lemmas.Slice.Eq.{bytes_eq-Decides}
use Rattle.sg_delay.specs.declared.corners.Corner.{Corner}
use Rattle.vl_tree.specs.Tree.{Module, Named, Source}
use Rattle.elab_model.specs.Definitions.{as_module, definition_of}
use Rattle.elab_model.specs.Delays.{tick_of}
use Rattle.elab_model.specs.Faults.{fault, places_again}
use Rattle.elab_model.specs.Hierarchy.{Child, Instance, Step, child_of, child_of_member, children, children_at, children_from, children_in, instances, levels_below_top, size, text_of, top_instance}
use Rattle.elab_model.specs.Members.{Member, assignment, check, gate, instance, members, path, supply}
use Rattle.elab_model.specs.ModuleFaults.{all_member_faults, module_faults}
use Rattle.elab_model.specs.NameFaults.{declaration_faults, instance_name, instance_names, name_faults, no_direction, no_port, too_wide, twice_in_list, two_directions, two_instances, two_nets, two_ranges}
use Rattle.elab_model.specs.Scopes.{parent_of}
use Rattle.elab_model.specs.declared.kinds.ElabKind.TheVariants.{DuplicateName}
use Rattle.elab_laws.proofs.Lists.{In, Pairwise, all-anyway, all-in}
use Rattle.elab_laws.proofs.NoFaults.{IsFaultless, flat-empty, front, map-empty}
use Rattle.elab_laws.proofs.Numbers.{number}
use Rattle.elab_laws.proofs.Once.{none-twice}
use Rattle.elab_laws.proofs.Parents.{HasParent, has-parent}
use Rattle.elab_laws.proofs.Stated.{instances-have_places}
use Rattle.elab_closed.proofs.Places.{counted-at, in-place}

-- ---- lists whose elements differ pairwise

one-or-apart : {A : Type 0} (R : A → A → Type 0) (xs : List A) (x y : A) → Pairwise R xs → In x xs → In y xs → (x ≡ y) ⊎ (R x y ⊎ R y x)
one-or-apart R [] x y h a b = absurd a
one-or-apart R (z ∷ zs) x y h (inl a) (inl b) = inl (a ∙ sym b)
one-or-apart R (z ∷ zs) x y h (inl a) (inr b) = inr (inl (subst (λ w. R w y) (sym a) (all-in (R z) y zs h.0 b)))
one-or-apart R (z ∷ zs) x y h (inr a) (inl b) = inr (inr (subst (λ w. R w x) (sym b) (all-in (R z) x zs h.0 a)))
one-or-apart R (z ∷ zs) x y h (inr a) (inr b) = one-or-apart R zs x y h.1 a b

-- ---- the names of a module's instances

abbrev Differ : Named → Named → Type 0
Differ a b = bytes_eq a.text b.text ≡ false

two-apart : (m : Module) → declaration_faults m ≡ [] → Pairwise Differ (instance_names m)
two-apart m h =
    let each = flat-empty (λ fs. fs) (twice_in_list m ∷ two_directions m ∷ two_nets m ∷ two_instances m ∷ no_port m ∷ no_direction m ∷ []) (front (name_faults m) (two_ranges m ++ too_wide m) h) in
    (none-twice [] (instance_names m) (map-empty (fault DuplicateName) (places_again [] (instance_names m)) each.1.1.1.0)).apart

-- a child has the name of its member
same-name : (source : Source) (k : ℕ) (p : Member) (y : Child) → child_of_member source k p ≡ Some y → y.name ≡ instance_name p
same-name source k (assignment j) y e = absurd cc
same-name source k (supply n v) y e = absurd cc
same-name source k (gate g d i) y e = absurd cc
same-name source k (path p) y e = absurd cc
same-name source k (check t) y e = absurd cc
same-name source k (instance n d i) y e = by (option_and_then as_module (definition_of source n.text)) e
  where
    by : (o : Option Module) → child_of o k i ≡ Some y → y.name ≡ i.name
    by None e = absurd cc
    by (Some m) e = subst (λ o. IfSome o (λ x. x.name ≡ i.name)) e refl

abbrev IsOther : Named → Child → Type 0
IsOther n c = IfSome c.name (Differ n)

abbrev AreOthers : Child → Child → Type 0
AreOthers c d = IfSome c.name (λ n. IsOther n d)

all-others : (source : Source) (n : Named) (k : ℕ) (ps : List Member) → AllByRecursion (Differ n) (filter_map instance_name ps) → AllByRecursion (IsOther n) (filter_map (λ i. child_of_member source i.0 i.1) (enumerate_from k ps))
all-others source n k [] h = tt
all-others source n k (p ∷ ps) h = by (child_of_member source k p) refl (all-others source n (k + 1) ps (later (instance_name p) h))
  where
    cs : List Child
    cs = filter_map (λ i. child_of_member source i.0 i.1) (enumerate_from (k + 1) ps)

    named : (o : Option Named) → AllByRecursion (Differ n) (cons_option o (filter_map instance_name ps)) → IfSome o (Differ n)
    named None h = tt
    named (Some x) h = h.0

    later : (o : Option Named) → AllByRecursion (Differ n) (cons_option o (filter_map instance_name ps)) → AllByRecursion (Differ n) (filter_map instance_name ps)
    later None h = h
    later (Some x) h = h.1

    by : (o : Option Child) → child_of_member source k p ≡ o → AllByRecursion (IsOther n) cs → AllByRecursion (IsOther n) (cons_option o cs)
    by None e rest = rest
    by (Some y) e rest = (subst (λ o. IfSome o (Differ n)) (sym (same-name source k p y e)) (named (instance_name p) h), rest)

others-apart : (source : Source) (k : ℕ) (ps : List Member) → Pairwise Differ (filter_map instance_name ps) → Pairwise AreOthers (filter_map (λ i. child_of_member source i.0 i.1) (enumerate_from k ps))
others-apart source k [] h = tt
others-apart source k (p ∷ ps) h = by (child_of_member source k p) refl (others-apart source (k + 1) ps (later (instance_name p) h))
  where
    cs : List Child
    cs = filter_map (λ i. child_of_member source i.0 i.1) (enumerate_from (k + 1) ps)

    named : (o : Option Named) → Pairwise Differ (cons_option o (filter_map instance_name ps)) → AllByRecursion (λ d. IfSome o (λ n. IsOther n d)) cs
    named None h = all-anyway (λ d. Unit {0}) cs (λ d. tt)
    named (Some n) h = all-others source n (k + 1) ps h.0

    later : (o : Option Named) → Pairwise Differ (cons_option o (filter_map instance_name ps)) → Pairwise Differ (filter_map instance_name ps)
    later None h = h
    later (Some x) h = h.1

    by : (o : Option Child) → child_of_member source k p ≡ o → Pairwise AreOthers cs → Pairwise AreOthers (cons_option o cs)
    by None e rest = rest
    by (Some y) e rest = (subst (λ o. AllByRecursion (λ d. IfSome o (λ n. IsOther n d)) cs) (sym (same-name source k p y e)) (named (instance_name p) h), rest)

pub children-others : (source : Source) (c : Corner) (tick : ℤ) (m : Module) → module_faults source c tick m ≡ [] → Pairwise AreOthers (children_in source m)
children-others source c tick m h = others-apart source 0 (members m) (two-apart m (front (declaration_faults m) (flat_map (all_member_faults source c tick m) (members m)) h))

-- ---- instances in one

abbrev pub AreNamedApart : Instance → Instance → Type 0
AreNamedApart x y = bytes_eq x.step.name y.step.name ≡ false

-- where each has a name
abbrev pub HasName : Child → Type 0
HasName c = IsSome c.name

text-apart : (c d : Child) → HasName c → HasName d → AreOthers c d → bytes_eq (text_of c.name) (text_of d.name) ≡ false
text-apart c d h k e = by c.name d.name h k e
  where
    by : (o p : Option Named) → IsSome o → IsSome p → IfSome o (λ n. IfSome p (Differ n)) → bytes_eq (text_of o) (text_of p) ≡ false
    by None p h k e = absurd cc
    by (Some n) None h k e = absurd cc
    by (Some n) (Some m) h k e = e

from-others : (source : Source) (levels : ℕ) (above : List Step) (c : Child) (x : Instance) (next : ℕ) (cs : List Child) → x.step.name ≡ text_of c.name → HasName c → AllByRecursion HasName cs → AllByRecursion (AreOthers c) cs
    → AllByRecursion (AreNamedApart x) (children_from source levels above next cs)
from-others source levels above c x next [] e h k o = tt
from-others source levels above c x next (d ∷ ds) e h k o =
    (subst (λ n. bytes_eq n (text_of d.name) ≡ false) (sym e) (text-apart c d h k.0 o.0), from-others source levels above c x (next + size source levels d.definition) ds e h k.1 o.1)

from-apart : (source : Source) (levels : ℕ) (above : List Step) (next : ℕ) (cs : List Child) → AllByRecursion HasName cs → Pairwise AreOthers cs → Pairwise AreNamedApart (children_from source levels above next cs)
from-apart source levels above next [] h k = tt
from-apart source levels above next (c ∷ cs) h k =
    (from-others source levels above c (record { step = record { definition = c.definition; name = text_of c.name; place = c.place; member = c.member; connections = c.connections; number = next; levels = levels }; above = above }) (next + size source levels c.definition) cs refl h.0 h.1 k.0, from-apart source levels above (next + size source levels c.definition) cs h.1 k.1)

at-apart : (source : Source) (levels : ℕ) (s : Instance) → AllByRecursion HasName (children_in source s.step.definition) → Pairwise AreOthers (children_in source s.step.definition) → Pairwise AreNamedApart (children_at source levels s)
at-apart source zero s h k = tt
at-apart source (suc levels) s h k = from-apart source levels (s.step ∷ s.above) (suc s.step.number) (children_in source s.step.definition) h k

-- ---- numbers tell instances apart

some-one : {A : Type 0} {x y : A} → ◌≡◌ {A = Option A} (Some x) (Some y) → x ≡ y
some-one e = cc

pub one-number : (source : Source) (top : Module) (x y : Instance) → In x (instances source top) → In y (instances source top) → number x ≡ number y → x ≡ y
one-number source top x y h k e =
    let xs = instances source top in
    let i = in-place x xs h in
    let j = in-place y xs k in
    let a : number x ≡ i.0 = counted-at number xs i.0 x (instances-have_places source top) i.1 in
    let b : number y ≡ j.0 = counted-at number xs j.0 y (instances-have_places source top) j.1 in
    some-one (sym i.1 ∙ (ap (slice_get xs) (sym a ∙ (e ∙ b)) ∙ j.1))

-- ---- siblings

parent-some : (p : Step) (above : List Step) (o : List Step) → o ≡ p ∷ above → parent_of o ≡ Some p.number
parent-some p above o e = ap parent_of e

top-or-below : (source : Source) (top : Module) (x : Instance) → In x (instances source top) → (x ≡ top_instance top) ⊎ HasParent source (instances source top) x
top-or-below source top x h = has-parent source levels_below_top (top_instance top) x refl h

names-differ : (x y : List ℕ) → bytes_eq x y ≡ false → x ≡ y → ⊥
names-differ x y h e = (let q : true ≡ false = sym ((bytes_eq-Decides x y).1 e) ∙ h in cc)

pub siblings-one : (source : Source) (top : Module) (corner : Corner) → AllByRecursion (IsFaultless source top corner) (instances source top) → ((s : Instance) → In s (instances source top) → AllByRecursion HasName (children_in source s.step.definition))
    → (x y : Instance) → In x (instances source top) → In y (instances source top) → parent_of x.above ≡ parent_of y.above → x.step.name ≡ y.step.name → x ≡ y
siblings-one source top corner faultless named x y h k e n = by (top-or-below source top x h) (top-or-below source top y k)
  where
    Below : Instance → Type 0
    Below = HasParent source (instances source top)

    both : Below x → Below y → x ≡ y
    both p q = apart (one-or-apart AreNamedApart (children source p.parent) x y children-apart p.child (subst (λ s. In y (children source s)) (sym same) q.child))
      where
        numbers : number p.parent ≡ number q.parent
        numbers = some-one (sym (ap parent_of p.above) ∙ (e ∙ ap parent_of q.above))

        same : p.parent ≡ q.parent
        same = one-number source top p.parent q.parent p.there q.there numbers

        children-apart : Pairwise AreNamedApart (children source p.parent)
        children-apart =
            at-apart source p.parent.step.levels p.parent (named p.parent p.there)
            (children-others source corner (tick_of source top) p.parent.step.definition (all-in (IsFaultless source top corner) p.parent (instances source top) faultless p.there))

        apart : (x ≡ y) ⊎ (AreNamedApart x y ⊎ AreNamedApart y x) → x ≡ y
        apart (inl r) = r
        apart (inr (inl r)) = absurd (names-differ x.step.name y.step.name r n)
        apart (inr (inr r)) = absurd (names-differ y.step.name x.step.name r (sym n))

    none-some : (z : Instance) → Below z → parent_of z.above ≡ None → ⊥
    none-some z p q = (let r : Some p.parent.step.number ≡ None = sym (ap parent_of p.above) ∙ q in cc)

    by : (x ≡ top_instance top) ⊎ Below x → (y ≡ top_instance top) ⊎ Below y → x ≡ y
    by (inl a) (inl b) = a ∙ sym b
    by (inl a) (inr q) = absurd (none-some y q (sym e ∙ ap (λ (z : Instance). parent_of z.above) a))
    by (inr p) (inl b) = absurd (none-some x p (e ∙ ap (λ (z : Instance). parent_of z.above) b))
    by (inr p) (inr q) = both p q

-- each but the top lies in an instance
pub other-below : (source : Source) (top : Module) (x : Instance) → In x (instances source top) → 0 < number x → IsSome (parent_of x.above)
other-below source top x h l = elim (top-or-below source top x h) [
  | inl e ↦ absurd (let q : number x ≡ 0 = ap number e in omega arith)
  | inr p ↦ subst (λ o. IsSome o) (sym (ap parent_of p.above)) refl
]
