-- What the members of reached modules name stands ready.
use Rattle.std.specs.Prelude.{◌≡◌, ℕ, zero, suc, ◌+◌, ◌<◌, All, List, [], ◌∷◌, Some, length, map, slice_get, refl, ℤ, ◌≤ℤ◌}
use Rattle.std.specs.List.{enumerate_from}
use Rattle.std.specs.Option.{option_and_then}
use Rattle.std.proofs.Common.{sym, ap, arith, inl, inr, subst}
use Rattle.std.proofs.lemmas.Option.{slice_get_within}
use Rattle.std.proofs.lemmas.Slice.Eq.{bytes_eq-Decides}
use Rattle.sg_circuit.specs.declared.elements.UdpUse.{UdpUse}
use Rattle.vl_tree.specs.Tree.{Module, Part, Source, a_module, a_primitive}
use Rattle.elab_model.specs.Definitions.{definition_of, as_module}
use Rattle.elab_model.specs.Delays.{tick_of}
use Rattle.elab_model.specs.Hierarchy.{Step, Instance, Child, child_of, child_of_member, children_in, children_from, children_at, children, instances, top_instance, levels_below_top, size}
use Rattle.elab_model.specs.HierarchyFaults.{two_definitions}
use Rattle.elab_model.specs.Members.{Member, assignment, supply, gate, instance, path, check, members}
use Rattle.elab_laws.proofs.Lists.{In, all-in}
use Rattle.elab_laws.proofs.NoFaults.{child-there, all-from}
use Rattle.elab_variables.specs.Seen.{view_member}
use Rattle.elab_hierarchy.specs.declared.instances.Placed.{Placed}
use Rattle.elab_hierarchy.specs.Named.{place_of}
use Rattle.elab_hierarchy.specs.Placing.{ArePlaced, tree_faults}
use Rattle.elab_hierarchy.specs.Tops.{StandsAt}
use Rattle.elab_hierarchy.proofs.Apart.{same-name}
use Rattle.elab_hierarchy.proofs.FaultlessTree.{no-children_at_limit}
use Rattle.elab_hierarchy.proofs.Found.{place-first}
use Rattle.elab_modules.specs.declared.prepared.Prepared.{Prepared}
use Rattle.elab_modules.specs.declared.library.Ready.TheVariants as ready
use Rattle.elab_modules.specs.Ready.{IsPrepared, HasReady, MemberReady}
use Rattle.elab_modules.specs.Reaching.{IsModuleAt, IsUdpReady, HasMet}
use Rattle.elab_modules.specs.Checking.{AreNamed, AreInTicks}
use Rattle.elab_modules.proofs.Among.{in-kept, in-numbered}
use Rattle.elab_modules.proofs.Meeting.{places_of}
use Rattle.elab_laws.proofs.Precisions.{least-of_all}
use Rattle.elab_modules.proofs.Stocking.{Parts}

-- ---- instances and their places

-- an instance whose module stands at a place
pub record StandsIn (source : Source) (ss : List Instance) (i : ℕ) : Type 0 where
  pub instance : Instance
  pub there : In instance ss
  pub stands : StandsAt source i instance.step.definition

pub placed-in : (source : Source) (ps : List Placed) (ss : List Instance) (i : ℕ) → ArePlaced source ps ss → In i (places_of ps) → StandsIn source ss i
placed-in source [] ss i h k = absurd k
placed-in source (p ∷ ps) [] i h k = absurd h
placed-in source (p ∷ ps) (s ∷ ss) i h (inl e) = record { instance = s; there = inl refl; stands = subst (λ j. StandsAt source j s.step.definition) (sym e) h.0.definition }
placed-in source (p ∷ ps) (s ∷ ss) i h (inr k) = let r = placed-in source ps ss i h.1 k in record { instance = r.instance; there = inr r.there; stands = r.stands }

-- the place of an instance's module
pub record PlaceOf (source : Source) (ps : List Placed) (s : Instance) : Type 0 where
  pub place : ℕ
  pub there : In place (places_of ps)
  pub stands : StandsAt source place s.step.definition

pub place-of : (source : Source) (ps : List Placed) (ss : List Instance) (s : Instance) → ArePlaced source ps ss → In s ss → PlaceOf source ps s
place-of source ps [] s h k = absurd k
place-of source [] (t ∷ ts) s h k = absurd h
place-of source (p ∷ ps) (t ∷ ts) s h (inl e) =
    record { place = p.definition; there = inl refl; stands = subst (λ x. StandsAt source p.definition x.step.definition) (sym e) h.0.definition }
place-of source (p ∷ ps) (t ∷ ts) s h (inr k) = let r = place-of source ps ts s h.1 k in record { place = r.place; there = inr r.there; stands = r.stands }

pub places-within : (source : Source) (ps : List Placed) (ss : List Instance) → ArePlaced source ps ss → All (λ p. p.definition < length source) ps
places-within source [] ss h = λ k d lt. absurd (omega arith)
places-within source (p ∷ ps) [] h = absurd h
places-within source (p ∷ ps) (s ∷ ss) h = by (places-within source ps ss h.1)
  where
    by : All (λ q. q.definition < length source) ps → All (λ q. q.definition < length source) (p ∷ ps)
    by rest zero d lt = slice_get_within source p.definition (a_module s.step.definition) h.0.definition
    by rest (suc k) d lt = rest k d (omega arith)

pub module-same : (source : Source) (i : ℕ) (m n : Module) → StandsAt source i m → StandsAt source i n → m ≡ n
module-same source i m n e f = cc

-- the instances tell the top
pub one-top : (source : Source) (ps : List Placed) (m n : Module) → ArePlaced source ps (instances source m) → ArePlaced source ps (instances source n) → m ≡ n
one-top source [] m n h k = absurd h
one-top source (p ∷ ps) m n h k = module-same source p.definition m n h.0.definition k.0.definition

-- a module stands at one place
pub one-place : (source : Source) → two_definitions source ≡ [] → (i j : ℕ) (m : Module) → StandsAt source i m → StandsAt source j m → i ≡ j
one-place source once i j m at_i at_j = same-name source once i j (a_module m) (a_module m) at_i at_j ((bytes_eq-Decides m.name.text m.name.text).1 refl)

-- ---- an instance in a module

-- an instance directly in an instance, of a child's module
pub record HasChild (source : Source) (s : Instance) (m : Module) : Type 0 where
  pub instance : Instance
  pub there : In instance (children source s)
  pub is : instance.step.definition ≡ m

child-from : (source : Source) (levels : ℕ) (above : List Step) (next : ℕ) (cs : List Child) (c : Child) → In c cs
    → (t : Instance) × In t (children_from source levels above next cs) × (t.step.definition ≡ c.definition)
child-from source levels above next [] c h = absurd h
child-from source levels above next (d ∷ ds) c (inl e) = (_, inl refl, ap (λ x. x.definition) (sym e))
child-from source levels above next (d ∷ ds) c (inr h) = let r = child-from source levels above (next + size source levels d.definition) ds c h in (r.0, inr r.1, r.2)

child-at : (source : Source) (levels : ℕ) (s : Instance) (c : Child) → s.step.levels ≡ levels → In c (children_in source s.step.definition)
    → (s.step.levels ≡ 0 → children_in source s.step.definition ≡ []) → HasChild source s c.definition
child-at source zero s c l h none = absurd (subst (In c) (none l) h)
child-at source (suc levels) s c l h none =
    let r = child-from source levels (s.step ∷ s.above) (suc s.step.number) (children_in source s.step.definition) c h in
    record { instance = r.0; there = subst (λ n. In r.0 (children_at source n s)) (sym l) r.1; is = r.2 }

-- ---- the members of a reached module

-- what is known when all instances have been met
pub record AllMet (source : Source) (top : Module) (ps : List Placed) (parts : Parts) (udps : List UdpUse) : Type 0 where
  pub once : two_definitions source ≡ []
  pub are : ArePlaced source ps (instances source top)
  pub deep : tree_faults source top ≡ []
  pub met : HasMet source parts udps (places_of ps)

module-named : (source : Source) (top : Module) (ps : List Placed) (parts : Parts) (udps : List UdpUse) (s : Instance) (c : Child) (j : ℕ) → AllMet source top ps parts udps
    → In s (instances source top) → In c (children_in source s.step.definition) → StandsAt source j c.definition → HasReady parts j
module-named source top ps parts udps s c j h there below at =
    let r = child-at source s.step.levels s c refl below (no-children_at_limit source top s h.deep there) in
    let inside = child-there source levels_below_top (top_instance top) s r.instance refl there r.there in
    let p = place-of source ps (instances source top) r.instance h.are inside in
    let stands : StandsAt source p.place c.definition = subst (StandsAt source p.place) r.is p.stands in
    subst (HasReady parts) (one-place source h.once p.place j c.definition stands at) (h.met.there p.place c.definition p.there stands)

member-named : (source : Source) (top : Module) (ps : List Placed) (parts : Parts) (udps : List UdpUse) (s : Instance) (x : Member) → AllMet source top ps parts udps
    → In s (instances source top) → In x (members s.step.definition) → IsUdpReady source parts x → MemberReady source parts x
member-named source top ps parts udps s (assignment a) h there inside udp = tt
member-named source top ps parts udps s (supply n v) h there inside udp = tt
member-named source top ps parts udps s (gate g d i) h there inside udp = tt
member-named source top ps parts udps s (path p) h there inside udp = tt
member-named source top ps parts udps s (check c) h there inside udp = tt
member-named source top ps parts udps s (instance n d i) h there inside udp = λ j e. let f = place-first source n.text j e in by j e f.element f.there f.first
  where
    by : (j : ℕ) → place_of source n.text ≡ Some j → (q : Part) → slice_get source j ≡ Some q → definition_of source n.text ≡ Some q → HasReady parts j
    by j e (a_primitive p) at first = udp j p e at
    by j e (a_module m) at first =
        let num = in-numbered 0 (instance n d i) (members s.step.definition) inside in
        let child : Child = record { definition = m; member = num.0; place = i.place; name = i.name; connections = i.connections } in
        let gives : child_of_member source num.0 (instance n d i) ≡ Some child = ap (λ o. child_of (option_and_then as_module o) num.0 i) first in
        let below = in-kept (λ y. child_of_member source y.0 y.1) (num.0, instance n d i) child (enumerate_from 0 (members s.step.definition)) num.1 gives in
        module-named source top ps parts udps s child j h there below at

-- the instance that a ready module is of
pub record OfInstance (source : Source) (ss : List Instance) (i : ℕ) (p : Prepared) : Type 0 where
  pub instance : Instance
  pub there : In instance ss
  pub stands : StandsAt source i instance.step.definition
  pub prepared : IsPrepared p instance.step.definition

pub of-instance : (source : Source) (ss : List Instance) (ps : List Placed) (parts : Parts) (udps : List UdpUse) (i : ℕ) (p : Prepared) → ArePlaced source ps ss
    → HasMet source parts udps (places_of ps) → IsModuleAt parts i p → OfInstance source ss i p
of-instance source ss ps parts udps i p are h e =
    let r = h.stock.ready.1 i (Some (ready.Module p)) e in
    let w = placed-in source ps ss i are (h.only i p e) in
    record { instance = w.instance; there = w.there; stands = w.stands; prepared = subst (IsPrepared p) (module-same source i r.0 w.instance.step.definition r.1 w.stands) r.2 }

pub all-named : (source : Source) (top : Module) (ps : List Placed) (parts : Parts) (udps : List UdpUse) → AllMet source top ps parts udps → AreNamed source parts
all-named source top ps parts udps h i p e =
    let w = of-instance source (instances source top) ps parts udps i p h.are h.met e in
    all-from (MemberReady source parts) (map view_member p.members.items) (λ x k.
    member-named source top ps parts udps w.instance x h w.there (subst (In x) w.prepared.members k) (all-in (IsUdpReady source parts) x (map view_member p.members.items) (h.met.named i p e) k))

pub all-in_ticks : (source : Source) (top : Module) (ps : List Placed) (parts : Parts) (udps : List UdpUse) (tick : ℤ) → ArePlaced source ps (instances source top)
    → HasMet source parts udps (places_of ps) → tick ≡ tick_of source top → AreInTicks tick parts
all-in_ticks source top ps parts udps tick are h e i p at =
    let w = of-instance source (instances source top) ps parts udps i p are h at in
    subst (λ m. tick ≤ℤ m.settings.scale.precision) (sym w.prepared.definition)
    (subst (λ t. t ≤ℤ w.instance.step.definition.settings.scale.precision) (sym e) (least-of_all top.settings.scale.precision w.instance (instances source top) w.there))
