-- All that a top reaches stands ready, or one of its faults is refused.
use Rattle.std.specs.Prelude.{◌≡◌, ℕ, List, [], ◌∷◌, ◌++◌, Option, Some, None, Ok, length, flat_map, filter_map, map, option_map, slice_get, refl, bytes_eq, ℤ}
use Rattle.std.specs.List.{AllByRecursion, IsAmong}
use Rattle.std.proofs.Common.{◌∙◌, ap, inl, inr, subst}
use Rattle.std.proofs.lemmas.Option.{slice_get_within}
use Rattle.sg_circuit.specs.declared.elements.UdpUse.{UdpUse}
use Rattle.sg_delay.specs.declared.corners.Corner.{Corner}
use Rattle.sg_text.specs.declared.refusals.Refused.{Refused}
use Rattle.sg_text.specs.declared.refusals.Refused.TheVariants as refused
use Rattle.vl_tree.specs.Tree.{Module, Primitive, Part, Source, a_primitive}
use Rattle.elab_model.specs.declared.kinds.ElabKind.{ElabKind}
use Rattle.elab_model.specs.Definitions.{name_of, definition_of}
use Rattle.elab_model.specs.Delays.{tick_of}
use Rattle.elab_model.specs.PrimitiveFaults.{member_primitive, primitives}
use Rattle.elab_model.specs.Faults.{fault}
use Rattle.elab_model.specs.Hierarchy.{Instance, instances}
use Rattle.elab_model.specs.HierarchyFaults.{two_definitions}
use Rattle.elab_model.specs.Members.{Member, assignment, supply, gate, instance, path, check, members}
use Rattle.elab_model.specs.ModuleFaults.{all_member_faults, module_faults}
use Rattle.elab_model.specs.UsedPrimitives.{first_uses, used}
use Rattle.elab_laws.proofs.Lists.{In, in-flat, from-flat, all-in}
use Rattle.elab_laws.proofs.NoFaults.{all-from}
use Rattle.elab_hierarchy.specs.declared.instances.Placed.{Placed}
use Rattle.elab_hierarchy.specs.Named.{place_of}
use Rattle.elab_hierarchy.specs.Placing.{ArePlaced, tree_faults}
use Rattle.elab_hierarchy.specs.Tops.{StandsAt}
use Rattle.elab_hierarchy.proofs.Found.{place-first, position-none}
use Rattle.elab_primitives.specs.Refusals.{IsFaultless}
use Rattle.elab_modules.specs.declared.prepared.Prepared.{Prepared}
use Rattle.elab_modules.specs.declared.library.Library.{Library}
use Rattle.elab_modules.specs.declared.library.Ready as code_ready
use Rattle.elab_modules.specs.declared.library.Ready.TheVariants as ready
use Rattle.elab_modules.specs.Ready.{AreReady, IsPrepared, HasReady, MemberReady}
use Rattle.elab_modules.specs.Reached.{IsReadyAt, IsReached, IsLibrary, RefusesReached}
use Rattle.elab_modules.specs.Reaching.{IsModuleAt, HasMet, primitives_of, primitives_at, RefusesMet}
use Rattle.elab_modules.specs.Checking.{IsChecked, AreChecked, RefusesPart}
use Rattle.elab_modules.proofs.Among.{in-among, among-in, from-kept, some-is}
use Rattle.elab_modules.proofs.Faulty.{refused-flat, all-refused, primitive-defined}
use Rattle.elab_modules.proofs.Meeting.{places_of}
use Rattle.elab_modules.proofs.Named.{AllMet, of-instance, all-named, place-of, module-same, one-place, one-top, placed-in}
use Rattle.elab_modules.proofs.Stocking.{Parts, no-module, same-primitive}

-- ---- what is refused

pub met-told : (source : Source) (corner : Corner) (top : Module) (ps : List Placed) (r : Refused ElabKind) → ArePlaced source ps (instances source top) → RefusesMet source (places_of ps) r
    → RefusesReached source corner top r
met-told source corner top ps refused.NoMemory are h = tt
met-told source corner top ps (refused.Fault kind place) are h =
    let w = placed-in source ps (instances source top) h.at are h.there in
    elim (h.stands w.instance.step.definition w.stands) [
      | inl f ↦ inl (refused-flat (λ s. module_faults source corner (tick_of source top) s.step.definition) w.instance (instances source top) (refused.Fault kind place) w.there (f corner (tick_of source top)))
      | inr u ↦ inr (record {
        primitive = u.primitive;
        there = in-among u.primitive (primitives source (Ok top)) (in-flat (λ s. filter_map (member_primitive source) (members s.step.definition)) w.instance u.primitive (instances source top) w.there u.there);
        stands = u.stands;
      })
    ]

pub part-told : (source : Source) (corner : Corner) (top : Module) (ps : List Placed) (parts : Parts) (udps : List UdpUse) (tick : ℤ) (r : Refused ElabKind) → ArePlaced source ps (instances source top)
    → HasMet source parts udps (places_of ps) → tick ≡ tick_of source top → RefusesPart source corner tick parts r → RefusesReached source corner top r
part-told source corner top ps parts udps tick refused.NoMemory are met e h = tt
part-told source corner top ps parts udps tick (refused.Fault kind place) are met e h =
    let one = h.stands in
    let w = of-instance source (instances source top) ps parts udps h.at one.prepared are met (h.there ∙ ap Some one.there) in
    let m = w.instance.step.definition in
    inl (refused-flat (λ s. module_faults source corner (tick_of source top) s.step.definition) w.instance (instances source top) (refused.Fault kind place) w.there
    (all-refused source corner (tick_of source top) m (refused.Fault kind place)
    (subst (λ t. IsAmong (flat_map (all_member_faults source corner t m) (members m)) (fault kind place)) e (one.stands m w.prepared))))

-- ---- the module of an instance

-- what is ready of it
record ReadyOf (parts : Parts) (i : ℕ) (m : Module) : Type 0 where
  pub prepared : Prepared
  pub there : IsModuleAt parts i prepared
  pub is : IsPrepared prepared m

ready-of : (source : Source) (parts : Parts) (i : ℕ) (m : Module) → AreReady source parts → StandsAt source i m → HasReady parts i → ReadyOf parts i m
ready-of source parts i m all at h = by h.0 h.1
  where
    by : (r : code_ready.Ready) → slice_get parts i ≡ Some (Some r) → ReadyOf parts i m
    by (ready.Module p) e =
        let r = all.1 i (Some (ready.Module p)) e in
        record { prepared = p; there = e; is = subst (IsPrepared p) (module-same source i r.0 m r.1 at) r.2 }
    by (ready.Primitive k) e =
        let r = all.1 i (Some (ready.Primitive k)) e in
        absurd (no-module source i m r.0 at r.1)

checked-of : (source : Source) (corner : Corner) (tick : ℤ) (library : Library) (i : ℕ) (p : Prepared)
    → AreChecked source corner tick library.parts.items (length library.parts.items) library.gate_delays.items library.delays.items → IsModuleAt library.parts.items i p
    → IsChecked source corner tick library.gate_delays.items (option_map (λ list. list.items) (slice_get library.delays.items i)) p
checked-of source corner tick library i p h e = h.each i p (slice_get_within library.parts.items i (Some (ready.Module p)) e) e

-- what is known when all modules have been looked at too
pub record AllChecked (source : Source) (corner : Corner) (top : Module) (ps : List Placed) (library : Library) : Type 0 where
  pub all_met : AllMet source top ps library.parts.items library.udps.items
  pub checked : AreChecked source corner (tick_of source top) library.parts.items (length library.parts.items) library.gate_delays.items library.delays.items

-- an instance's module stands ready at its place
record ReachedAt (source : Source) (library : Library) (m : Module) : Type 0 where
  pub at : ℕ
  pub stands : StandsAt source at m
  pub of : ReadyOf library.parts.items at m

reached-at : (source : Source) (corner : Corner) (top : Module) (ps : List Placed) (library : Library) (s : Instance) → AllChecked source corner top ps library → In s (instances source top)
    → ReachedAt source library s.step.definition
reached-at source corner top ps library s h there =
    let met = h.all_met.met in
    let w = place-of source ps (instances source top) s h.all_met.are there in
    let has = met.there w.place s.step.definition w.there w.stands in
    record { at = w.place; stands = w.stands; of = ready-of source library.parts.items w.place s.step.definition met.stock.ready w.stands has }

ready-at : (source : Source) (corner : Corner) (top : Module) (ps : List Placed) (library : Library) (s : Instance) (i : ℕ) → AllChecked source corner top ps library → In s (instances source top)
    → StandsAt source i s.step.definition → IsReadyAt source corner top library s.step.definition i
ready-at source corner top ps library s i h there at =
    let w = reached-at source corner top ps library s h there in
    let one : w.at ≡ i = one-place source h.all_met.once w.at i s.step.definition w.stands at in
    let c = checked-of source corner (tick_of source top) library w.at w.of.prepared h.checked w.of.there in
    subst (IsReadyAt source corner top library s.step.definition) one (record {
      ready = (ready.Module w.of.prepared, w.of.there);
      delays = c.list;
      listed = c.listed;
      in_ticks = c.in_ticks s.step.definition w.of.is;
    })

all-named_in : (source : Source) (corner : Corner) (top : Module) (ps : List Placed) (library : Library) (s : Instance) → AllChecked source corner top ps library → In s (instances source top)
    → AllByRecursion (MemberReady source library.parts.items) (members s.step.definition)
all-named_in source corner top ps library s h there =
    let w = reached-at source corner top ps library s h there in
    subst (AllByRecursion (MemberReady source library.parts.items)) w.of.is.members (all-named source top ps library.parts.items library.udps.items h.all_met w.at w.of.prepared w.of.there)

no-faults : (source : Source) (corner : Corner) (top : Module) (ps : List Placed) (library : Library) (s : Instance) → AllChecked source corner top ps library → In s (instances source top)
    → module_faults source corner (tick_of source top) s.step.definition ≡ []
no-faults source corner top ps library s h there =
    let w = reached-at source corner top ps library s h there in
    let c = checked-of source corner (tick_of source top) library w.at w.of.prepared h.checked w.of.there in
    ap (λ fs. fs ++ flat_map (all_member_faults source corner (tick_of source top) s.step.definition) (members s.step.definition)) w.of.is.declared
    ∙ c.faultless s.step.definition w.of.is

-- ---- the primitives that are reached

place-defined : (source : Source) (n : List ℕ) (p : Primitive) → definition_of source n ≡ Some (a_primitive p) → (i : ℕ) × (place_of source n ≡ Some i) × (slice_get source i ≡ Some (a_primitive p))
place-defined source n p e = by (place_of source n) refl
  where
    nothing : (o : Option Part) → o ≡ None → o ≡ Some (a_primitive p) → ⊥
    nothing o f g = cc

    by : (o : Option ℕ) → place_of source n ≡ o → (i : ℕ) × (place_of source n ≡ Some i) × (slice_get source i ≡ Some (a_primitive p))
    by None f = absurd (nothing (definition_of source n) (position-none (λ d. bytes_eq n (name_of d).text) source 0 f) e)
    by (Some i) f =
        let r = place-first source n i f in
        (i, f, r.there ∙ ap Some (some-is (definition_of source n) r.element (a_primitive p) r.first e))

-- a primitive that stands ready has no faults
faultless-at : (source : Source) (parts : Parts) (i : ℕ) (p : Primitive) → AreReady source parts → slice_get source i ≡ Some (a_primitive p) → HasReady parts i → IsFaultless p
faultless-at source parts i p all at h = by h.0 h.1
  where
    by : (r : code_ready.Ready) → slice_get parts i ≡ Some (Some r) → IsFaultless p
    by (ready.Module q) e = let r = all.1 i (Some (ready.Module q)) e in absurd (no-module source i r.0 p r.1 at)
    by (ready.Primitive k) e = let r = all.1 i (Some (ready.Primitive k)) e in subst IsFaultless (same-primitive source i r.0 p r.1 at) r.2

named-faultless : (source : Source) (parts : Parts) (x : Member) (p : Primitive) → AreReady source parts → member_primitive source x ≡ Some p → MemberReady source parts x → IsFaultless p
named-faultless source parts (assignment j) p all e h = cc
named-faultless source parts (supply n v) p all e h = cc
named-faultless source parts (gate g d i) p all e h = cc
named-faultless source parts (path w) p all e h = cc
named-faultless source parts (check w) p all e h = cc
named-faultless source parts (instance n d i) p all e h =
    let d = place-defined source n.text p (primitive-defined (definition_of source n.text) p e) in
    faultless-at source parts d.0 p all d.2 (h d.0 d.1)

reached-faultless : (source : Source) (corner : Corner) (top : Module) (ps : List Placed) (library : Library) (p : Primitive) → AllChecked source corner top ps library
    → IsAmong (primitives source (Ok top)) p → IsFaultless p
reached-faultless source corner top ps library p h there =
    let s = from-flat (λ s. filter_map (member_primitive source) (members s.step.definition)) p (instances source top) (among-in p (primitives source (Ok top)) there) in
    let x = from-kept (member_primitive source) p (members s.source.step.definition) s.made in
    named-faultless source library.parts.items x.source p h.all_met.met.stock.ready x.gives
    (all-in (MemberReady source library.parts.items) x.source (members s.source.step.definition) (all-named_in source corner top ps library s.source h s.there) x.there)

-- ---- the tables of all primitives

-- those that are named at the places of the instances' modules are those of the instances
placed-primitives : (source : Source) (ps : List Placed) (ss : List Instance) → ArePlaced source ps ss
    → flat_map (primitives_at source) (places_of ps) ≡ flat_map (λ s. filter_map (member_primitive source) (members s.step.definition)) ss
placed-primitives source [] [] h = refl
placed-primitives source [] (s ∷ ss) h = absurd h
placed-primitives source (p ∷ ps) [] h = absurd h
placed-primitives source (p ∷ ps) (s ∷ ss) h =
    ap (λ ts. primitives_at source p.definition ++ ts) (placed-primitives source ps ss h.1)
    ∙ ap (λ o. primitives_of source o ++ flat_map (λ t. filter_map (member_primitive source) (members t.step.definition)) ss) h.0.definition

-- ---- all of it

pub is-library : (source : Source) (corner : Corner) (top : Module) (ps : List Placed) (library : Library) → AllChecked source corner top ps library → IsLibrary source corner top library
is-library source corner top ps library h = record {
  ready = h.all_met.met.stock.ready;
  udps = h.all_met.met.stock.tables;
  listed = h.all_met.met.first.tables ∙ ap (λ ps. map used (first_uses [] ps)) (placed-primitives source ps (instances source top) h.all_met.are);
  few_udps = h.all_met.met.stock.few;
  counts = h.checked.counts;
  reached = all-from (IsReached source corner top library) (instances source top) (λ s there. record {
    stands = λ i at. ready-at source corner top ps library s i h there at;
    named = all-named_in source corner top ps library s h there;
  });
  sound = all-from (λ s. module_faults source corner (tick_of source top) s.step.definition ≡ []) (instances source top) (λ s there. no-faults source corner top ps library s h there);
  tables = λ p kind place there. (reached-faultless source corner top ps library p h there).table kind place;
}

-- the same, of what the code has at its end
pub library-made : (source : Source) (corner : Corner) (top own : Module) (ps : List Placed) (library : Library) (parts : Parts) (tick : ℤ) → two_definitions source ≡ []
    → ArePlaced source ps (instances source top) → tick ≡ tick_of source top → ArePlaced source ps (instances source own) → tree_faults source own ≡ [] → parts ≡ library.parts.items
    → HasMet source parts library.udps.items (places_of ps) → AreChecked source corner tick parts (length parts) library.gate_delays.items library.delays.items → IsLibrary source corner top library
library-made source corner top own ps library parts tick once are e placed deep same met checked =
    let all : (AllMet source top ps parts library.udps.items) =
    record { once = once; are = are; deep = subst (λ m. tree_faults source m ≡ []) (one-top source ps own top placed are) deep; met = met } in
    is-library source corner top ps library (record {
      all_met = subst (λ qs. AllMet source top ps qs library.udps.items) same all;
      checked = subst (λ qs. AreChecked source corner (tick_of source top) qs (length qs) library.gate_delays.items library.delays.items) same
          (subst (λ t. AreChecked source corner t parts (length parts) library.gate_delays.items library.delays.items) e checked);
    })
