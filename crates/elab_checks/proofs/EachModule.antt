-- The checks of the modules of all instances.
use Rattle.std.specs.Prelude.{◌≡◌, ℕ, ℤ, ◌<◌, All, List, [], ◌∷◌, ◌++◌, Some, length, map, flat_map, slice_get, slice_index_or, refl}
use Rattle.std.specs.Global.{Vec}
use Rattle.std.specs.List.{AllByRecursion}
use Rattle.std.specs.Option.{option_and_then, option_map}
use Rattle.std.proofs.Common.{sym, ◌∙◌, ap, inl, inr, subst}
use Rattle.std.proofs.lemmas.List.{append-nil}
use Rattle.std.proofs.lemmas.List.Elements.{recursion_from_All}
use Rattle.cond_expr.specs.Condition.{Condition}
use Rattle.sg_delay.specs.declared.corners.Corner.{Corner}
use Rattle.sg_text.specs.declared.refusals.Refused.{Refused}
use Rattle.vl_tree.specs.Tree.{Module, Source}
use Rattle.elab_model.specs.declared.kinds.ElabKind.{ElabKind}
use Rattle.elab_model.specs.Delays.{tick_of}
use Rattle.elab_model.specs.Faults.{Fault, RefusesOneOf}
use Rattle.elab_model.specs.Hierarchy.{Instance, instances}
use Rattle.elab_model.specs.HierarchyFaults.{two_definitions}
use Rattle.elab_model.specs.Names.{variables}
use Rattle.specify_model.specs.CheckFaults.{timing_check_faults}
use Rattle.circuit_model.specs.Faults.{check_faults}
use Rattle.elab_laws.proofs.Lists.{In}
use Rattle.elab_laws.proofs.NoFaults.{all-from}
use Rattle.elab_hierarchy.specs.declared.instances.Placed.{Placed}
use Rattle.elab_hierarchy.specs.Placing.{ArePlaced}
use Rattle.elab_hierarchy.specs.Tops.{StandsAt}
use Rattle.elab_paths.proofs.AmongOfModules.{in-mapped}
use Rattle.elab_paths.proofs.FaultyOfModules.{refused-flat}
use Rattle.elab_paths.proofs.Meeting.{places_of}
use Rattle.elab_paths.proofs.NamedOfModules.{one-place, place-of, placed-in}
use Rattle.elab_paths.specs.Shelving.{AreRead}
use Rattle.elab_checks.specs.OfModules.{AreChecksOf, AreSoundChecks, AreReadySoFar, HasReady, IsOfPlace}
use Rattle.elab_checks.specs.Ready.{check_ready, copies_in, IsReadyOf, HasChecks, HaveChecks}
use Rattle.elab_checks.specs.declared.modules.ReadyChecks.{ReadyChecks}
use Rattle.elab_checks.specs.declared.shelving.ReadyCheck.{ReadyCheck}
use Rattle.elab_checks.proofs.SoFar.{Checks}

-- ---- all are done

all-there : (P : ℕ → Type 0) (ps : List Placed) (i : ℕ) → All (λ p. P p.definition) ps → In i (places_of ps) → P i
all-there P [] i h k = absurd k
all-there P (p ∷ ps) i h k = by (recursion_from_All (λ q. P q.definition) (p ∷ ps) h) k
  where
    later : (qs : List Placed) → AllByRecursion (λ q. P q.definition) qs → In i (places_of qs) → P i
    later [] h k = absurd k
    later (q ∷ qs) h (inl e) = subst P (sym e) h.0
    later (q ∷ qs) h (inr k) = later qs h.1 k

    by : AllByRecursion (λ q. P q.definition) (p ∷ ps) → In i (places_of (p ∷ ps)) → P i
    by h k = later (p ∷ ps) h k

-- what has come to stand ready, and where
pub record AllReady (source : Source) (corner : Corner) (tick : ℤ) (ps : List Placed) (checks : Checks) (conditions : List Condition) : Type 0 where
  pub once : two_definitions source ≡ []
  pub ready : AreReadySoFar source corner tick checks conditions
  pub there : All (λ p. HasReady checks p.definition) ps

-- the checks of an instance's module
record ChecksAt (source : Source) (corner : Corner) (tick : ℤ) (checks : Checks) (conditions : List Condition) (m : Module) (place : ℕ) : Type 0 where
  pub list : Vec ReadyCheck
  pub there : slice_get checks place ≡ Some (Some list)
  pub sound : AreSoundChecks corner tick m conditions list.items

checks-at : (source : Source) (corner : Corner) (tick : ℤ) (top : Module) (ps : List Placed) (checks : Checks) (conditions : List Condition) (s : Instance) (place : ℕ)
    → AllReady source corner tick ps checks conditions → ArePlaced source ps (instances source top) → In s (instances source top) → StandsAt source place s.step.definition
    → ChecksAt source corner tick checks conditions s.step.definition place
checks-at source corner tick top ps checks conditions s place h are inside at =
    let w = place-of source ps (instances source top) s are inside in
    let same : w.place ≡ place = one-place source h.once w.place place s.step.definition w.stands at in
    let v = subst (HasReady checks) same (all-there (HasReady checks) ps w.place h.there w.there) in
    record { list = v.0; there = v.1; sound = h.ready.each place v.0 s.step.definition v.1 at }

is-ready : (source : Source) (top : Module) (corner : Corner) (m : Module) (conditions : List Condition) (list : List ReadyCheck) → AreChecksOf corner (tick_of source top) m conditions list
    → IsReadyOf source top corner conditions m list
is-ready source top corner m conditions list h = record {
  checks = ap (λ cs. map (check_ready cs (variables m) (copies_in m)) list) (sym (append-nil conditions)) ∙ h.checks [];
  named = h.named;
}

has-checks : (source : Source) (corner : Corner) (top : Module) (ps : List Placed) (made : ReadyChecks) (conditions : List Condition) (s : Instance)
    → AllReady source corner (tick_of source top) ps made.checks.items conditions → ArePlaced source ps (instances source top) → In s (instances source top)
    → HasChecks source top corner conditions made s
has-checks source corner top ps made conditions s h are inside place at =
    let w = checks-at source corner (tick_of source top) top ps made.checks.items conditions s place h are inside at in (
      w.list.items,
      (ap (λ o. option_and_then (λ v. option_map (λ x. x.items) v) o) w.there, is-ready source top corner s.step.definition conditions w.list.items w.sound.are),
    )

none-of_each : {A : Type 0} (f : A → List Fault) (xs : List A) → AllByRecursion (λ x. f x ≡ []) xs → flat_map f xs ≡ []
none-of_each f [] h = refl
none-of_each f (x ∷ xs) h = ap (λ fs. fs ++ flat_map f xs) h.0 ∙ none-of_each f xs h.1

faultless : (source : Source) (corner : Corner) (top : Module) (ps : List Placed) (checks : Checks) (conditions : List Condition) (s : Instance)
    → AllReady source corner (tick_of source top) ps checks conditions → ArePlaced source ps (instances source top) → In s (instances source top)
    → timing_check_faults corner (tick_of source top) s.step.definition ≡ []
faultless source corner top ps checks conditions s h are inside =
    let w = place-of source ps (instances source top) s are inside in
    (checks-at source corner (tick_of source top) top ps checks conditions s w.place h are inside w.stands).sound.faultless

pub have-checks : (source : Source) (corner : Corner) (top : Module) (ps : List Placed) (tick : ℤ) (made : ReadyChecks) (checks : Checks) (conditions : List Condition) → made.checks.items ≡ checks → AreRead conditions
    → ArePlaced source ps (instances source top) → tick ≡ tick_of source top → AllReady source corner tick ps checks conditions → HaveChecks source top corner conditions made
have-checks source corner top ps tick made checks conditions same read are t h =
    let all = subst (λ k. AllReady source corner k ps made.checks.items conditions) t (subst (λ cs. AllReady source corner tick ps cs conditions) (sym same) h) in
    record {
      each = all-from (HasChecks source top corner conditions made) (instances source top) (λ s inside. has-checks source corner top ps made conditions s all are inside);
      faultless = none-of_each (λ s. timing_check_faults corner (tick_of source top) s.step.definition) (instances source top)
          (all-from (λ s. timing_check_faults corner (tick_of source top) s.step.definition ≡ []) (instances source top)
          (λ s inside. faultless source corner top ps made.checks.items conditions s all are inside));
      read = read;
    }

-- ---- what is refused

pub one-refused : (source : Source) (corner : Corner) (tick : ℤ) (d x : Placed) (ps : List Placed) (k : ℕ) (r : Refused ElabKind) → k < length ps → x ≡ slice_index_or ps k d
    → ((m : Module) → StandsAt source x.definition m → RefusesOneOf (timing_check_faults corner tick m) r) → IsOfPlace source corner tick (places_of ps) r
one-refused source corner tick d x ps k r lt is h =
    record { at = x.definition; there = subst (λ y. In y.definition (places_of ps)) (sym is) (in-mapped (λ p. p.definition) d ps k lt); stands = h }

pub checks-refused : (source : Source) (corner : Corner) (top : Module) (ps : List Placed) (tick : ℤ) (r : Refused ElabKind) → ArePlaced source ps (instances source top) → tick ≡ tick_of source top
    → IsOfPlace source corner tick (places_of ps) r → RefusesOneOf (check_faults source top corner) r
checks-refused source corner top ps tick r are e h =
    let w = placed-in source ps (instances source top) h.at are h.there in
    refused-flat (λ s. timing_check_faults corner (tick_of source top) s.step.definition) w.instance (instances source top) r w.there
    (subst (λ t. RefusesOneOf (timing_check_faults corner t w.instance.step.definition) r) e (h.stands w.instance.step.definition w.stands))
