-- What stands ready of an instance, and its path uses.
use Rattle.std.specs.Prelude.{◌≡◌, ℕ, suc, zero, ◌+◌, ◌<◌, ◌≤◌, All, List, [], ◌∷◌, ◌++◌, Option, Some, drop, flat_map, length, map, slice_get, slice_index_or, take, refl}
use Rattle.std.specs.List.{AllByRecursion}
use Rattle.std.proofs.Common.{sym, ◌∙◌, ap, arith, subst, length-append}
use Rattle.std.proofs.lemmas.Grind.{flat_map-append}
use Rattle.std.proofs.lemmas.List.{length-map, take-append-drop, take_more}
use Rattle.std.proofs.lemmas.Option.{get_or_from_slice_get, slice_get_within}
use Rattle.sg_delay.specs.declared.corners.Corner.{Corner}
use Rattle.vl_tree.specs.Tree.{Module, Source}
use Rattle.elab_model.specs.Delays.{tick_of}
use Rattle.elab_model.specs.Faults.{fault}
use Rattle.elab_model.specs.Hierarchy.{Instance, instances}
use Rattle.elab_model.specs.Names.{variables}
use Rattle.elab_model.specs.Nets.{OwnNet, nets}
use Rattle.elab_model.specs.declared.kinds.ElabKind.TheVariants.{SpecifyInHierarchy}
use Rattle.specify_model.specs.Faults.{blocks_in_hierarchy, specify_faults}
use Rattle.circuit_model.specs.Faults.{module_path_faults, path_faults}
use Rattle.circuit_model.specs.PathUses as def
use Rattle.elab_laws.specs.Handing.{all_bits, number_at}
use Rattle.elab_laws.proofs.Lists.{In, all-in, all-weaker}
use Rattle.elab_laws.proofs.NoFaults.{back, flat-empty}
use Rattle.elab_hierarchy.specs.Placing.{IsPlaced, ArePlaced}
use Rattle.elab_hierarchy.specs.declared.instances.Placed.{Placed}
use Rattle.elab_elements.specs.ReadyOfModules.{IsPrepared}
use Rattle.elab_elements.specs.Library.{Library}
use Rattle.elab_elements.specs.Ready as code_ready
use Rattle.elab_elements.specs.Ready.TheVariants as ready
use Rattle.elab_elements.specs.Prepared.{Prepared}
use Rattle.elab_elements.specs.Rows.{part_of, HasRow}
use Rattle.elab_elements.specs.RowsType.{Rows}
use Rattle.elab_elements.specs.Numbers.{HasNumbers}
use Rattle.elab_elements.proofs.StandingAt.{at-place, at-split, instance-ready}
use Rattle.elab_paths.specs.Ready.{path_ready, output_ready, IsReadyOutput, IsReadyOf, HasPaths}
use Rattle.elab_paths.specs.Standing.{AreStanding, IsStanding, outputs_at}
use Rattle.elab_paths.specs.Uses.{IsUsable}
use Rattle.elab_paths.specs.declared.modules.ModulePaths.{ModulePaths}
use Rattle.elab_paths.specs.declared.shelving.ReadyOutput.{ReadyOutput}
use Rattle.elab_paths.proofs.PathEnds.{mapped-twice}
use Rattle.elab_paths.proofs.SoundConditions.{usable}

-- ---- blocks without fault

pub no-faults : (source : Source) (top : Module) (corner : Corner) → path_faults source top corner ≡ [] → AllByRecursion (λ s. specify_faults corner (tick_of source top) s.step.definition ≡ []) (instances source top)
no-faults source top corner h =
    let faults = λ (s : Instance). module_path_faults source corner (tick_of source top) s.step.definition in
    all-weaker (λ s. faults s ≡ []) (λ s. specify_faults corner (tick_of source top) s.step.definition ≡ []) (instances source top)
    (λ s e. back (map (fault SpecifyInHierarchy) (blocks_in_hierarchy source s.step.definition)) (specify_faults corner (tick_of source top) s.step.definition) e) (flat-empty faults (instances source top) h)

-- ---- the instance of a number

pub placed-own : (source : Source) (ps : List Placed) (ss : List Instance) (i : ℕ) (p : Placed) → i < length ps → p ≡ slice_index_or ps i p → ArePlaced source ps ss
    → (s : Instance) × (slice_get ss i ≡ Some s) × IsPlaced source p s
placed-own source [] ss i p lt e h = absurd (omega (arith, lt))
placed-own source (q ∷ ps) [] i p lt e h = absurd h
placed-own source (q ∷ ps) (s ∷ ss) zero p lt e h = (s, refl, subst (λ x. IsPlaced source x s) (sym e) h.0)
placed-own source (q ∷ ps) (s ∷ ss) (suc i) p lt e h = placed-own source ps ss i p (omega (arith, lt)) e h.1

pub stands : (source : Source) (top : Module) (corner : Corner) (library : Library) (modules : ModulePaths) (placed : List Placed) (rows : Rows) (i : ℕ) (p : Placed) → i < length placed → p ≡ slice_index_or placed i p
    → AreStanding source top corner library modules placed rows → (s : Instance) × IsStanding source top corner library modules placed rows i p s
stands source top corner library modules placed rows i p lt e h =
    let r = placed-own source placed (instances source top) i p lt e h.are_placed in
    let few = h.few in
    (r.0, record { standing = h; there = r.1; is_placed = r.2; below = omega (arith, lt, few) })

module _ (source : Source) (top : Module) (corner : Corner) (library : Library) (modules : ModulePaths) (placed : List Placed) (rows : Rows) (i : ℕ) (p : Placed) (s : Instance)
    (h : IsStanding source top corner library modules placed rows i p s) where
  is-there : In s (instances source top)
  is-there = at-place (instances source top) i s h.there

  -- ---- its module

  pub ready-found : (q : Prepared) × (slice_get library.parts.items p.definition ≡ Some (Some (ready.Module q)))
  ready-found = let k = instance-ready source corner top library s p h.standing.is_ready is-there h.is_placed in (k.0, k.1)

  pub prepared-is : (q : Prepared) → slice_get library.parts.items p.definition ≡ Some (Some (ready.Module q)) → IsPrepared q s.step.definition
  prepared-is q e =
      let k = instance-ready source corner top library s p h.standing.is_ready is-there h.is_placed in
      let g : ◌≡◌ {A = Option (Option code_ready.Ready)} (Some (Some (ready.Module k.0))) (Some (Some (ready.Module q))) = sym k.1 ∙ e in
      let same : k.0 ≡ q = cc in
      subst (λ x. IsPrepared x s.step.definition) same k.2

  -- ---- its row

  row-of : (before : List Instance) × (length before ≡ i) × HasRow source top rows before s
  row-of =
      let r = at-split (instances source top) i s h.there in
      (take i (instances source top), r.1, h.standing.have_rows.each (take i (instances source top)) (drop (suc i) (instances source top)) s r.0)

  pub row-within : (q : Prepared) (width : ℕ) → IsPrepared q s.step.definition → width ≡ length (all_bits q.table)
      → (start : ℕ) × ((slice_get rows.starts.items i ≡ Some start) × (start + width ≤ length rows.inner.items))
  row-within q width k w =
      let r = row-of in
      let same : width ≡ length (all_bits (variables s.step.definition)) = w ∙ ap (λ vs. length (all_bits vs)) k.table in
      (r.2.start, (subst (λ j. slice_get rows.starts.items j ≡ Some r.2.start) r.1 r.2.starts, subst (λ n. r.2.start + n ≤ length rows.inner.items) (sym same) r.2.inner_within))

  pub numbers-are : (q : Prepared) (width : ℕ) (row : List ℕ) → IsPrepared q s.step.definition → width ≡ length (all_bits q.table)
      → ((start : ℕ) → slice_get rows.starts.items i ≡ Some start → row ≡ part_of rows.inner.items start width) → HasNumbers (nets source top) source s q.table row
  numbers-are q width row k w f =
      let r = row-of in
      let same : width ≡ length (all_bits (variables s.step.definition)) = w ∙ ap (λ vs. length (all_bits vs)) k.table in
      record {
        table = k.table;
        numbers = f r.2.start (subst (λ j. slice_get rows.starts.items j ≡ Some r.2.start) r.1 r.2.starts) ∙ ap (part_of rows.inner.items r.2.start) same ∙ r.2.inner
            ∙ ap (λ vs. map (number_at (nets source top) source s) (all_bits vs)) (sym k.table);
      }

  -- ---- its outputs

  has-paths : HasPaths source top corner modules s
  has-paths = all-in (HasPaths source top corner modules) s (instances source top) h.standing.have_paths.each is-there

  pub outputs-found : (list : List ReadyOutput) × (outputs_at modules p.definition ≡ Some list)
  outputs-found = let k = has-paths p.definition h.is_placed.definition in (k.0, k.1.0)

  pub outputs-are : (list : List ReadyOutput) → outputs_at modules p.definition ≡ Some list → IsReadyOf corner s.step.definition source top modules list
  outputs-are list e =
      let k = has-paths p.definition h.is_placed.definition in
      let g : ◌≡◌ {A = Option (List ReadyOutput)} (Some k.0) (Some list) = sym k.1.0 ∙ e in
      let same : k.0 ≡ list = cc in
      subst (IsReadyOf corner s.step.definition source top modules) same k.1.1

  no-fault : specify_faults corner (tick_of source top) s.step.definition ≡ []
  no-fault = all-in (λ t. specify_faults corner (tick_of source top) t.step.definition ≡ []) s (instances source top) (no-faults source top corner h.standing.have_paths.faultless) is-there

  pub outputs-usable : (q : Prepared) (list : List ReadyOutput) → IsPrepared q s.step.definition → outputs_at modules p.definition ≡ Some list → All (IsUsable q.table modules.conditions.items) list
  outputs-usable q list k e =
      subst (λ vs. All (IsUsable vs modules.conditions.items) list) (sym k.table)
      (usable source top corner s.step.definition modules list (outputs-are list e) no-fault h.standing.have_paths.read)

  pub outputs-named : (q : Prepared) (list : List ReadyOutput) → IsPrepared q s.step.definition → outputs_at modules p.definition ≡ Some list
      → All (IsReadyOutput (length (all_bits q.table)) (length modules.timings.items) (length modules.conditions.items)) list
  outputs-named q list k e = subst (λ vs. All (IsReadyOutput (length (all_bits vs)) (length modules.timings.items) (length modules.conditions.items)) list) (sym k.table) (outputs-are list e).named

  -- ---- its uses

  pub uses-are : (all : List OwnNet) (q : Prepared) (list : List ReadyOutput) → IsPrepared q s.step.definition → outputs_at modules p.definition ≡ Some list
      → map (λ o. def.path_use all source s (output_ready modules.timings.items modules.conditions.items q.table o)) list ≡ def.path_uses_of all source corner (tick_of source top) s
  uses-are all q list k e =
      ap (λ vs. map (λ o. def.path_use all source s (output_ready modules.timings.items modules.conditions.items vs o)) list) k.table
      ∙ sym (mapped-twice (output_ready modules.timings.items modules.conditions.items (variables s.step.definition)) (def.path_use all source s) list)
      ∙ ap (map (def.path_use all source s)) (outputs-are list e).outputs

  pub paths-count : (all : List OwnNet) (q : Prepared) (list : List ReadyOutput) → IsPrepared q s.step.definition → outputs_at modules p.definition ≡ Some list
      → length (flat_map (λ o. o.paths.items) list) ≡ length (flat_map (λ u. u.paths) (def.path_uses_of all source corner (tick_of source top) s))
  paths-count all q list k e = one list ∙ ap (λ us. length (flat_map (λ u. u.paths) us)) (uses-are all q list k e)
    where
      made : ReadyOutput → def.PathUse
      made o = def.path_use all source s (output_ready modules.timings.items modules.conditions.items q.table o)

      own : (o : ReadyOutput) → length o.paths.items ≡ length (made o).paths
      own o = sym (length-map (map (path_ready modules.timings.items modules.conditions.items q.table) o.paths.items) _ ∙ length-map o.paths.items (path_ready modules.timings.items modules.conditions.items q.table))

      one : (os : List ReadyOutput) → length (flat_map (λ o. o.paths.items) os) ≡ length (flat_map (λ u. u.paths) (map made os))
      one [] = refl
      one (o ∷ os) =
          length-append o.paths.items (flat_map (λ o. o.paths.items) os) ∙ ap (λ n. n + length (flat_map (λ o. o.paths.items) os)) (own o) ∙ ap (λ n. length (made o).paths + n) (one os)
          ∙ sym (length-append (made o).paths (flat_map (λ u. u.paths) (map made os)))

-- ---- so many instances, and one more

pub flat-more : {A B : Type 0} (f : A → List B) (xs : List A) (i : ℕ) (x : A) → slice_get xs i ≡ Some x → flat_map f (take (i + 1) xs) ≡ flat_map f (take i xs) ++ f x
flat-more f xs i x e =
    ap (flat_map f) (take_more xs i x (slice_get_within xs i x e)) ∙ flat_map-append f (take i xs) (slice_index_or xs i x ∷ [])
    ∙ ap (λ y. flat_map f (take i xs) ++ flat_map f (y ∷ [])) (get_or_from_slice_get xs i x x e) ∙ ap (λ ys. flat_map f (take i xs) ++ ys) (nil (f x))
  where
    nil : {B : Type 0} (ys : List B) → ys ++ [] ≡ ys
    nil [] = refl
    nil (y ∷ ys) = ap (λ zs. y ∷ zs) (nil ys)

pub flat-within : {A B : Type 0} (f : A → List B) (xs : List A) (i : ℕ) → length (flat_map f (take i xs)) ≤ length (flat_map f xs)
flat-within f xs i =
    let e : length (flat_map f xs) ≡ length (flat_map f (take i xs)) + length (flat_map f (drop i xs)) =
    ap (λ ys. length (flat_map f ys)) (sym (take-append-drop i xs)) ∙ ap length (flat_map-append f (take i xs) (drop i xs)) ∙ length-append (flat_map f (take i xs)) (flat_map f (drop i xs)) in
    omega (arith, e)
