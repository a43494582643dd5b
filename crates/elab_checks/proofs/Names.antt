-- What a module without a fault names for delayed copies is one bit each.
use Rattle.std.specs.Prelude.{◌≡◌, ℤ, All, List, [], ◌∷◌, ◌++◌, None, flat_map, map, slice_index_or, refl}
use Rattle.std.proofs.Common.{◌∙◌, ap, subst}
use Rattle.sg_delay.specs.declared.corners.Corner.{Corner}
use Rattle.vl_tree.specs.Tree.{Named, signal, Check, Module, Source}
use Rattle.elab_model.specs.Delays.{tick_of}
use Rattle.elab_model.specs.Hierarchy.{instances}
use Rattle.elab_model.specs.Members.{check, delayed_names, member_values, members}
use Rattle.elab_model.specs.ModuleFaults.{all_member_faults, module_faults}
use Rattle.elab_model.specs.NameFaults.{declaration_faults}
use Rattle.elab_model.specs.Names.{Variable, variables}
use Rattle.elab_model.specs.TerminalFaults.{expression_faults, width_faults}
use Rattle.specify_model.specs.Blocks.{specify_items}
use Rattle.specify_model.specs.Checks.{check_texts}
use Rattle.elab_laws.specs.Laws.{AreSound}
use Rattle.elab_laws.proofs.Lists.{all-from, all-in}
use Rattle.elab_laws.proofs.NoFaults.{front, back, flat-empty}
use Rattle.elab_hierarchy.specs.Placing.{ArePlaced}
use Rattle.elab_hierarchy.specs.Tops.{StandsAt}
use Rattle.elab_hierarchy.specs.declared.instances.Placed.{Placed}
use Rattle.elab_paths.proofs.AmongOfModules.{in-mapped}
use Rattle.elab_paths.proofs.NamedOfModules.{module-same, placed-in}
use Rattle.specify_checks.specs.Copies.{AreNamed, HasNames}
use Rattle.specify_checks.proofs.Asked.{check-there}

names-one_bit : (vs : List Variable) (ns : List Named) → flat_map (expression_faults vs) (map (λ n. signal n None) ns) ≡ [] → flat_map (width_faults vs 1) (map (λ n. signal n None) ns) ≡ [] → AreNamed vs ns
names-one_bit vs [] declared wide = refl
names-one_bit vs (n ∷ ns) declared wide =
    let first = expression_faults vs (signal n None) in
    let width = width_faults vs 1 (signal n None) in
    let more = flat_map (expression_faults vs) (map (λ n. signal n None) ns) in
    let others = flat_map (width_faults vs 1) (map (λ n. signal n None) ns) in
    ap (λ fs. (fs ++ width) ++ flat_map (λ n. expression_faults vs (signal n None) ++ width_faults vs 1 (signal n None)) ns) (front first more declared)
    ∙ ap (λ fs. fs ++ flat_map (λ n. expression_faults vs (signal n None) ++ width_faults vs 1 (signal n None)) ns) (front width others wide)
    ∙ names-one_bit vs ns (back first more declared) (back width others wide)

module _ (source : Source) (corner : Corner) (tick : ℤ) (m : Module) (faultless : module_faults source corner tick m ≡ []) where
  check-named : (c : Check) → all_member_faults source corner tick m (check c) ≡ [] → AreNamed (variables m) (delayed_names c)
  check-named c h =
      let declared = flat_map (expression_faults (variables m)) (member_values (check c)) in
      let wide = flat_map (width_faults (variables m) 1) (member_values (check c)) in
      names-one_bit (variables m) (delayed_names c) (front declared wide h) (back declared wide h)

  pub has-names : HasNames m (variables m)
  has-names =
      let faults = all_member_faults source corner tick m in
      let each = flat-empty faults (members m) (back (declaration_faults m) (flat_map faults (members m)) faultless) in
      all-from (λ c. AreNamed (variables m) (delayed_names c)) (check_texts (specify_items m)) (λ c there. check-named c (all-in (λ i. faults i ≡ []) (check c) (members m) each (check-there m c there)))

-- so of the modules of all instances
pub all-names : (source : Source) (corner : Corner) (top : Module) (ps : List Placed) → ArePlaced source ps (instances source top) → AreSound source top corner
    → All (λ p. (m : Module) → StandsAt source p.definition m → HasNames m (variables m)) ps
all-names source corner top ps are sound k d lt m stands =
    let w = placed-in source ps (instances source top) (slice_index_or ps k d).definition are (in-mapped (λ p. p.definition) d ps k lt) in
    let own : module_faults source corner (tick_of source top) w.instance.step.definition ≡ [] =
    all-in (λ s. module_faults source corner (tick_of source top) s.step.definition ≡ []) w.instance (instances source top) sound w.there in
    subst (λ n. HasNames n (variables n)) (module-same source (slice_index_or ps k d).definition w.instance.step.definition m w.stands stands) (has-names source corner (tick_of source top) w.instance.step.definition own)
