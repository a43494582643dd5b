-- The turn of an instance: its path uses come behind those before.
use Rattle.std.specs.Prelude.{◌≡◌, ℕ, ◌+◌, ◌<◌, ◌≤◌, All, List, ◌++◌, Some, flat_map, length, slice_index_or, take}
use Rattle.std.proofs.Common.{subst, sym}
use Rattle.cond_expr.specs.Condition.{Condition}
use Rattle.sg_circuit.specs.declared.elements.LegTiming.{LegTiming}
use Rattle.sg_delay.specs.declared.corners.Corner.{Corner}
use Rattle.sg_text.specs.declared.refusals.Refused.{Refused}
use Rattle.vl_tree.specs.Tree.{Module, Source}
use Rattle.elab_model.specs.declared.kinds.ElabKind.{ElabKind}
use Rattle.elab_model.specs.Delays.{tick_of}
use Rattle.elab_model.specs.Hierarchy.{Instance, instances}
use Rattle.elab_model.specs.Names.{Variable}
use Rattle.elab_model.specs.Nets.{OwnNet, nets}
use Rattle.circuit_model.specs.Faults.{path_count}
use Rattle.circuit_model.specs.PathUses as def
use Rattle.elab_laws.specs.Handing.{all_bits}
use Rattle.elab_numbering.specs.Refusals.{RefusesCount}
use Rattle.elab_hierarchy.specs.declared.instances.Placed.{Placed}
use Rattle.elab_elements.specs.ReadyOfModules.{IsPrepared}
use Rattle.elab_elements.specs.Library.{Library}
use Rattle.elab_elements.specs.Prepared.{Prepared}
use Rattle.elab_elements.specs.RowsType.{Rows}
use Rattle.elab_elements.specs.Numbers.{HasNumbers}
use Rattle.elab_elements.proofs.StandingAt.{placed-count}
use Rattle.elab_paths.specs.Ready.{IsReadyOutput}
use Rattle.elab_paths.specs.Standing.{AreStanding, IsStanding, outputs_at}
use Rattle.elab_paths.specs.Uses.{AreUses}
use Rattle.elab_paths.specs.declared.modules.ModulePaths.{ModulePaths}
use Rattle.elab_paths.specs.declared.shelving.ReadyOutput.{ReadyOutput}
use Rattle.elab_paths.specs.declared.uses.PathUses.{PathUses}
use Rattle.elab_paths.proofs.InstanceUses.{stands, outputs-named, uses-are, paths-count}
use Rattle.elab_paths.proofs.OneByOne.{uses_in, uses-next, uses-all, uses-refused}

-- what adding the outputs of an instance does
abbrev pub Adding : List Condition → List Variable → List ℕ → List ReadyOutput → PathUses → PathUses → Type 0
Adding conditions vs row os old new =
    (all : List OwnNet) (source : Source) (s : Instance) (timings : List LegTiming) (us : List def.PathUse) → HasNumbers all source s vs row
    → All (IsReadyOutput (length (all_bits vs)) (length timings) (length conditions)) os → AreUses conditions timings old us → AreUses conditions timings new (us ++ uses_in all source s timings conditions vs os)

module _ (source : Source) (top : Module) (corner : Corner) (library : Library) (modules : ModulePaths) (placed : List Placed) (rows : Rows) (i : ℕ) (p : Placed) (s : Instance)
    (h : IsStanding source top corner library modules placed rows i p s) (q : Prepared) (prepared : IsPrepared q s.step.definition) (list : List ReadyOutput)
    (found : outputs_at modules p.definition ≡ Some list) where
  pub instance-uses : (conditions : List Condition) (row : List ℕ) (old new : PathUses) (us : List def.PathUse) → conditions ≡ modules.conditions.items → HasNumbers (nets source top) source s q.table row
      → Adding conditions q.table row list old new → AreUses modules.conditions.items modules.timings.items old us
      → AreUses modules.conditions.items modules.timings.items new (us ++ def.path_uses_of (nets source top) source corner (tick_of source top) s)
  instance-uses conditions row old new us e here f u =
      let g : Adding modules.conditions.items q.table row list old new = subst (λ cs. Adding cs q.table row list old new) e f in
      subst (λ xs. AreUses modules.conditions.items modules.timings.items new (us ++ xs)) (uses-are source top corner library modules placed rows i p s h (nets source top) q list prepared found)
      (g (nets source top) source s modules.timings.items us here (outputs-named source top corner library modules placed rows i p s h q list prepared found) u)

  pub instance-refused : (old : PathUses) (r : Refused ElabKind) → ((total : ℕ) → length old.paths.items + length (flat_map (λ o. o.paths.items) list) ≤ total → RefusesCount total r)
      → (total : ℕ) → length old.paths.items + length (flat_map (λ u. u.paths) (def.path_uses_of (nets source top) source corner (tick_of source top) s)) ≤ total → RefusesCount total r
  instance-refused old r f total le =
      f total (subst (λ n. length old.paths.items + n ≤ total) (sym (paths-count source top corner library modules placed rows i p s h (nets source top) q list prepared found)) le)

-- ---- so many instances, and one more

module _ (source : Source) (top : Module) (corner : Corner) (library : Library) (modules : ModulePaths) (placed : List Placed) (rows : Rows) (h : AreStanding source top corner library modules placed rows) where
  pub next-uses : (i : ℕ) (p : Placed) (old new : PathUses) → i < length placed → p ≡ slice_index_or placed i p
      → ((s : Instance) (us : List def.PathUse) → IsStanding source top corner library modules placed rows i p s → AreUses modules.conditions.items modules.timings.items old us
      → AreUses modules.conditions.items modules.timings.items new (us ++ def.path_uses_of (nets source top) source corner (tick_of source top) s))
      → AreUses modules.conditions.items modules.timings.items old (flat_map (def.path_uses_of (nets source top) source corner (tick_of source top)) (take i (instances source top)))
      → AreUses modules.conditions.items modules.timings.items new (flat_map (def.path_uses_of (nets source top) source corner (tick_of source top)) (take (i + 1) (instances source top)))
  next-uses i p old new lt is f u =
      let k = stands source top corner library modules placed rows i p lt is h in
      let F = def.path_uses_of (nets source top) source corner (tick_of source top) in
      uses-next F (instances source top) modules.conditions.items modules.timings.items i k.0 new k.1.there (f k.0 (flat_map F (take i (instances source top))) k.1 u)

  pub next-refused : (i : ℕ) (p : Placed) (old : PathUses) (r : Refused ElabKind) → i < length placed → p ≡ slice_index_or placed i p
      → ((s : Instance) → IsStanding source top corner library modules placed rows i p s
      → (total : ℕ) → length old.paths.items + length (flat_map (λ u. u.paths) (def.path_uses_of (nets source top) source corner (tick_of source top) s)) ≤ total → RefusesCount total r)
      → AreUses modules.conditions.items modules.timings.items old (flat_map (def.path_uses_of (nets source top) source corner (tick_of source top)) (take i (instances source top)))
      → RefusesCount (path_count source top corner) r
  next-refused i p old r lt is f u =
      let k = stands source top corner library modules placed rows i p lt is h in
      uses-refused (def.path_uses_of (nets source top) source corner (tick_of source top)) (instances source top) modules.conditions.items modules.timings.items i k.0 old r k.1.there u (f k.0 k.1)

  pub all-uses : (i : ℕ) (made : PathUses) → length placed ≤ i
      → AreUses modules.conditions.items modules.timings.items made (flat_map (def.path_uses_of (nets source top) source corner (tick_of source top)) (take i (instances source top)))
      → AreUses modules.conditions.items modules.timings.items made (def.path_uses source top corner)
  all-uses i made le u =
      uses-all (def.path_uses_of (nets source top) source corner (tick_of source top)) (instances source top) modules.conditions.items modules.timings.items i made
      (subst (λ n. n ≤ i) (placed-count source placed (instances source top) h.are_placed) le) u
