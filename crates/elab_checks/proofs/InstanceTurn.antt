-- The turn of an instance: its checks come behind those before.
use Rattle.std.specs.Prelude.{◌≡◌, ℕ, ◌+◌, ◌<◌, ◌≤◌, List, ◌++◌, Some, flat_map, length, slice_index_or, take}
use Rattle.std.proofs.Common.{sym, ◌∙◌, subst}
use Rattle.cond_expr.specs.Condition.{Condition}
use Rattle.sg_circuit.specs.FanOut.{readers_at}
use Rattle.sg_delay.specs.declared.corners.Corner.{Corner}
use Rattle.sg_text.specs.declared.refusals.Refused.{Refused}
use Rattle.vl_tree.specs.Tree.{Module, Source}
use Rattle.elab_model.specs.declared.kinds.ElabKind.{ElabKind}
use Rattle.elab_model.specs.Delays.{tick_of}
use Rattle.elab_model.specs.Drivers.{elements}
use Rattle.elab_model.specs.Faults.{RefusesOneOf}
use Rattle.elab_model.specs.Hierarchy.{Instance, instances}
use Rattle.elab_model.specs.Lates.{DelayedCopy}
use Rattle.elab_model.specs.Nets.{OwnNet, nets}
use Rattle.circuit_model.specs.CheckUses as def
use Rattle.circuit_model.specs.Faults.{over}
use Rattle.elab_numbering.specs.Refusals.{RefusesCount}
use Rattle.elab_hierarchy.specs.declared.instances.Placed.{Placed}
use Rattle.elab_paths.specs.ReadyOfModules.{IsPrepared}
use Rattle.elab_paths.specs.Library.{Library}
use Rattle.elab_paths.specs.Prepared.{Prepared}
use Rattle.elab_paths.specs.RowsType.{Rows}
use Rattle.elab_paths.specs.Adding.{IsHere}
use Rattle.elab_paths.proofs.StandingAt.{placed-count}
use Rattle.elab_checks.specs.Ready.{copies_in}
use Rattle.elab_checks.specs.Standing.{AreGiven, IsStanding, checks_at}
use Rattle.elab_checks.specs.Uses.{AreLates, AreUses}
use Rattle.elab_checks.specs.declared.modules.ReadyChecks.{ReadyChecks}
use Rattle.elab_checks.specs.declared.shelving.ReadyCheck.{ReadyCheck}
use Rattle.elab_checks.specs.declared.uses.CheckTables.{CheckTables}
use Rattle.elab_checks.proofs.InstanceChecks.{own-lates, stands, uses-are, uses-count}
use Rattle.elab_checks.proofs.OneByOne.{uses_in, uses-next, uses-all, uses-refused}

module _ (source : Source) (top : Module) (corner : Corner) (library : Library) (modules : ReadyChecks) (conditions : List Condition) (placed : List Placed) (rows : Rows) (lates : List (List ℕ)) (i : ℕ) (p : Placed) (s : Instance)
    (h : IsStanding source top corner library modules conditions placed rows lates i p s) (q : Prepared) (prepared : IsPrepared q s.step.definition) (list : List ReadyCheck)
    (found : checks_at modules p.definition ≡ Some list) where
  pub instance-uses : (row own : List ℕ) → own ≡ readers_at lates i → (old new : CheckTables) (us : List def.CheckUse) → IsHere (nets source top) source s i q.table row
      → ((all : List OwnNet) (source : Source) (s : Instance) (late : DelayedCopy → ℕ) (ds : List DelayedCopy) (us : List def.CheckUse) → IsHere all source s i q.table row → AreLates ds own late
      → AreUses conditions old us → AreUses conditions new (us ++ uses_in all source s i conditions q.table late ds list))
      → AreUses conditions old us → AreUses conditions new (us ++ def.check_uses_of (nets source top) (elements source top corner) source corner (tick_of source top) s)
  instance-uses row own same old new us here f u =
      subst (λ xs. AreUses conditions new (us ++ xs)) (uses-are source top corner library modules conditions placed rows lates i p s h (nets source top) q list i prepared found here.number)
      (f (nets source top) source s (def.late_number (elements source top corner) s) (copies_in s.step.definition) us here (same ∙ own-lates source top corner library modules conditions placed rows lates i p s h) u)

  pub instance-refused : (old : CheckTables) (r : Refused ElabKind) → ((total : ℕ) → length old.checks.items + length list ≤ total → RefusesCount total r)
      → (total : ℕ) → length old.checks.items + length (def.check_uses_of (nets source top) (elements source top corner) source corner (tick_of source top) s) ≤ total → RefusesCount total r
  instance-refused old r f total le =
      f total (subst (λ n. length old.checks.items + n ≤ total) (sym (uses-count source top corner library modules conditions placed rows lates i p s h (nets source top) q list prepared found)) le)

-- ---- so many instances, and one more

module _ (source : Source) (top : Module) (corner : Corner) (library : Library) (modules : ReadyChecks) (conditions : List Condition) (placed : List Placed) (rows : Rows) (lates : List (List ℕ))
    (h : AreGiven source top corner library modules conditions placed rows lates) where
  pub next-uses : (i : ℕ) (p : Placed) (old new : CheckTables) → i < length placed → p ≡ slice_index_or placed i p
      → ((s : Instance) (us : List def.CheckUse) → IsStanding source top corner library modules conditions placed rows lates i p s → AreUses conditions old us
      → AreUses conditions new (us ++ def.check_uses_of (nets source top) (elements source top corner) source corner (tick_of source top) s))
      → AreUses conditions old (flat_map (def.check_uses_of (nets source top) (elements source top corner) source corner (tick_of source top)) (take i (instances source top)))
      → AreUses conditions new (flat_map (def.check_uses_of (nets source top) (elements source top corner) source corner (tick_of source top)) (take (i + 1) (instances source top)))
  next-uses i p old new lt is f u =
      let k = stands source top corner library modules conditions placed rows lates i p lt is h in
      let F = def.check_uses_of (nets source top) (elements source top corner) source corner (tick_of source top) in
      uses-next F (instances source top) conditions i k.0 new k.1.there (f k.0 (flat_map F (take i (instances source top))) k.1 u)

  pub next-refused : (i : ℕ) (p : Placed) (old : CheckTables) (r : Refused ElabKind) → i < length placed → p ≡ slice_index_or placed i p
      → ((s : Instance) → IsStanding source top corner library modules conditions placed rows lates i p s
      → (total : ℕ) → length old.checks.items + length (def.check_uses_of (nets source top) (elements source top corner) source corner (tick_of source top) s) ≤ total → RefusesCount total r)
      → AreUses conditions old (flat_map (def.check_uses_of (nets source top) (elements source top corner) source corner (tick_of source top)) (take i (instances source top)))
      → RefusesOneOf (over (length (def.check_uses source top corner))) r
  next-refused i p old r lt is f u =
      let k = stands source top corner library modules conditions placed rows lates i p lt is h in
      uses-refused (def.check_uses_of (nets source top) (elements source top corner) source corner (tick_of source top)) (instances source top) conditions i k.0 old r k.1.there u (f k.0 k.1)

  pub all-uses : (i : ℕ) (made : CheckTables) → length placed ≤ i
      → AreUses conditions made (flat_map (def.check_uses_of (nets source top) (elements source top corner) source corner (tick_of source top)) (take i (instances source top)))
      → AreUses conditions made (def.check_uses source top corner)
  all-uses i made le u =
      uses-all (def.check_uses_of (nets source top) (elements source top corner) source corner (tick_of source top)) (instances source top) conditions i made
      (subst (λ n. n ≤ i) (placed-count source placed (instances source top) h.are_placed) le) u
