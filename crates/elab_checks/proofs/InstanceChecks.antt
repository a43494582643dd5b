-- What stands ready of an instance, and its checks.
use Rattle.std.specs.Prelude.{◌≡◌, ℕ, suc, ◌+◌, ◌<◌, ◌≤◌, All, List, [], ◌∷◌, Option, Some, drop, length, map, slice_get, slice_index_or, take, refl}
use Rattle.std.proofs.Common.{sym, ◌∙◌, ap, arith, subst}
use Rattle.std.proofs.lemmas.List.{length-map}
use Rattle.std.proofs.lemmas.Option.{slice_get_within}
use Rattle.cond_expr.specs.Condition.{Condition}
use Rattle.sg_circuit.specs.FanOut.{readers_at}
use Rattle.sg_delay.specs.declared.corners.Corner.{Corner}
use Rattle.vl_tree.specs.Tree.{Module, Source}
use Rattle.elab_model.specs.Delays.{tick_of}
use Rattle.elab_model.specs.Drivers.{elements}
use Rattle.elab_model.specs.Hierarchy.{Instance, instances}
use Rattle.elab_model.specs.Lates.{DelayedCopy}
use Rattle.elab_model.specs.Names.{variables}
use Rattle.elab_model.specs.Nets.{OwnNet, nets}
use Rattle.specify_model.specs.CheckFaults.{timing_check_faults}
use Rattle.circuit_model.specs.CheckUses as def
use Rattle.circuit_model.specs.PathUses.{bit_number}
use Rattle.elab_laws.specs.Handing.{all_bits, number_at}
use Rattle.elab_laws.proofs.Lists.{In, all-in}
use Rattle.elab_laws.proofs.NoFaults.{flat-empty}
use Rattle.elab_hierarchy.specs.declared.instances.Placed.{Placed}
use Rattle.elab_paths.specs.ReadyOfModules.{IsPrepared}
use Rattle.elab_paths.specs.Library.{Library}
use Rattle.elab_paths.specs.ReadyType as code_ready
use Rattle.elab_paths.specs.ReadyType.TheVariants as ready
use Rattle.elab_paths.specs.Prepared.{Prepared}
use Rattle.elab_paths.specs.Rows.{part_of, HasRow}
use Rattle.elab_paths.specs.RowsType.{Rows}
use Rattle.elab_paths.specs.Adding.{IsHere}
use Rattle.elab_paths.proofs.StandingAt.{at-place, at-split, instance-number, instance-ready}
use Rattle.elab_paths.proofs.InstanceUses.{placed-own}
use Rattle.elab_checks.specs.Ready.{check_ready, copies_in, HasChecks, IsReadyOf}
use Rattle.elab_checks.specs.Standing.{AreGiven, IsStanding, checks_at}
use Rattle.elab_checks.specs.Uses.{AreLates, IsUsableCheck}
use Rattle.elab_checks.specs.declared.modules.ReadyChecks.{ReadyChecks}
use Rattle.elab_checks.specs.declared.shelving.ReadyCheck.{ReadyCheck}
use Rattle.elab_checks.proofs.LatesInOrder.{lates-in-order}
use Rattle.elab_checks.proofs.SoundOperands.{usable}

pub stands : (source : Source) (top : Module) (corner : Corner) (library : Library) (modules : ReadyChecks) (conditions : List Condition) (placed : List Placed) (rows : Rows) (lates : List (List ℕ)) (i : ℕ) (p : Placed) → i < length placed
    → p ≡ slice_index_or placed i p → AreGiven source top corner library modules conditions placed rows lates → (s : Instance) × IsStanding source top corner library modules conditions placed rows lates i p s
stands source top corner library modules conditions placed rows lates i p lt e h =
    let r = placed-own source placed (instances source top) i p lt e h.are_placed in
    let few = h.few in
    (r.0, record { given = h; there = r.1; is_placed = r.2; below = omega (arith, lt, few) })

module _ (source : Source) (top : Module) (corner : Corner) (library : Library) (modules : ReadyChecks) (conditions : List Condition) (placed : List Placed) (rows : Rows) (lates : List (List ℕ)) (i : ℕ) (p : Placed) (s : Instance)
    (h : IsStanding source top corner library modules conditions placed rows lates i p s) where
  is-there : In s (instances source top)
  is-there = at-place (instances source top) i s h.there

  -- ---- its module

  pub ready-found : (q : Prepared) × (slice_get library.parts.items p.definition ≡ Some (Some (ready.Module q)))
  ready-found = let k = instance-ready source corner top library s p h.given.is_ready is-there h.is_placed in (k.0, k.1)

  pub prepared-is : (q : Prepared) → slice_get library.parts.items p.definition ≡ Some (Some (ready.Module q)) → IsPrepared q s.step.definition
  prepared-is q e =
      let k = instance-ready source corner top library s p h.given.is_ready is-there h.is_placed in
      let g : ◌≡◌ {A = Option (Option code_ready.Ready)} (Some (Some (ready.Module k.0))) (Some (Some (ready.Module q))) = sym k.1 ∙ e in
      let same : k.0 ≡ q = cc in
      subst (λ x. IsPrepared x s.step.definition) same k.2

  -- ---- its row

  row-of : (before : List Instance) × (length before ≡ i) × HasRow source top rows before s
  row-of =
      let r = at-split (instances source top) i s h.there in
      (take i (instances source top), r.1, h.given.have_rows.each (take i (instances source top)) (drop (suc i) (instances source top)) s r.0)

  pub row-within : (q : Prepared) (width : ℕ) → IsPrepared q s.step.definition → width ≡ length (all_bits q.table)
      → (start : ℕ) × ((slice_get rows.starts.items i ≡ Some start) × (start + width ≤ length rows.inner.items))
  row-within q width k w =
      let r = row-of in
      let same : width ≡ length (all_bits (variables s.step.definition)) = w ∙ ap (λ vs. length (all_bits vs)) k.table in
      (r.2.start, (subst (λ j. slice_get rows.starts.items j ≡ Some r.2.start) r.1 r.2.starts, subst (λ n. r.2.start + n ≤ length rows.inner.items) (sym same) r.2.inner_within))

  pub here-is : (q : Prepared) (width : ℕ) (row : List ℕ) → IsPrepared q s.step.definition → width ≡ length (all_bits q.table)
      → ((start : ℕ) → slice_get rows.starts.items i ≡ Some start → row ≡ part_of rows.inner.items start width) → IsHere (nets source top) source s i q.table row
  here-is q width row k w f =
      let r = row-of in
      let same : width ≡ length (all_bits (variables s.step.definition)) = w ∙ ap (λ vs. length (all_bits vs)) k.table in
      record {
        number = instance-number source top s i h.there;
        numbers = record {
          table = k.table;
          numbers = f r.2.start (subst (λ j. slice_get rows.starts.items j ≡ Some r.2.start) r.1 r.2.starts) ∙ ap (part_of rows.inner.items r.2.start) same ∙ r.2.inner
              ∙ ap (λ vs. map (number_at (nets source top) source s) (all_bits vs)) (sym k.table);
        };
      }

  -- ---- its Lates

  pub own-lates : AreLates (copies_in s.step.definition) (readers_at lates i) (def.late_number (elements source top corner) s)
  own-lates =
      let within = slice_get_within (instances source top) i s h.there in
      h.given.have_lates.each i within ∙ ap (def.lates_in (elements source top corner)) (sym (instance-number source top s i h.there)) ∙ lates-in-order source top corner s is-there

  pub lates-there : i < length lates
  lates-there = subst (λ n. i < n) (sym h.given.have_lates.count) (slice_get_within (instances source top) i s h.there)

  -- ---- its checks

  has-checks : HasChecks source top corner conditions modules s
  has-checks = all-in (HasChecks source top corner conditions modules) s (instances source top) h.given.have_checks.each is-there

  pub checks-found : (list : List ReadyCheck) × (checks_at modules p.definition ≡ Some list)
  checks-found = let k = has-checks p.definition h.is_placed.definition in (k.0, k.1.0)

  checks-are : (list : List ReadyCheck) → checks_at modules p.definition ≡ Some list → IsReadyOf source top corner conditions s.step.definition list
  checks-are list e =
      let k = has-checks p.definition h.is_placed.definition in
      let g : ◌≡◌ {A = Option (List ReadyCheck)} (Some k.0) (Some list) = sym k.1.0 ∙ e in
      let same : k.0 ≡ list = cc in
      subst (IsReadyOf source top corner conditions s.step.definition) same k.1.1

  no-fault : timing_check_faults corner (tick_of source top) s.step.definition ≡ []
  no-fault =
      let faults = λ (t : Instance). timing_check_faults corner (tick_of source top) t.step.definition in
      all-in (λ t. faults t ≡ []) s (instances source top) (flat-empty faults (instances source top) h.given.have_checks.faultless) is-there

  pub checks-usable : (q : Prepared) (list : List ReadyCheck) → IsPrepared q s.step.definition → checks_at modules p.definition ≡ Some list → All (IsUsableCheck q.table conditions (length (readers_at lates i))) list
  checks-usable q list k e =
      subst (λ n. All (IsUsableCheck q.table conditions n) list) (sym (ap length own-lates ∙ length-map (copies_in s.step.definition) (def.late_number (elements source top corner) s)))
      (subst (λ vs. All (IsUsableCheck vs conditions (length (copies_in s.step.definition))) list) (sym k.table) (usable source top corner s.step.definition conditions list (checks-are list e) no-fault h.given.have_checks.read))

  -- ---- over its nets and its Lates

  abbrev own_late : DelayedCopy → ℕ
  own_late = def.late_number (elements source top corner) s

  pub uses-are : (all : List OwnNet) (q : Prepared) (list : List ReadyCheck) (scope : ℕ) → IsPrepared q s.step.definition → checks_at modules p.definition ≡ Some list → s.step.number ≡ scope
      → map (λ c. def.check_use scope (bit_number all source s) own_late (check_ready conditions q.table (copies_in s.step.definition) c)) list ≡ def.check_uses_of all (elements source top corner) source corner (tick_of source top) s
  uses-are all q list scope k e n =
      ap (λ j. map (λ c. def.check_use j (bit_number all source s) own_late (check_ready conditions q.table (copies_in s.step.definition) c)) list) (sym n)
      ∙ ap (λ vs. map (λ c. def.check_use s.step.number (bit_number all source s) own_late (check_ready conditions vs (copies_in s.step.definition) c)) list) k.table
      ∙ twice (check_ready conditions (variables s.step.definition) (copies_in s.step.definition)) (def.check_use s.step.number (bit_number all source s) own_late) list
      ∙ ap (map (def.check_use s.step.number (bit_number all source s) own_late)) (checks-are list e).checks
    where
      twice : {A B C : Type 0} (f : A → B) (g : B → C) (xs : List A) → map (λ x. g (f x)) xs ≡ map g (map f xs)
      twice f g [] = refl
      twice f g (x ∷ xs) = ap (λ ys. g (f x) ∷ ys) (twice f g xs)

  pub uses-count : (all : List OwnNet) (q : Prepared) (list : List ReadyCheck) → IsPrepared q s.step.definition → checks_at modules p.definition ≡ Some list
      → length list ≡ length (def.check_uses_of all (elements source top corner) source corner (tick_of source top) s)
  uses-count all q list k e =
      sym (length-map list (λ c. def.check_use s.step.number (bit_number all source s) own_late (check_ready conditions q.table (copies_in s.step.definition) c))) ∙ ap length (uses-are all q list s.step.number k e refl)
