-- The checks of one module, with their conditions in the table.
use Rattle.std.specs.Prelude.{◌≡◌, ℕ, ℤ, All, List, [], ◌++◌, length, map}
use Rattle.std.proofs.Common.{sym, ◌∙◌, ap, subst}
use Rattle.std.proofs.lemmas.List.{length-map}
use Rattle.cond_expr.specs.Condition.{Condition}
use Rattle.sg_delay.specs.declared.corners.Corner.{Corner}
use Rattle.sg_text.specs.declared.refusals.Refused.{Refused}
use Rattle.vl_tree.specs.Tree.{Module}
use Rattle.elab_model.specs.declared.kinds.ElabKind.{ElabKind}
use Rattle.elab_model.specs.Faults.{RefusesOneOf}
use Rattle.elab_model.specs.Lates.{DelayedCopy, signal_count}
use Rattle.elab_model.specs.Names.{Variable, variables}
use Rattle.elab_lates.specs.Seen.{copy_seen}
use Rattle.specify_model.specs.Blocks.{specify_items}
use Rattle.specify_model.specs.CheckFaults.{all_check_faults, timing_check_faults}
use Rattle.specify_model.specs.Checks.{module_checks}
use Rattle.specify_model.specs.Outputs.{measure}
use Rattle.specify_checks.specs.Copies.{copies_seen, HasNames, IsReadable, IsReady}
use Rattle.specify_checks.proofs.CopyPlaces.{seen-copies}
use Rattle.specify_checks.specs.Seen.{check_seen, IsFitting}
use Rattle.specify_checks.specs.declared.checks.ModuleCheck.{ModuleCheck}
use Rattle.elab_paths.specs.ReadyOfModules.{IsPrepared}
use Rattle.elab_paths.specs.Prepared.{Prepared}
use Rattle.vl_tree.specs.Seen.{view_module}
use Rattle.elab_checks.specs.OfModules.{AreChecksOf}
use Rattle.elab_checks.specs.Ready.{check_ready, copies_in, IsReadyCheck}
use Rattle.elab_checks.specs.declared.shelving.ReadyCheck.{ReadyCheck}

module _ (corner : Corner) (tick : ℤ) (m : Module) (q : Prepared) (prepared : IsPrepared q m) where
  faults-same : all_check_faults q.copies.signals (measure corner tick (view_module q.definition.now)) q.table (specify_items (view_module q.definition.now)) ≡ timing_check_faults corner tick m
  faults-same =
      ap (λ n. all_check_faults n (measure corner tick (view_module q.definition.now)) q.table (specify_items (view_module q.definition.now))) prepared.copies.signals
      ∙ ap (λ k. all_check_faults (signal_count m) (measure corner tick k) q.table (specify_items k)) prepared.definition
      ∙ ap (λ xs. all_check_faults (signal_count m) (measure corner tick m) xs (specify_items m)) prepared.table

  pub own-refused : (r : Refused ElabKind) → RefusesOneOf (all_check_faults q.copies.signals (measure corner tick (view_module q.definition.now)) q.table (specify_items (view_module q.definition.now))) r
      → RefusesOneOf (timing_check_faults corner tick m) r
  own-refused r h = subst (λ fs. RefusesOneOf fs r) faults-same h

  pub own-faultless : all_check_faults q.copies.signals (measure corner tick (view_module q.definition.now)) q.table (specify_items (view_module q.definition.now)) ≡ [] → timing_check_faults corner tick m ≡ []
  own-faultless h = sym faults-same ∙ h

  -- the module is the definition's, and the variables and the copies are its
  is-ready : IsReady m q.table q.copies
  is-ready = record { variables_are = prepared.table; copies_are = prepared.copies }

  pub own-readable : HasNames m (variables m) → IsReadable (view_module q.definition.now) q.table q.copies
  own-readable named =
      subst (λ k. IsReadable k q.table q.copies) (sym prepared.definition)
      (record { ready = is-ready; named = subst (HasNames m) (sym prepared.table) named })

  same-copies : copies_seen q.table q.copies ≡ copies_in m
  same-copies = seen-copies m q.table q.copies is-ready

  same-count : length q.copies.copies.items ≡ length (copies_in m)
  same-count = sym (length-map q.copies.copies.items (λ p. copy_seen q.table p.copy)) ∙ ap length same-copies

  pub checks-made : (cs : List ModuleCheck) (conditions : List Condition) (list : List ReadyCheck)
      → map (check_seen q.table (copies_seen q.table q.copies)) cs ≡ module_checks (measure corner tick (view_module q.definition.now)) q.table (specify_items (view_module q.definition.now))
      → ((xs : List Variable) (ds : List DelayedCopy) (more : List Condition) → map (check_ready (conditions ++ more) xs ds) list ≡ map (check_seen xs ds) cs)
      → All (IsFitting q.table (length q.copies.copies.items)) cs
      → ((xs : List Variable) (copies : ℕ) → All (IsFitting xs copies) cs → All (IsReadyCheck xs (length conditions) copies) list) → AreChecksOf corner tick m conditions list
  checks-made cs conditions list seen ready fits named = record {
    checks = λ more.
        ap (λ vs. map (check_ready (conditions ++ more) vs (copies_in m)) list) (sym prepared.table)
        ∙ ap (λ ds. map (check_ready (conditions ++ more) q.table ds) list) (sym same-copies)
        ∙ ready q.table (copies_seen q.table q.copies) more
        ∙ seen
        ∙ ap (λ k. module_checks (measure corner tick k) q.table (specify_items k)) prepared.definition
        ∙ ap (λ xs. module_checks (measure corner tick m) xs (specify_items m)) prepared.table;
    named =
        subst (λ xs. All (IsReadyCheck xs (length conditions) (length (copies_in m))) list) prepared.table
        (subst (λ n. All (IsReadyCheck q.table (length conditions) n) list) same-count (named q.table (length q.copies.copies.items) fits));
  }
