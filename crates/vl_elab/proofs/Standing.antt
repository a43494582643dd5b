-- Each fault that a step of elaboration refuses is one of the faults below the top.
use Rattle.std.specs.Prelude.{◌≡◌, ℕ, ◌<◌, List, ◌++◌, true, flat_map, length, drop, nat_lt, refl}
use Rattle.std.specs.List.{IsAmong}
use Rattle.std.proofs.Common.{arith, sym, inl, inr, subst}
use Rattle.std.proofs.lemmas.Bool.Decides.{nat_tests}
use Rattle.sg_delay.specs.declared.corners.Corner.{Corner}
use Rattle.vl_tree.specs.Tree.{Module, Source}
use Rattle.elab_model.specs.declared.kinds.ElabKind.TheVariants.{TooMany}
use Rattle.elab_model.specs.Delays.{tick_of}
use Rattle.elab_model.specs.Drivers.{elements}
use Rattle.elab_model.specs.Faults.{Fault, fault, fault_if}
use Rattle.elab_model.specs.Hierarchy.{Instance, instances}
use Rattle.elab_model.specs.HierarchyFaults.{self_instances, too_deep, first_too_many, count_limit, start, instance_faults_below}
use Rattle.elab_model.specs.ModuleFaults.{module_faults}
use Rattle.elab_model.specs.Nets.{nets}
use Rattle.circuit_model.specs.CheckUses.{check_uses}
use Rattle.circuit_model.specs.Faults.{path_faults, path_count, check_faults, over, too_many, driver_faults, faults_below}
use Rattle.elab_hierarchy.specs.Placing.{tree_faults}
use Rattle.elab_checks.specs.Reached.{reached_faults}
use Rattle.elab_laws.proofs.Lists.{In, in-left, in-right, in-either}
use Rattle.vl_elab.proofs.Among.{among-in, in-among, in-wider}

passed : (l n : ℕ) → l < n → nat_lt l n ≡ true
passed l n lt = grind (arith, nat_tests)

over-limit : (n : ℕ) → count_limit < n → In (fault TooMany start) (over n)
over-limit n lt = subst (λ b. In (fault TooMany start) (fault_if b TooMany start)) (sym (passed count_limit n lt)) (inl refl)

module _ (source : Source) (top : Module) (corner : Corner) where
  -- ---- the parts of all faults, and what stands behind each

  abbrev all : List Fault
  all = faults_below source top corner

  abbrev of_instances : List Fault
  of_instances = flat_map (instance_faults_below source top corner) (instances source top)

  abbrev of_counts : List Fault
  of_counts = too_many source top corner ++ driver_faults source top corner

  abbrev of_checks : List Fault
  of_checks = check_faults source top corner ++ of_counts

  abbrev of_paths : List Fault
  of_paths = path_faults source top corner ++ of_checks

  in-instances : (f : Fault) → In f of_instances → In f all
  in-instances f h = in-left f of_instances (too_deep source top ++ of_paths) h

  in-deep : (f : Fault) → In f (too_deep source top) → In f all
  in-deep f h = in-right f of_instances (too_deep source top ++ of_paths) (in-left f (too_deep source top) of_paths h)

  in-paths : (f : Fault) → In f of_paths → In f all
  in-paths f h = in-right f of_instances (too_deep source top ++ of_paths) (in-right f (too_deep source top) of_paths h)

  in-checks : (f : Fault) → In f of_checks → In f all
  in-checks f h = in-paths f (in-right f (path_faults source top corner) of_checks h)

  in-counts : (f : Fault) → In f (too_many source top corner) → In f all
  in-counts f h = in-checks f (in-right f (check_faults source top corner) of_counts (in-left f (too_many source top corner) (driver_faults source top corner) h))

  -- ---- what each step refuses

  pub of-tree : (f : Fault) → IsAmong (tree_faults source top) f → IsAmong all f
  of-tree f h =
      let own = flat_map (self_instances source) (instances source top) in
      let many = first_too_many (drop count_limit (instances source top)) in
      in-among all f
      (elim (in-either f own (too_deep source top ++ many) (among-in (tree_faults source top) f h)) [
        | inl g ↦ in-instances f
            (in-wider (self_instances source) (instance_faults_below source top corner) (instances source top) f
            (λ s k. in-left f (self_instances source s) (module_faults source corner (tick_of source top) s.step.definition) k) g)
        | inr g ↦ elim (in-either f (too_deep source top) many g) [ inl k ↦ in-deep f k | inr k ↦ in-counts f (in-left f many _ k) ]
      ])

  pub of-reached : (f : Fault) → IsAmong (reached_faults source corner top) f → IsAmong all f
  of-reached f h =
      let own : Instance → List Fault = λ s. module_faults source corner (tick_of source top) s.step.definition in
      in-among all f
      (in-instances f
      (in-wider own (instance_faults_below source top corner) (instances source top) f (λ s k. in-right f (self_instances source s) (own s) k) (among-in (reached_faults source corner top) f h)))

  pub of-paths : (f : Fault) → IsAmong (path_faults source top corner) f → IsAmong all f
  of-paths f h = in-among all f (in-paths f (in-left f (path_faults source top corner) of_checks (among-in (path_faults source top corner) f h)))

  pub of-checks : (f : Fault) → IsAmong (check_faults source top corner) f → IsAmong all f
  of-checks f h = in-among all f (in-checks f (in-left f (check_faults source top corner) of_counts (among-in (check_faults source top corner) f h)))

  pub of-drivers : (f : Fault) → IsAmong (driver_faults source top corner) f → IsAmong all f
  of-drivers f h =
      in-among all f
      (in-checks f
      (in-right f (check_faults source top corner) of_counts (in-right f (too_many source top corner) (driver_faults source top corner) (among-in (driver_faults source top corner) f h))))

  -- ---- of the counts

  abbrev over_checks : List Fault
  over_checks = over (length (check_uses source top corner))

  abbrev over_paths : List Fault
  over_paths = over (path_count source top corner) ++ over_checks

  abbrev over_elements : List Fault
  over_elements = over (length (elements source top corner)) ++ over_paths

  in-over_nets : (f : Fault) → In f (over (length (nets source top)) ++ over_elements) → IsAmong all f
  in-over_nets f h = in-among all f (in-counts f (in-right f (first_too_many (drop count_limit (instances source top))) (over (length (nets source top)) ++ over_elements) h))

  in-over_elements : (f : Fault) → In f over_elements → IsAmong all f
  in-over_elements f h = in-over_nets f (in-right f (over (length (nets source top))) over_elements h)

  in-over_paths : (f : Fault) → In f over_paths → IsAmong all f
  in-over_paths f h = in-over_elements f (in-right f (over (length (elements source top corner))) over_paths h)

  pub of-nets : count_limit < length (nets source top) → IsAmong all (fault TooMany start)
  of-nets lt = in-over_nets (fault TooMany start) (in-left (fault TooMany start) (over (length (nets source top))) over_elements (over-limit (length (nets source top)) lt))

  pub of-elements : count_limit < length (elements source top corner) → IsAmong all (fault TooMany start)
  of-elements lt =
      in-over_elements (fault TooMany start) (in-left (fault TooMany start) (over (length (elements source top corner))) over_paths (over-limit (length (elements source top corner)) lt))

  pub of-many_paths : count_limit < path_count source top corner → IsAmong all (fault TooMany start)
  of-many_paths lt = in-over_paths (fault TooMany start) (in-left (fault TooMany start) (over (path_count source top corner)) over_checks (over-limit (path_count source top corner) lt))

  pub of-many_checks : (f : Fault) → IsAmong over_checks f → IsAmong all f
  of-many_checks f h = in-over_paths f (in-right f (over (path_count source top corner)) over_checks (among-in over_checks f h))
