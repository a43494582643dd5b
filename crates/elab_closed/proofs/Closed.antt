-- The parts of the circuit of a netlist without faults fit together.
use Rattle.std.specs.Prelude.{◌≡◌, ℕ, ◌<◌, ◌≤◌, ◌≤ℤ◌, ◌^◌, ◌↔◌, [], All, Option, Some, None, IfSome, IsSome, length, map, refl}
use Rattle.std.specs.List.{AllByRecursion}
use Rattle.std.proofs.Common.{sym, ◌∙◌, arith, subst}
use Rattle.std.proofs.lemmas.List.{length-map}
use Rattle.std.proofs.lemmas.List.Elements.{All-from_recursion, All-nil, All-weaker}
use Rattle.sg_circuit.specs.Circuit.{Scope}
use Rattle.sg_circuit.specs.Closed.{TakesInputs, HasDelays, HasFewPaths, HasDatum, HasLates, NamesNets, IsCheckTiming, IsNotifier, IsZeroOf}
use Rattle.elab_model.specs.Delays.{precision_of, tick_of}
use Rattle.elab_model.specs.Drivers.{elements}
use Rattle.elab_model.specs.Hierarchy.{Instance, instances}
use Rattle.elab_model.specs.HierarchyFaults.{count_limit}
use Rattle.elab_model.specs.Nets.{nets}
use Rattle.elab_model.specs.Numbered.{element_of, undriven}
use Rattle.elab_model.specs.Scopes.{scope_of}
use Rattle.circuit_model.specs.Circuits.{circuit, driving, driven_nets}
use Rattle.circuit_model.specs.Driving.{driving_faults}
use Rattle.circuit_model.specs.CheckUses.{CheckUse as Check_use, check_of_use, check_uses, timing_of_use, written_of_use}
use Rattle.circuit_model.specs.PathUses.{circuit_elements, path_uses, with_paths}
use Rattle.elab_laws.specs.Laws.{AreSound}
use Rattle.elab_laws.proofs.Lists.{all-map, all-weaker}
use Rattle.elab_laws.proofs.NoFaults.{all-from, each-faultless}
use Rattle.elab_laws.proofs.Precisions.{least-of_all}
use Rattle.elab_closed.specs.Laws.{CircuitIsClosed}
use Rattle.elab_closed.proofs.Checks.{CheckFits, IsToggled, checks-fit, same-kinds, same-long}
use Rattle.elab_closed.proofs.Counts.{faultless-parts, few, few-mapped}
use Rattle.elab_closed.proofs.Drivers.{driven-at, driven-count, driven-scopes, elements-named, nets-driven}
use Rattle.elab_closed.proofs.Elements.{StandsIn, elements-stand}
use Rattle.elab_closed.proofs.Outputs.{outputs-are}
use Rattle.elab_closed.proofs.Scopes.{parents-below, net-scopes}
use Rattle.elab_closed.proofs.Signals.{Weighs, nets_listed, scopes-short}
use Rattle.elab_closed.proofs.Widths.{HasBitsBelow, have-widths, have-bits}

few-of : (k n : ℕ) → k ≡ n → n ≤ count_limit → k < 2 ^ 31
few-of k n e le = omega arith

pub circuit-is_closed : CircuitIsClosed
circuit-is_closed source top corner h =
    let f = faultless-parts source top corner h in
    let own = nets source top in
    let ns = map undriven own in
    let es = circuit_elements source top corner in
    let d = driving source top corner in
    let ss = instances source top in
    let scope : Instance → Scope = scope_of own source in
    let net-count = length (driven_nets ns d) in
    let scope-count = length (map scope ss) in
    let as-listed : length ns ≡ length own = length-map own undriven in
    let as-nets : net-count ≡ length own = driven-count ns d ∙ as-listed in
    let as-instances : scope-count ≡ length ss = length-map ss scope in
    let sound : AreSound source top corner = each-faultless source top corner f.plain in
    let count = few source top corner f.counts in
    let outs = outputs-are source top corner sound in
    let placed : AllByRecursion (StandsIn (length own) (length ss)) es = elements-stand source top corner sound f.paths count.few_paths in
    let Stands = StandsIn net-count scope-count in
    let stand : All Stands es = All-from_recursion Stands es
    (subst (λ k. AllByRecursion (StandsIn k scope-count) es) (sym as-nets) (subst (λ k. AllByRecursion (StandsIn (length own) k) es) (sym as-instances) placed)) in
    let within : AllByRecursion (λ e. e.output < length ns) es =
    subst (λ k. AllByRecursion (λ e. e.output < k) es) (sym as-listed) (all-weaker (StandsIn (length own) (length ss)) (λ e. e.output < length own) es (λ e s. s.output) placed) in
    let faultless : driving_faults d (length ns) ≡ [] = subst (λ k. driving_faults d k ≡ []) (sym as-listed) f.drivers in
    let uses = check_uses source top corner in
    let checks = map check_of_use uses in
    let FitsIn : ℕ → ℕ → Check_use → Type 0 = λ net_count scope_count. CheckFits (circuit source top corner) (nets_listed source top) net_count scope_count (IsToggled source top corner) in
    let Fits = FitsIn net-count scope-count in
    let checked : AllByRecursion Fits uses =
    subst (λ k. AllByRecursion (FitsIn k scope-count) uses) (sym as-nets)
    (subst (λ k. AllByRecursion (FitsIn (length own) k) uses) (sym as-instances) (checks-fit source top corner f.drivers sound f.checks)) in
    record {
      few_nets = few-of net-count (length own) as-nets count.few_nets;
      few_elements = few-mapped (λ c. element_of own (with_paths (path_uses source top corner) c)) (elements source top corner) count.few_elements;
      few_checks = few-mapped check_of_use uses count.few_checks;
      few_scopes = few-mapped scope ss count.few_instances;
      parents = parents-below source top scope (λ s. refl) _;
      net_scopes = subst (λ k. All (λ n. n.scope < k) (driven_nets ns d)) (sym as-instances)
          (All-from_recursion (λ n. n.scope < length ss) (driven_nets ns d) (driven-scopes (λ k. k < length ss) ns d (net-scopes source top)));
      element_scopes = All-weaker Stands (λ e. e.scope < scope-count) (λ e s. s.scope) es stand;
      check_scopes = All-from_recursion (λ k. k.scope < scope-count) checks
          (all-map (λ k. k.scope < scope-count) check_of_use uses (all-weaker Fits (λ u. u.scope < scope-count) uses (λ u f. f.scope) checked));
      bits = subst (λ k. All (λ s. All (HasBitsBelow k) s.variables) (map scope ss)) (sym as-nets) (have-bits source top);
      inputs = All-weaker Stands (λ e. All (λ n. n < net-count) e.inputs) (λ e s. s.inputs) es stand;
      outputs = All-weaker Stands (λ e. e.output < net-count) (λ e s. s.output) es stand;
      paths = All-weaker Stands (λ e. NamesNets net-count e.kind) (λ e s. s.paths) es stand;
      named = elements-named ns d es outs faultless within _ _;
      drivers = nets-driven ns d es outs _ _;
      takes_inputs = All-weaker Stands (λ e. TakesInputs e.kind (length e.inputs)) (λ e s. s.takes) es stand;
      has_delays = All-weaker Stands (λ e. HasDelays e.kind) (λ e s. s.delays) es stand;
      few_paths = All-weaker Stands (λ e. HasFewPaths e.kind) (λ e s. s.few) es stand;
      widths = have-widths source top;
      datums = All-from_recursion (λ k. IsSome k.datum ↔ HasDatum k.kind) checks
          (all-map (λ k. IsSome k.datum ↔ HasDatum k.kind) check_of_use uses (all-weaker Fits (λ u. IsSome (check_of_use u).datum ↔ HasDatum u.kind) uses (λ u f. f.datum) checked));
      timing_of_each = same-long timing_of_use check_of_use uses;
      conditions_of_each = same-long written_of_use check_of_use uses;
      check_kinds = same-kinds uses;
      check_timings = All-from_recursion (IsCheckTiming net-count) (map timing_of_use uses)
          (all-map (IsCheckTiming net-count) timing_of_use uses (all-weaker Fits (λ u. IsCheckTiming net-count (timing_of_use u)) uses (λ u f. f.timing) checked));
      notifiers = All-from_recursion (λ k. IfSome k.notifier (λ n. IsNotifier (circuit source top corner) n)) checks
          (all-map (λ k. IfSome k.notifier (λ n. IsNotifier (circuit source top corner) n)) check_of_use uses
          (all-weaker Fits (λ u. IfSome u.notifier (λ n. IsNotifier (circuit source top corner) n)) uses (λ u f. toggled as-listed u.notifier f.notifier) checked));
      scales = All-from_recursion (λ s. tick_of source top ≤ℤ s.precision) (map scope ss)
          (all-map (λ s. tick_of source top ≤ℤ s.precision) scope ss
          (all-from (λ s. tick_of source top ≤ℤ precision_of s) ss (λ s there. least-of_all top.settings.scale.precision s ss there)));
      lates = All-from_recursion (HasLates (circuit source top corner)) (map timing_of_use uses)
          (all-map (HasLates (circuit source top corner)) timing_of_use uses (all-weaker Fits (λ u. HasLates (circuit source top corner) (timing_of_use u)) uses (λ u f. f.lates) checked));
      short = scopes-short (nets_listed source top) uses (all-weaker Fits (Weighs (nets_listed source top)) uses (λ u f. f.weighs) checked);
      zeroed = All-nil (IsZeroOf (circuit source top corner));
    }
  where
    toggled : length (map undriven (nets source top)) ≡ length (nets source top) → (o : Option ℕ) → IfSome o (IsToggled source top corner) → IfSome o (λ n. IsNotifier (circuit source top corner) n)
    toggled as-listed None t = tt
    toggled as-listed (Some n) t =
        let ns = map undriven (nets source top) in
        let d = driving source top corner in
        let lt : n < length ns = subst (λ k. n < k) (sym as-listed) t.0 in
        record { within = subst (λ k. n < k) (sym (driven-count ns d)) lt; driven = driven-at ns d n _ lt ∙ t.1 }
