-- The terminals of all timing checks of a circuit without faults are variables of their scope.
use Rattle.std.specs.Prelude.{◌≡◌, ℕ, ℤ, List, [], ◌∷◌, All, IfSome, Option, Some, None, map}
use Rattle.std.specs.List.{AllByRecursion}
use Rattle.std.specs.Option.{option_map}
use Rattle.std.proofs.Common.{sym, ap, subst}
use Rattle.std.proofs.lemmas.List.Elements.{All-from_recursion}
use Rattle.sg_circuit.specs.Checks.{CheckConditions}
use Rattle.sg_circuit.specs.Circuit.{Circuit, scope_at}
use Rattle.sg_circuit.specs.declared.checks.Check.{Check}
use Rattle.sg_circuit.specs.declared.checks.CheckTiming.{CheckTiming}
use Rattle.sg_delay.specs.declared.corners.Corner.{Corner}
use Rattle.vl_tree.specs.Tree.{Module, Source}
use Rattle.elab_model.specs.Delays.{tick_of}
use Rattle.elab_model.specs.Drivers.{elements}
use Rattle.elab_model.specs.Hierarchy.{Instance, instances}
use Rattle.elab_model.specs.Lates.{DelayedCopy, signal_count}
use Rattle.elab_model.specs.ModuleFaults.{module_faults}
use Rattle.elab_model.specs.Names.{variables}
use Rattle.elab_model.specs.Nets.{nets}
use Rattle.elab_model.specs.Terms.{NetBit}
use Rattle.specify_model.specs.Blocks.{parameters, specify_items}
use Rattle.specify_model.specs.CheckFaults.{timing_check_faults}
use Rattle.specify_model.specs.Checks.{ModuleCheck, ModuleEvent, check_texts, module_check, timing_checks}
use Rattle.specify_model.specs.Outputs.{measure}
use Rattle.specify_model.specs.Values.{value_of}
use Rattle.circuit_model.specs.CheckUses.{CheckUse, check_of_use, check_use, check_uses, check_uses_of, event_of_use, event_use, late_number, timing_of_use, written_of_use}
use Rattle.circuit_model.specs.Circuits.{circuit}
use Rattle.circuit_model.specs.Faults.{faults_below}
use Rattle.circuit_model.specs.PathUses.{bit_number}
use Rattle.elab_laws.proofs.EndBits.{HasNetBit}
use Rattle.elab_laws.proofs.Lists.{In, all-flat_in, all-from, all-in, all-map, all-weaker}
use Rattle.elab_laws.proofs.NoFaults.{each-faultless}
use Rattle.elab_closed.specs.NamedNets.{EachInCheck, EachInEvent}
use Rattle.elab_closed.proofs.CheckCopies.{names-sound}
use Rattle.elab_closed.proofs.Counts.{faultless-parts}
use Rattle.elab_closed.proofs.Named.{checks-sound}
use Rattle.elab_closed.proofs.NamedChecks.{check-known}
use Rattle.elab_closed.proofs.SoundChecks.{AreNone, checks-none}
use Rattle.late_limits.specs.Adjusted.{IsAdjustedFrom, adjusted}
use Rattle.neg_limits.specs.declared.pairs.Zeroed.{Zeroed}
use Rattle.annotation_model.specs.Spots.{Checked, all_checked, checked}
use Rattle.written_reading.specs.Named.{IsNamedCheck, IsVariableOf}
use Rattle.written_names.proofs.ScopeNets.{net-of, scope-there}

-- ---- the checks of a module

-- each bit that a check names is one of a variable
abbrev IsOfBits : Module → ModuleCheck → Type 0
IsOfBits m c = EachInCheck (HasNetBit (variables m)) (λ d. Unit {0}) c

module-bits : (source : Source) (corner : Corner) (tick : ℤ) (m : Module) → module_faults source corner tick m ≡ [] → timing_check_faults corner tick m ≡ [] → AllByRecursion (IsOfBits m) (timing_checks corner tick m)
module-bits source corner tick m plain h =
    let by = measure corner tick m in
    let vs = variables m in
    let values = value_of (parameters (specify_items m)) in
    let texts = check_texts (specify_items m) in
    let misses = checks-none corner tick m h in
    all-map (IsOfBits m) (module_check by vs values) texts
    (all-from (λ c. IsOfBits m (module_check by vs values c)) texts
    (λ c text. check-known vs (HasNetBit vs) (λ b k. k) (λ d. Unit {0}) (signal_count m) by values c (all-in (AreNone (signal_count m) by vs values) c texts misses text) (names-sound source corner tick m c plain text)
    (λ d k. tt)))

-- ---- the checks of an instance

abbrev checked_use : CheckUse → Checked
checked_use u = record { check = check_of_use u; timing = timing_of_use u; written = written_of_use u }

module _ (source : Source) (top : Module) (corner : Corner) (s : Instance) (there : In s (instances source top)) where
  bit-named : (b : NetBit) → HasNetBit (variables s.step.definition) b → IsVariableOf (scope_at (circuit source top corner) s.step.number).variables (bit_number (nets source top) source s b)
  bit-named b h =
      let scope = sym (ap (λ x. x.variables) (scope-there source top corner s there)) in
      subst (λ vs. IsVariableOf vs (bit_number (nets source top) source s b)) scope (net-of source top s there (λ p. Unit {0}) b h (λ v q known same. tt))

  datum-named : (o : Option ModuleEvent) → IfSome o (EachInEvent (HasNetBit (variables s.step.definition)))
      → IfSome (option_map event_of_use (option_map (event_use (bit_number (nets source top) source s)) o)) (λ e. IsVariableOf (scope_at (circuit source top corner) s.step.number).variables e.net)
  datum-named None h = tt
  datum-named (Some e) h = bit-named e.bit h.bit

  check-named : (late : DelayedCopy → ℕ) (c : ModuleCheck) → IsOfBits s.step.definition c → IsNamedCheck (circuit source top corner) (checked_use (check_use s.step.number (bit_number (nets source top) source s) late c))
  check-named late c h = record { refer = bit-named c.refer.bit h.refer.bit; datum = datum-named c.datum h.datum }

-- ---- all checks

all-checked : {U : Type 0} (P : Checked → Type 0) (f : U → Check) (g : U → CheckTiming) (h : U → CheckConditions) (us : List U)
    → AllByRecursion (λ u. P (record { check = f u; timing = g u; written = h u })) us → AllByRecursion P (checked (map f us) (map g us) (map h us))
all-checked P f g h [] k = tt
all-checked P f g h (u ∷ us) k = (k.0, all-checked P f g h us k.1)

each-named : (source : Source) (top : Module) (corner : Corner) → faults_below source top corner ≡ [] → AllByRecursion (λ u. IsNamedCheck (circuit source top corner) (checked_use u)) (check_uses source top corner)
each-named source top corner h =
    let f = faultless-parts source top corner h in
    let tick = tick_of source top in
    let ss = instances source top in
    let plain = each-faultless source top corner f.plain in
    let sound = checks-sound source top corner f.checks in
    let all = nets source top in
    let cs = elements source top corner in
    let Named : CheckUse → Type 0 = λ u. IsNamedCheck (circuit source top corner) (checked_use u) in
    all-flat_in Named (check_uses_of all cs source corner tick) ss
    (all-from (λ s. AllByRecursion Named (check_uses_of all cs source corner tick s)) ss
    (λ s there.
    let m = s.step.definition in
    let use_of : ModuleCheck → CheckUse = check_use s.step.number (bit_number all source s) (late_number cs s) in
    all-map Named use_of (timing_checks corner tick m)
    (all-weaker (IsOfBits m) (λ c. Named (use_of c)) (timing_checks corner tick m) (check-named source top corner s there (late_number cs s))
    (module-bits source corner tick m (all-in (λ s. module_faults source corner tick s.step.definition ≡ []) s ss plain there)
    (all-in (λ s. timing_check_faults corner tick s.step.definition ≡ []) s ss sound there)))))

same-named : (c : Circuit) (zeroed : ℕ → List Zeroed) (delays : ℕ → List ℕ) (k : Checked) → IsNamedCheck c k → IsNamedCheck (adjusted c zeroed delays) k
same-named c zeroed delays k h = record { refer = h.refer; datum = h.datum }

-- the terminals of timing checks are variables of their scope
pub checks-named : (source : Source) (top : Module) (corner : Corner) (made : Circuit) → faults_below source top corner ≡ [] → IsAdjustedFrom (circuit source top corner) made → All (IsNamedCheck made) (all_checked made)
checks-named source top corner made h a =
    let c = circuit source top corner in
    let after = adjusted c a.zeroed a.delays in
    let uses = check_uses source top corner in
    let own : AllByRecursion (IsNamedCheck c) (all_checked c) = all-checked (IsNamedCheck c) check_of_use timing_of_use written_of_use uses (each-named source top corner h) in
    subst (λ c. All (IsNamedCheck c) (all_checked c)) (sym a.made_is)
    (All-from_recursion (IsNamedCheck after) (all_checked after) (all-weaker (IsNamedCheck c) (IsNamedCheck after) (all_checked c) (same-named c a.zeroed a.delays) own))
