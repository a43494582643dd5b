-- Each check of the circuit names an instance and nets that there are, and has what its kind asks for.
use Rattle.std.specs.Prelude.{◌≡◌, ◌↔◌, ℕ, zero, suc, ℤ, ◌+◌, ◌<◌, List, [], ◌∷◌, true, Option, Some, None, IfSome, IsSome, bytes_eq, find, flat_map, length, map, refl, slice_index_or, if◌then◌else◌}
use Rattle.std.specs.List.{AllByRecursion}
use Rattle.std.specs.Option.{option_map}
use Rattle.std.proofs.Common.{sym, ◌∙◌, ap, arith, subst}
use Rattle.std.proofs.lemmas.List.{length-map}
use Rattle.std.proofs.lemmas.List.Elements.{All-from_recursion}
use Rattle.cond_expr.specs.Token.{Tok}
use Rattle.cond_expr.specs.Tree.{Cond}
use Rattle.cond_expr.specs.Values.{AreBelow}
use Rattle.sg_circuit.specs.Circuit.{Circuit}
use Rattle.sg_circuit.specs.Closed.{HasDatum, HasLates, AreLatesOf, IsEventOf, IsCheckTiming, IsLateOf, TakesLates, width_of}
use Rattle.sg_circuit.specs.Signals.{datum_nets, signal_nets}
use Rattle.sg_circuit.specs.declared.checks.Check as code_check
use Rattle.sg_circuit.specs.declared.checks.CheckTiming as code_timing
use Rattle.sg_circuit.specs.declared.nets.Driver.TheVariants.{Notifier}
use Rattle.sg_delay.specs.declared.corners.Corner.{Corner}
use Rattle.vl_tree.specs.Tree.{Named, Check, Module, Source}
use Rattle.elab_model.specs.Bits.{positions, variable_named}
use Rattle.elab_model.specs.Delays.{tick_of}
use Rattle.elab_model.specs.Drivers.{Drive, drive, elements, variable_drives, net_place, reg_drives, check_drives}
use Rattle.elab_model.specs.Hierarchy.{Instance, instances}
use Rattle.elab_model.specs.Homes.{home_of}
use Rattle.elab_model.specs.Lates.{DelayedCopy, signal_count}
use Rattle.elab_model.specs.Members.{delayed_names}
use Rattle.elab_model.specs.ModuleFaults.{module_faults}
use Rattle.elab_model.specs.Names.{Variable, variables}
use Rattle.elab_model.specs.Nets.{nets, number_of}
use Rattle.elab_model.specs.Ports.{net_declarations}
use Rattle.specify_model.specs.Blocks.{parameters, specify_items}
use Rattle.specify_model.specs.CheckFaults.{notifier_faults, timing_check_faults, weight_of}
use Rattle.specify_model.specs.Checks.{ModuleEvent, ModuleCheck, check_texts, module_check, notifier_of, reg_bit, timing_checks}
use Rattle.specify_model.specs.Outputs.{measure}
use Rattle.specify_model.specs.Conditions.{over}
use Rattle.elab_model.specs.Terms.{NetBit}
use Rattle.specify_model.specs.Values.{Values, value_of}
use Rattle.circuit_model.specs.CheckUses.{CheckUse as Check_use, EventUse, check_of_use, check_use, check_uses_of, check_uses, event_of_use, event_use, late_number, timing_of_use, two_limits}
use Rattle.circuit_model.specs.Circuits.{circuit, driving}
use Rattle.circuit_model.specs.Driving.{driver_at}
use Rattle.circuit_model.specs.Faults.{check_faults, driver_faults}
use Rattle.circuit_model.specs.PathUses.{bit_number}
use Rattle.elab_laws.specs.Laws.{AreSound}
use Rattle.elab_laws.proofs.Copies.{in-module_copies}
use Rattle.elab_laws.proofs.Lists.{In, all-flat_in, all-in, all-map, all-weaker, in-flat, in-map, in-range}
use Rattle.elab_laws.proofs.NoFaults.{all-from}
use Rattle.elab_laws.proofs.Stated.{bits-have_nets}
use Rattle.elab_laws.proofs.Homes.{number-below}
use Rattle.elab_closed.specs.NamedNets.{EachInCheck, EachInEvent, EachOperand, HasCopyNets, IsNet}
use Rattle.elab_closed.proofs.CheckCopies.{IsName, asked-there, copies-of_terminals, names-sound}
use Rattle.elab_closed.proofs.Drivers.{reg-toggled}
use Rattle.elab_closed.proofs.Lates.{late-of}
use Rattle.elab_closed.proofs.Named.{check-there, checks-sound, operands-below}
use Rattle.elab_closed.proofs.NamedChecks.{if-weaker, known-as, reg-found, some-bit, terminals-of}
use Rattle.elab_closed.proofs.Scopes.{numbers-below_count}
use Rattle.elab_closed.proofs.Signals.{Weighs, listed-count, nets_listed, signal-listed}
use Rattle.elab_closed.proofs.SoundChecks.{AreNone, IsLight, IsShort, IsSoundCheck, check-sound, checks-none, light-short}

-- ---- what a check of an instance has

-- in a circuit of so many nets and scopes, with the signals of each scope
pub record CheckFits (c : Circuit) (listed : ℕ → List ℕ) (net_count scope_count : ℕ) (Toggled : ℕ → Type 0) (u : Check_use) : Type 0 where
  pub scope : u.scope < scope_count
  pub datum : IsSome (check_of_use u).datum ↔ HasDatum u.kind
  pub timing : IsCheckTiming net_count (timing_of_use u)
  pub notifier : IfSome u.notifier Toggled
  pub lates : HasLates c (timing_of_use u)
  pub weighs : Weighs listed u

module _ (P : NetBit → Type 0) (count : ℕ) (f : NetBit → ℕ) (small : (b : NetBit) → P b → f b < count) where
  event-fits : (m : ModuleEvent) → EachInEvent P m → IsEventOf count (event_of_use (event_use f m))
  event-fits m h = record { net = small m.bit h.bit; condition = by m.condition h.condition }
    where
      by : (o : Option (List Tok × Cond NetBit)) → IfSome o (λ c. EachOperand P c.1)
          → IfSome (option_map (λ (c : List Tok × Cond ℕ). c.1) (option_map (λ (c : List Tok × Cond NetBit). (c.0, over f c.1)) o)) (λ c. AreBelow count c)
      by None k = tt
      by (Some c) k = operands-below P count f small c.1 k

  datum-fits : (o : Option ModuleEvent) → IfSome o (EachInEvent P) → IfSome (option_map event_of_use (option_map (event_use f) o)) (λ e. IsEventOf count e)
  datum-fits None h = tt
  datum-fits (Some m) h = event-fits m h

mapped-some : {A B : Type 0} (g : A → B) (o : Option A) (P : Type 0) → (IsSome o ↔ P) → (IsSome (option_map g o) ↔ P)
mapped-some g None P h = h
mapped-some g (Some x) P h = h

mapped-if : {A B : Type 0} (g : A → B) (o : Option A) (P : B → Type 0) → IfSome o (λ x. P (g x)) → IfSome (option_map g o) P
mapped-if g None P h = tt
mapped-if g (Some x) P h = h

two-light : (weight : ℕ) (ls : List ℤ) → AllByRecursion (IsLight weight) ls → AllByRecursion (IsLight weight) (two_limits ls)
two-light weight [] h = (omega arith, (omega arith, tt))
two-light weight (l ∷ []) h = (h.0, (omega arith, tt))
two-light weight (l ∷ m ∷ more) h = (h.0, (h.1.0, tt))

-- the Lates of a check's copies are those of its terminals
abbrev AreLates : Circuit → (NetBit → ℕ) → (DelayedCopy → ℕ) → ModuleCheck → Type 0
AreLates circuit f late c = IfSome c.copies (λ ds. IsLateOf circuit (f c.refer.bit) (late ds.0) × IfSome c.datum (λ e. IsLateOf circuit (f e.bit) (late ds.1)))

use-lates : (circuit : Circuit) (scope signals : ℕ) (f : NetBit → ℕ) (late : DelayedCopy → ℕ) (c : ModuleCheck) → IsSoundCheck signals c → AreLates circuit f late c → HasLates circuit (timing_of_use (check_use scope f late c))
use-lates circuit scope signals f late c sound lates = record {
  exact = mapped-some (λ ds. late ds.0 ∷ late ds.1 ∷ []) c.copies (TakesLates c.kind) sound.copies;
  lates = mapped-if (λ ds. late ds.0 ∷ late ds.1 ∷ []) c.copies (AreLatesOf circuit (timing_of_use (check_use scope f late c)))
      (if-weaker (λ ds. IsLateOf circuit (f c.refer.bit) (late ds.0) × IfSome c.datum (λ e. IsLateOf circuit (f e.bit) (late ds.1)))
      (λ ds. AreLatesOf circuit (timing_of_use (check_use scope f late c)) (late ds.0 ∷ late ds.1 ∷ [])) c.copies
      (λ ds k. record {
        refer = k.0;
        datum = mapped-if event_of_use (option_map (event_use f) c.datum) (λ d. IsLateOf circuit d.net (late ds.1)) (mapped-if (event_use f) c.datum (λ (e : EventUse). IsLateOf circuit (event_of_use e).net (late ds.1)) k.1);
      }) lates);
}

-- the nets of a check's terminals are those of its scope's signals
abbrev AreListed : (ℕ → Type 0) → (NetBit → ℕ) → ModuleCheck → Type 0
AreListed Listed f c = IfSome c.copies (λ ds. Listed (f c.refer.bit) × IfSome c.datum (λ e. Listed (f e.bit)))

use-weighs : (listed : ℕ → List ℕ) (scope signals : ℕ) (f : NetBit → ℕ) (late : DelayedCopy → ℕ) (c : ModuleCheck) → length (listed scope) ≡ signals → IsSoundCheck signals c
    → AreListed (λ n. In n (listed scope)) f c → Weighs listed (check_use scope f late c)
use-weighs listed scope signals f late c count sound there = record {
  nets = λ takes. by c.copies (sound.copies.1 takes) there;
  limits = λ takes.
      let weight : weight_of signals c.kind ≡ length (listed scope) + 1 = ap (λ b. if b then signals + 1 else 1) takes ∙ ap (λ n. n + 1) (sym count) in
      subst (λ w. AllByRecursion (IsLight w) (two_limits c.limits)) weight (two-light (weight_of signals c.kind) c.limits sound.limits);
}
  where
    datum : (o : Option ModuleEvent) → IfSome o (λ e. In (f e.bit) (listed scope)) → AllByRecursion (λ n. In n (listed scope)) (datum_nets (option_map event_of_use (option_map (event_use f) o)))
    datum None h = tt
    datum (Some e) h = (h, tt)

    by : (o : Option (DelayedCopy × DelayedCopy)) → IsSome o → IfSome o (λ ds. In (f c.refer.bit) (listed scope) × IfSome c.datum (λ e. In (f e.bit) (listed scope)))
        → AllByRecursion (λ n. In n (listed scope)) (signal_nets (timing_of_use (check_use scope f late c)))
    by None s h = cc
    by (Some ds) s h = (h.0, datum c.datum h.1)

use-fits : (P : NetBit → Type 0) (C : DelayedCopy → Type 0) (circuit : Circuit) (listed : ℕ → List ℕ) (count scope_count scope signals : ℕ) (Toggled : ℕ → Type 0) (f : NetBit → ℕ) (late : DelayedCopy → ℕ)
    (c : ModuleCheck) → ((b : NetBit) → P b → f b < count) → scope < scope_count → IsSoundCheck signals c → EachInCheck P C c → IfSome c.notifier (λ b. Toggled (f b))
    → HasLates circuit (timing_of_use (check_use scope f late c)) → Weighs listed (check_use scope f late c) → CheckFits circuit listed count scope_count Toggled (check_use scope f late c)
use-fits P C circuit listed count scope_count scope signals Toggled f late c small lt sound named toggled lates weighs = record {
  scope = lt;
  datum = mapped-some (λ (e : EventUse). e.terminal) (option_map (event_use f) c.datum) (HasDatum c.kind) (mapped-some (event_use f) c.datum (HasDatum c.kind) sound.datum);
  timing = record {
    refer = event-fits P count f small c.refer named.refer;
    datum = datum-fits P count f small c.datum named.datum;
    has_datum = mapped-some event_of_use (option_map (event_use f) c.datum) (HasDatum c.kind) (mapped-some (event_use f) c.datum (HasDatum c.kind) sound.datum);
    has_edge = sound.edge;
    limits = All-from_recursion IsShort (two_limits c.limits)
        (all-weaker (IsLight (weight_of signals c.kind)) IsShort (two_limits c.limits) (light-short signals c.kind) (two-light (weight_of signals c.kind) c.limits sound.limits));
    second = sound.second;
    threshold = sound.threshold;
  };
  notifier = mapped-if f c.notifier Toggled toggled;
  lates = lates;
  weighs = weighs;
}

-- ---- all of a netlist

-- a net that the timing checks alone drive
abbrev pub IsToggled : Source → Module → Corner → ℕ → Type 0
IsToggled source top corner n = (n < length (nets source top)) × (driver_at (driving source top corner) n ≡ Notifier)

module _ (source : Source) (top : Module) (corner : Corner) (faultless : driver_faults source top corner ≡ []) where
  abbrev ss : List Instance
  ss = instances source top

  abbrev count : ℕ
  count = length (nets source top)

  -- the net of a reg
  regs : (s : Instance) (v : Variable) → In s ss → In v (variables s.step.definition) → v.is_reg ≡ true → In (number_of (nets source top) (home_of source s v.name 0)) (driving source top corner).regs
  regs s v there known reg =
      let at = net_place (find (λ d. bytes_eq v.name d.name.text) (net_declarations s.step.definition)) s.step.place in
      let x = drive Notifier at (home_of source s v.name 0) in
      let own : In x (variable_drives source s Notifier at v) =
      in-map (λ i. drive Notifier at (home_of source s v.name i)) 0 (positions v.range) (in-range 0 0 (width_of v.range) (omega arith) (let w = some-bit v.range in omega (arith, w))) in
      let drives : In x (reg_drives source s v) = subst (λ b. In x (if b then variable_drives source s Notifier at v else [])) (sym reg) own in
      in-map (λ (d : Drive). number_of (nets source top) d.spot) x (check_drives source top)
      (in-flat (λ (s : Instance). flat_map (reg_drives source s) (variables s.step.definition)) s x ss there (in-flat (reg_drives source s) v x (variables s.step.definition) known drives))

  toggled : (s : Instance) (v : Variable) → In s ss → In v (variables s.step.definition) → v.is_reg ≡ true → IsToggled source top corner (number_of (nets source top) (home_of source s v.name 0))
  toggled s v there known reg =
      let lt = (bits-have_nets source top s v 0 there known (some-bit v.range)).1 in
      (lt, reg-toggled (driving source top corner) count (number_of (nets source top) (home_of source s v.name 0)) faultless lt (regs s v there known reg))

  notifier-toggled : (s : Instance) (o : Option Named) → In s ss → notifier_faults (variables s.step.definition) o ≡ []
      → IfSome (option_map reg_bit o) (λ b. IsToggled source top corner (bit_number (nets source top) source s b))
  notifier-toggled s None there h = tt
  notifier-toggled s (Some n) there h =
      let vs = variables s.step.definition in
      let r = reg-found n (variable_named vs n.text) h in
      let k = known-as vs n.text r.0 r.1 in
      subst (λ name. IsToggled source top corner (number_of (nets source top) (home_of source s name 0))) (sym k.1) (toggled s r.0 there k.0 r.2)

  abbrev Fits : Check_use → Type 0
  Fits u = CheckFits (circuit source top corner) (nets_listed source top) count (length ss) (IsToggled source top corner) u

  -- a text of a module, in an instance
  text-fits : (s : Instance) (values : Values) (c : Check) → In s ss → In c (check_texts (specify_items s.step.definition))
      → AreNone (signal_count s.step.definition) (measure corner (tick_of source top) s.step.definition) (variables s.step.definition) values c → AllByRecursion (IsName (variables s.step.definition)) (delayed_names c)
      → Fits (check_use s.step.number (bit_number (nets source top) source s) (late_number (elements source top corner) s) (module_check (measure corner (tick_of source top) s.step.definition) (variables s.step.definition) values c))
  text-fits s values c there text h names =
      let all = nets source top in
      let m = s.step.definition in
      let vs = variables m in
      let by = measure corner (tick_of source top) m in
      let scope = s.step.number in
      let Net = IsNet source top s in
      let f = bit_number all source s in
      let late = late_number (elements source top corner) s in
      let made = module_check by vs values c in
      let sound = check-sound (signal_count m) by vs values c h in
      let ends = terminals-of h names in
      let lates : AreLates (circuit source top corner) f late made =
      copies-of_terminals (λ b d. IsLateOf (circuit source top corner) (f b) (late d)) vs c ends (λ d k. late-of source top corner s d there (in-module_copies m d (asked-there m c d text k))) in
      let listed : AreListed (λ n. In n (nets_listed source top scope)) f made =
      copies-of_terminals (λ b d. In (f b) (nets_listed source top scope)) vs c ends (λ d k. signal-listed source top s d there (asked-there m c d text k)) in
      use-fits Net (HasCopyNets source top s) (circuit source top corner) (nets_listed source top) count (length ss) scope (signal_count m) (IsToggled source top corner) f late made (λ b own. number-below _ all own)
      (all-in (λ s. s.step.number < length ss) s ss (numbers-below_count source top) there) sound (check-there source top corner s values c there text h names)
      (notifier-toggled s (notifier_of c) there h.notifier)
      (use-lates (circuit source top corner) scope (signal_count m) f late made sound lates)
      (use-weighs (nets_listed source top) scope (signal_count m) f late made (listed-count source top s there) sound listed)

  of-instance : (s : Instance) → In s ss → module_faults source corner (tick_of source top) s.step.definition ≡ [] → timing_check_faults corner (tick_of source top) s.step.definition ≡ []
      → AllByRecursion Fits (check_uses_of (nets source top) (elements source top corner) source corner (tick_of source top) s)
  of-instance s there plain h =
      let m = s.step.definition in
      let by = measure corner (tick_of source top) m in
      let vs = variables m in
      let texts = check_texts (specify_items m) in
      let values = value_of (parameters (specify_items m)) in
      let none = checks-none corner (tick_of source top) m h in
      let made : ModuleCheck → Check_use = check_use s.step.number (bit_number (nets source top) source s) (late_number (elements source top corner) s) in
      all-map Fits made (timing_checks corner (tick_of source top) m)
      (all-map (λ c. Fits (made c)) (module_check by vs values) texts
      (all-from (λ c. Fits (made (module_check by vs values c))) texts
      (λ c text. text-fits s values c there text (all-in (AreNone (signal_count m) by vs values) c texts none text) (names-sound source corner (tick_of source top) m c plain text))))

  pub checks-fit : AreSound source top corner → check_faults source top corner ≡ []
      → AllByRecursion (CheckFits (circuit source top corner) (nets_listed source top) (length (nets source top)) (length (instances source top)) (IsToggled source top corner)) (check_uses source top corner)
  checks-fit plain h =
      let tick = tick_of source top in
      let sound = checks-sound source top corner h in
      let uses = check_uses_of (nets source top) (elements source top corner) source corner tick in
      all-flat_in Fits uses ss
      (all-from (λ s. AllByRecursion Fits (uses s)) ss
      (λ s there.
      of-instance s there (all-in (λ s. module_faults source corner tick s.step.definition ≡ []) s ss plain there)
      (all-in (λ s. timing_check_faults corner tick s.step.definition ≡ []) s ss sound there)))

-- ---- the three tables go together

pub same-kinds : (us : List Check_use) (k : ℕ) (d : code_check.Check) (e : code_timing.CheckTiming) → k < length (map check_of_use us)
    → (slice_index_or (map check_of_use us) k d).kind ≡ (slice_index_or (map timing_of_use us) k e).kind
same-kinds [] k d e lt = absurd (omega (arith, lt))
same-kinds (u ∷ us) zero d e lt = refl
same-kinds (u ∷ us) (suc k) d e lt = same-kinds us k d e (omega (arith, lt))

pub same-long : {A B C : Type 0} (f : A → B) (g : A → C) (xs : List A) → length (map f xs) ≡ length (map g xs)
same-long f g xs = length-map xs f ∙ sym (length-map xs g)
