-- An engine in a state from which its circuit can go on is ready for the next time, and stands for a run in that state.
use Rattle.std.specs.Prelude.{◌≡◌, ℕ, ◌<◌, ◌==◌, ◌^◌, Bool, true, false, if◌then◌else◌, All, List, [], ◌∷◌, length, map}
use Rattle.std.proofs.Common.{sym, ◌∙◌, ap, subst, arith}
use Rattle.std.proofs.lemmas.List.Elements.{All-nil, All-head, All-tail}
use Rattle.sg_logic.specs.declared.values.Value.{Value}
use Rattle.sg_model.specs.Values.{value_at}
use Rattle.sg_model.specs.Agenda.{list_at}
use Rattle.sg_model.specs.FanOut.{IsSettled}
use Rattle.sg_model.specs.Machine.{Machine, State, Snapshot, Violation}
use Rattle.sg_model.specs.Time.{Run}
use Rattle.sg_circuit.specs.Circuit.{Circuit}
use Rattle.sg_circuit.specs.Closed.{IsClosed}
use Rattle.sg_circuit.specs.FanOut.{IsFanOut}
use Rattle.sg_circuit.specs.declared.checks.Check.{Check}
use Rattle.sg_stimulus.specs.declared.steps.Set.{Set}
use Rattle.sg_stimulus.specs.Seen.{set_seen}
use Rattle.sg_stimulus.specs.Stimulus.{Step, Stimulus, sets_at}
use Rattle.sg_stimulus.specs.Applied.{IsApplied, IsInput}
use Rattle.fan_round.specs.declared.nets.Nets.{Nets}
use Rattle.fan_round.specs.declared.work.WorkList.{WorkList}
use Rattle.fan_round.specs.Rounds.{AreHanded, ArePending, AreSettled}
use Rattle.fan_round.specs.States.{state_seen, IsIdle, IsOfCircuit}
use Rattle.time_checks.specs.declared.latest.Latest.{Latest}
use Rattle.time_checks.specs.declared.violations.Violation as code_violation
use Rattle.time_checks.specs.Adjusted.{AdjustedCheck, adjusted_checks}
use Rattle.time_checks.specs.Checking.{Kept, LeadsTo}
use Rattle.time_checks.specs.Falling.{DontFall}
use Rattle.time_checks.specs.Seen.{violation_seen}
use Rattle.time_checks.specs.Violations.{violations_since}
use Rattle.sim_times.specs.declared.told.Told.{Told}
use Rattle.sim_times.specs.Checks.{AreFree}
use Rattle.sim_times.specs.Simulations.{AreChecksOf, IsReadyAt, StandsBetween}
use Rattle.sim_times.specs.Steps.{CanApply}
use Rattle.sim_rounds.specs.CircuitChecks.{AreBegun, AreChecksOver, HaveSeen}
use Rattle.sim_machine.specs.Elements.{ElementsSeen}
use Rattle.sim_rounds.specs.Engines.{AreChecksAt, IsEngineAt}
use Rattle.sim_machine.specs.Notifiers.{notifiers_of}
use Rattle.sim_machine.specs.Simulated.{machine_of, machine_since}
use Rattle.sim_rounds.proofs.CircuitChecksLaws.{checks_over_nets}
use Rattle.sim_rounds.proofs.NotifierLaws.{notifiers_free}
use Rattle.sim_rounds.proofs.MachineLaws.{steady, later, one_driver, input_is_no_output, outputs_within, length-inputs, length-outputs}

-- what the stimulus sets are inputs, which no element drives
inputs_at : (circuit : Circuit) (steps : List Step) (t : ℕ) → All (λ s. All (λ c. IsInput circuit c.0) s.sets) steps → All (λ c. IsInput circuit c.0) (sets_at steps t)
inputs_at circuit [] t h = All-nil (λ c. IsInput circuit c.0)
inputs_at circuit (s ∷ ss) t h = at (s.time == t) (inputs_at circuit ss t (All-tail (λ x. All (λ c. IsInput circuit c.0) x.sets) s ss h))
  where
    here : All (λ c. IsInput circuit c.0) s.sets
    here = All-head (λ x. All (λ c. IsInput circuit c.0) x.sets) s ss h

    at : (b : Bool) → All (λ c. IsInput circuit c.0) (sets_at ss t) → All (λ c. IsInput circuit c.0) (if b then s.sets else sets_at ss t)
    at true rest = here
    at false rest = rest

handed_inputs : (circuit : Circuit) → IsClosed circuit → (cs : List (ℕ × Value)) → All (λ c. IsInput circuit c.0) cs → AreHanded (machine_of circuit).outputs cs
handed_inputs circuit closed [] h = tt
handed_inputs circuit closed (c ∷ cs) h =
    (input_is_no_output circuit closed c.0 (All-head (λ x. IsInput circuit x.0) c cs h).1, handed_inputs circuit closed cs (All-tail (λ x. IsInput circuit x.0) c cs h))

pub applied_can : (circuit : Circuit) → IsClosed circuit → (stimulus : Stimulus) → IsApplied circuit stimulus → CanApply (machine_of circuit).outputs (length circuit.nets) stimulus
applied_can circuit closed stimulus h = record {
  rising = h.rising;
  within = λ t i d l. (inputs_at circuit stimulus.steps t h.inputs i d l).0;
  free = λ t. handed_inputs circuit closed (sets_at stimulus.steps t) (inputs_at circuit stimulus.steps t h.inputs);
}

-- in this state a circuit can go on at a time: with its first round of all, or each element is settled
pub record CanGoOn (circuit : Circuit) (all : Bool) (now : ℕ) (state : State) : Type 0 where
  pub value_of_each : length state.values ≡ length circuit.nets
  pub list_of_each : length state.lists ≡ length circuit.elements
  pub state_of_each : length state.states ≡ length circuit.elements
  pub settled : all ≡ false → AreSettled (machine_of circuit) state.values state.lists state.states
  pub in_order : ArePending (machine_of circuit).outputs state.values state.lists now

-- the machine is the circuit's
of_circuit : (circuit : Circuit) → IsClosed circuit → (earlier : List Latest) (m : Machine) → m ≡ machine_since circuit earlier → (fan : List (List ℕ)) (driven : List ℕ) (nets elements : ℕ) → nets ≡ length circuit.nets → elements ≡ length circuit.elements
    → IsFanOut (machine_of circuit).inputs fan → length fan ≡ length circuit.nets → driven ≡ (machine_of circuit).outputs → IsOfCircuit m fan driven nets elements
of_circuit circuit closed earlier m e fan driven nets elements n l f k d =
    subst (λ x. IsOfCircuit x fan driven nets elements) (sym e) (record {
      steady = record { stays = (steady circuit).stays };
      later = record { later = (later circuit).later };
      fan_out = f;
      each_net = omega arith;
      outputs = d;
      one_driver = one_driver circuit closed;
      within = subst (λ os. All (λ o. o < nets) os) (sym d) (subst (λ x. All (λ o. o < x) (machine_of circuit).outputs) (sym n) (outputs_within circuit closed));
      inputs_of_each = length-inputs circuit ∙ sym l;
      output_of_each = length-outputs circuit ∙ sym l;
      few = subst (λ x. x < 2 ^ 31) (sym l) closed.few_elements;
    })

-- its elements are settled whatever is known of earlier events
settled_since : (circuit : Circuit) (earlier : List Latest) (m : Machine) (values values' : List Value) (lists lists' : List (List (ℕ × Value))) (states states' : List Value) → m ≡ machine_since circuit earlier → values' ≡ values → lists' ≡ lists → states' ≡ states
    → AreSettled (machine_of circuit) values lists states → AreSettled m values' lists' states'
settled_since circuit earlier m values values' lists lists' states states' e v l t h =
    subst (λ x. AreSettled x values' lists' states') (sym e)
    (subst (λ vs. AreSettled (machine_since circuit earlier) vs lists' states') (sym v)
    (subst (λ ls. AreSettled (machine_since circuit earlier) values ls states') (sym l)
    (subst (λ ts. AreSettled (machine_since circuit earlier) values lists ts) (sym t) (record {
      each = λ k n. (let s : IsSettled (machine_of circuit) k values (list_at lists k) (value_at states k) = h.each k n in record { earlier = s.earlier; old = s.old; computed = s.computed; ends = s.ends });
    }))))

-- its checks are those of the machine
checks_of : (circuit : Circuit) → IsClosed circuit → (earlier : List Latest) (snapshots : List Snapshot) (m : Machine) (driven : List ℕ) (nets : ℕ) (checks : List Check) (kept : Kept) (touched named : WorkList) → AreChecksAt circuit earlier snapshots checks kept touched named
    → m ≡ machine_since circuit earlier → driven ≡ (machine_of circuit).outputs → nets ≡ length circuit.nets → AreChecksOf m driven nets (λ ss. violations_since kept.earlier kept.checks ss) (λ vs. notifiers_of checks (length kept.last) vs)
checks_of circuit closed earlier snapshots m driven nets checks kept touched named h e d n = record {
  violated = ap {B = List Snapshot → List Violation} (λ (ks : List AdjustedCheck) ss. violations_since kept.earlier ks ss) h.timings_are
      ∙ (ap {B = List Snapshot → List Violation} (λ (ls : List Latest) ss. violations_since ls (adjusted_checks circuit) ss) h.earlier ∙ ap (λ x. x.violated) (sym e));
  notifiers = ap {B = List Violation → List ℕ} (λ (ks : List Check) vs. notifiers_of ks (length kept.last) vs) h.checks_are
      ∙ (ap {B = List Violation → List ℕ} (λ (k : ℕ) vs. notifiers_of circuit.checks k vs) h.last ∙ ap (λ x. x.notifiers) (sym e));
  free = λ vs. subst (λ os. AreFree os nets (notifiers_of checks (length kept.last) vs)) (sym d)
      (subst (λ k. AreFree (machine_of circuit).outputs k (notifiers_of checks (length kept.last) vs)) (sym n)
      (subst (λ k. AreFree (machine_of circuit).outputs (length circuit.nets) (notifiers_of checks k vs)) (sym h.last)
      (subst (λ ks. AreFree (machine_of circuit).outputs (length circuit.nets) (notifiers_of ks (length circuit.nets) vs)) (sym h.checks_are) (notifiers_free circuit closed vs))));
}

pub engine_ready : (all : Bool) (now : ℕ) (circuit : Circuit) (earlier : List Latest) (state : State) (snapshots : List Snapshot) (nets : Nets) (told : Told) (work : WorkList) (elements : ElementsSeen) (lists : List (List (ℕ × Value))) (fan : List (List ℕ)) (driven : List ℕ) (sets : List Set) (ended : ℕ) (found : List code_violation.Violation) (stimulus : Stimulus) (checks : List Check) (kept : Kept) (touched named : WorkList)
    → IsClosed circuit → IsApplied circuit stimulus → CanGoOn circuit all now state → AreChecksAt circuit earlier snapshots checks kept touched named → IsEngineAt circuit earlier state nets told work elements lists fan driven → sets ≡ [] → ended ≡ 0
    → IsReadyAt all now (machine_since elements.circuit elements.earlier) (length elements.circuit.nets) fan driven nets told work lists elements.states (λ ss. violations_since kept.earlier kept.checks ss) (λ vs. notifiers_of checks (length kept.last) vs) sets ended found × (AreChecksOver checks kept touched named (length nets.values.items) × CanApply driven (length nets.values.items) stimulus)
engine_ready all now circuit earlier state snapshots nets told work elements lists fan driven sets ended found stimulus checks kept touched named closed applied can seen h s n =
    let many : length nets.values.items ≡ length circuit.nets = ap length h.values ∙ can.value_of_each in
    let each : length lists ≡ length circuit.elements = ap length h.lists ∙ can.list_of_each in
    let machine : machine_since elements.circuit elements.earlier ≡ machine_since circuit earlier = ap (λ c. machine_since c elements.earlier) h.circuit_of ∙ ap (λ (ls : List Latest). machine_since circuit ls) h.earlier_of in (
      record {
        round = record {
          circuit = of_circuit circuit closed earlier (machine_since elements.circuit elements.earlier) machine fan driven (length nets.values.items) (length lists) many each h.fan_out h.each_net h.outputs;
          state_of_each = ap length h.states ∙ (can.state_of_each ∙ sym each);
          settled = λ k. settled_since circuit earlier (machine_since elements.circuit elements.earlier) state.values nets.values.items state.lists lists state.states elements.states machine h.values h.lists h.states (can.settled k);
          nets_are = h.nets_are;
          idle = subst (IsIdle work) (sym each) h.idle;
          in_order = subst (λ os. ArePending os nets.values.items lists now) (sym h.outputs) (subst (λ vs. ArePending (machine_of circuit).outputs vs lists now) (sym h.values) (subst (λ ls. ArePending (machine_of circuit).outputs state.values ls now) (sym h.lists) can.in_order));
        };
        count = ap (λ c. length c.nets) h.circuit_of ∙ sym many;
        checks = checks_of circuit closed earlier snapshots (machine_since elements.circuit elements.earlier) driven (length nets.values.items) checks kept touched named seen machine h.outputs many;
        within = subst (λ cs. All (λ c. c.net < length nets.values.items) cs) (sym s) (All-nil (λ (c : Set). c.net < length nets.values.items));
        free = subst (λ cs. AreHanded driven (map (λ c. set_seen c) cs)) (sym s) tt;
        told = h.told;
        begun = omega (arith, n);
      },
      (
        subst (AreChecksOver checks kept touched named) (sym many) (checks_over_nets circuit earlier snapshots checks kept touched named closed seen),
        subst (λ os. CanApply os (length nets.values.items) stimulus) (sym h.outputs) (subst (λ k. CanApply (machine_of circuit).outputs k stimulus) (sym many) (applied_can circuit closed stimulus applied)),
      ),
    )

-- a run in a state, of which these snapshots were seen
abbrev pub run_in : State → List Snapshot → Run
run_in state snapshots = record { state = state; snapshots = snapshots; violations = []; before = state.values; evaluations = 0 }

-- states with the same parts are one
pub same_state : (a b : State) → a.values ≡ b.values → a.stamps ≡ b.stamps → a.lists ≡ b.lists → a.states ≡ b.states → a ≡ b
same_state a b v s l t =
    ap (λ x. record { values = x; stamps = a.stamps; lists = a.lists; states = a.states }) v
    ∙ (ap (λ x. record { values = b.values; stamps = x; lists = a.lists; states = a.states }) s
    ∙ (ap (λ x. record { values = b.values; stamps = b.stamps; lists = x; states = a.states }) l
    ∙ ap (λ x. record { values = b.values; stamps = b.stamps; lists = b.lists; states = x }) t))

pub engine_stands : (now : ℕ) (circuit : Circuit) (earlier : List Latest) (state : State) (snapshots : List Snapshot) (nets : Nets) (told : Told) (work : WorkList) (elements : ElementsSeen) (lists : List (List (ℕ × Value))) (fan : List (List ℕ)) (driven : List ℕ) (found : List code_violation.Violation) (counted ended : ℕ) (checks : List Check) (kept : Kept) (touched named : WorkList)
    → AreBegun earlier snapshots → DontFall now snapshots → LeadsTo snapshots touched.list.items state.values → AreChecksAt circuit earlier snapshots checks kept touched named → IsEngineAt circuit earlier state nets told work elements lists fan driven → found ≡ [] → counted ≡ 0 → ended ≡ 0
    → StandsBetween nets lists elements.states (HaveSeen kept touched nets.values.items) found counted ended now (run_in state snapshots)
engine_stands now circuit earlier state snapshots nets told work elements lists fan driven found counted ended checks kept touched named begun falls leads seen h f none zero = record {
  run = record {
    state = same_state state (state_seen nets lists elements.states) (sym h.values) (sym h.stamps) (sym h.lists) (sym h.states);
    before = sym h.before;
    checks = record {
      begun = subst (λ (ls : List Latest). AreBegun ls snapshots) (sym seen.earlier) begun;
      stands = seen.stands;
      leads = subst (λ vs. LeadsTo snapshots touched.list.items vs) (sym h.values) leads;
    };
    times = falls;
    violations = sym (ap (map (λ v. violation_seen v)) f);
    evaluations = none;
  };
  whole = omega (arith, zero, ap length f);
}
