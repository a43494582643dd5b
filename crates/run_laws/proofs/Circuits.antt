-- A stimulus that tells what a run makes of the inputs makes the run again.
use Rattle.std.specs.Prelude.{◌≡◌, ◌≢◌, ℕ, zero, suc, ◌+◌, ◌<◌, ◌==◌, ◌⊎◌, Bool, true, false, if◌then◌else◌, All, List, [], ◌∷◌, length, map, slice_index_or, None, refl}
use Rattle.std.proofs.Common.{sym, ◌∙◌, ap, subst, arith, inl, inr}
use Rattle.std.proofs.lemmas.List.{length-map, get_or-map}
use Rattle.std.proofs.lemmas.List.Elements.{All-head, All-nil, All-tail}
use Rattle.sg_logic.specs.declared.values.Value.{Value}
use Rattle.sg_model.specs.Values.{value_at}
use Rattle.sg_model.specs.Machine.{Machine, IsNoOutput}
use Rattle.sg_model.specs.Round.{values_after}
use Rattle.sg_model.specs.Time.{Run, Whole, time_of}
use Rattle.sg_model.specs.Run.{times_from}
use Rattle.sg_model.proofs.RunSteps.{times-none, times-whole}
use Rattle.sg_circuit.specs.declared.nets.Driver.TheVariants as driver
use Rattle.sg_circuit.specs.Circuit.{Circuit, Element, Pass, net_at, element_at}
use Rattle.sg_circuit.specs.Closed.{IsNotifier}
use Rattle.sg_stimulus.specs.Applied.{IsInput}
use Rattle.sg_stimulus.specs.Stimulus.{Step, Stimulus, sets_at}
use Rattle.sim_times.specs.Runs.{Setting, run_for, start_of}
use Rattle.sim_times.proofs.RunLaws.{whole, times-append}
use Rattle.sim_rounds.specs.Notifiers.{is_named, numbers_from}
use Rattle.sim_rounds.specs.Setting.{setting_of}
use Rattle.sim_rounds.specs.Simulated.{first_state, machine_of, run_of_circuit}
use Rattle.sim_rounds.proofs.MachineLaws.{steady}
use Rattle.sim_rounds.proofs.NotifierLaws.{named_notifier}
use Rattle.run_laws.specs.Inputs.{Changes, HasDrivers, InputsMakeTheRun, TellInputs, nets_after}
use Rattle.run_laws.proofs.Rounds.{like_self}
use Rattle.run_laws.proofs.Sets.{IsFreeNet, alike_values, input_after, rounds_long, set_value}
use Rattle.run_laws.proofs.Times.{SetsAlike, SameEnd, times_again}

-- ---- inputs change by sets alone

not_among : (net : ℕ) (xs : List ℕ) → All (λ x. x ≢ net) xs → IsNoOutput net xs
not_among net [] h = tt
not_among net (x ∷ xs) h = (All-head (λ y. y ≢ net) x xs h, not_among net xs (All-tail (λ y. y ≢ net) x xs h))

not_numbered : (net : ℕ) (test : ℕ → Bool) (k n : ℕ) → (test net ≡ true → ⊥) → IsNoOutput net (numbers_from test k n)
not_numbered net test k zero h = tt
not_numbered net test k (suc n) h = at (test k) refl (not_numbered net test (suc k) n h)
  where
    at : (b : Bool) → test k ≡ b → IsNoOutput net (numbers_from test (suc k) n) → IsNoOutput net (if b then (k ∷ numbers_from test (suc k) n) else numbers_from test (suc k) n)
    at true e rest = ((λ same. h (ap test (sym same) ∙ e)), rest)
    at false e rest = rest

output_at : (circuit : Circuit) (e d : ℕ) → e < length circuit.elements → slice_index_or (map (λ (x : Element). x.output) circuit.elements) e d ≡ (element_at circuit e).output
output_at circuit e d l = get_or-map (λ (x : Element). x.output) circuit.elements e (record { scope = 0; inputs = []; output = 0; kind = Pass None }) d l

pub input_is_free : (circuit : Circuit) → HasDrivers circuit → (net : ℕ) → IsInput circuit net → IsFreeNet (machine_of circuit) net
input_is_free circuit has net input = record {
  output = not_among net (machine_of circuit).outputs (λ e d l same.
      (let l' : e < length circuit.elements = subst (λ n. e < n) (length-map circuit.elements (λ (x : Element). x.output)) l in
      let here : driver.Element e ≡ driver.Stimulus = sym (has.named e l') ∙ (ap (λ n. (net_at circuit n).driver) (sym (output_at circuit e d l') ∙ same) ∙ input.1) in
      cc));
  notifier = λ found. not_numbered net (is_named circuit.checks found) 0 (length circuit.nets) (λ e.
      (let named : IsNotifier circuit net = named_notifier (IsNotifier circuit) circuit.checks found net has.notifiers e in
      let here : driver.Notifier ≡ driver.Stimulus = sym named.driven ∙ input.1 in
      cc));
}

-- a stimulus that is applied sets inputs
pub sets_inputs : (circuit : Circuit) (steps : List Step) (t : ℕ) → All (λ s. All (λ c. IsInput circuit c.0) s.sets) steps → All (λ (c : ℕ × Value). IsInput circuit c.0) (sets_at steps t)
sets_inputs circuit [] t h = All-nil (λ (c : ℕ × Value). IsInput circuit c.0)
sets_inputs circuit (s ∷ ss) t h = at (s.time == t) (sets_inputs circuit ss t (All-tail (λ (x : Step). All (λ c. IsInput circuit c.0) x.sets) s ss h))
  where
    here : All (λ (c : ℕ × Value). IsInput circuit c.0) s.sets
    here = All-head (λ (x : Step). All (λ c. IsInput circuit c.0) x.sets) s ss h

    at : (b : Bool) → All (λ (c : ℕ × Value). IsInput circuit c.0) (sets_at ss t) → All (λ (c : ℕ × Value). IsInput circuit c.0) (if b then s.sets else sets_at ss t)
    at true rest = here
    at false rest = rest

-- ---- the runs that a run reaches

pub record Reached (s : Setting) (nets t : ℕ) (r : Run) : Type 0 where
  pub upto : run_for s t ≡ whole r
  pub long : length r.state.values ≡ nets

pub reached_start : (s : Setting) (nets : ℕ) → length s.first.values ≡ nets → Reached s nets 0 (start_of s.first)
reached_start s nets long = record { upto = times-none s.bound s.machine s.sets 0 (start_of s.first); long = long }

pub reached_next : (s : Setting) (nets t : ℕ) (r next : Run) → Reached s nets t r → time_of s.bound s.machine s.sets t r ≡ Whole next → Reached s nets (suc t) next
reached_next s nets t r next h e =
    let more : t + 1 ≡ suc t = omega arith in
    let from : 0 + t ≡ t = omega arith in
    record {
      upto = ap (run_for s) (sym more)
          ∙ (times-append t 1 s.bound s.machine s.sets 0 (start_of s.first) r h.upto
          ∙ (ap (λ k. times_from 1 s.bound s.machine s.sets k r) from ∙ (times-whole 0 s.bound s.machine s.sets t r next e ∙ times-none s.bound s.machine s.sets (suc t) next)));
      long = rounds_long s.machine t s.bound (t == 0) (s.sets t) r next nets h.long e;
    }

pub nets_reached : (circuit : Circuit) (rounds : ℕ) (stimulus : Stimulus) (nets t : ℕ) (r : Run) → Reached (setting_of circuit stimulus rounds) nets t r → nets_after circuit rounds stimulus t ≡ r.state.values
nets_reached circuit rounds stimulus nets t r h = ap (λ f. f.run.state.values) h.upto

-- at each time an input is as the sets make it
pub input_made : (circuit : Circuit) → HasDrivers circuit → (rounds : ℕ) (stimulus : Stimulus) (nets t : ℕ) (r next : Run) → Reached (setting_of circuit stimulus rounds) nets t r → time_of rounds (machine_of circuit) (sets_at stimulus.steps) t r ≡ Whole next
    → (net : ℕ) → IsInput circuit net → net < length r.state.values → value_at next.state.values net ≡ set_value (sets_at stimulus.steps t) net (value_at r.state.values net)
input_made circuit has rounds stimulus nets t r next h e net input l =
    (input_after (machine_of circuit) t rounds (t == 0) (sets_at stimulus.steps t) r next net (input_is_free circuit has net input) l e).value

pub same_runs : InputsMakeTheRun
same_runs circuit has rounds stimulus again applied end whole_run tells = record {
  whole = ap (λ f. f.spent) again_is ∙ ends.whole;
  snapshots = ap (λ f. f.run.snapshots) again_is ∙ ends.like.snapshots;
  violations = ap (λ f. f.run.violations) again_is ∙ ends.like.violations;
}
  where
    s : Setting
    s = setting_of circuit stimulus rounds

    m : Machine
    m = machine_of circuit

    n : ℕ
    n = length circuit.nets

    start : Run
    start = start_of (first_state circuit)

    nets : (t : ℕ) (r : Run) → Reached s n t r → nets_after circuit rounds stimulus t ≡ r.state.values
    nets t r h = nets_reached circuit rounds stimulus n t r h

    told : (t : ℕ) (r next : Run) → t < suc stimulus.end → Reached s n t r → Reached s n (suc t) next → TellInputs circuit r.state.values next.state.values (sets_at again.steps t)
    told t r next l h g =
        subst (λ vs. TellInputs circuit vs next.state.values (sets_at again.steps t)) (nets t r h)
        (subst (λ vs. TellInputs circuit (nets_after circuit rounds stimulus t) vs (sets_at again.steps t)) (nets (suc t) next g) (tells.each t (omega arith)))

    same : (t : ℕ) (r next : Run) → t < suc stimulus.end → Reached s n t r → time_of rounds m (sets_at stimulus.steps) t r ≡ Whole next → values_after m t (sets_at again.steps t) r.state ≡ values_after m t (sets_at stimulus.steps t) r.state
    same t r next l h e =
        let tell = told t r next l h (reached_next s n t r next h e) in
        alike_values (IsInput circuit) m t (sets_at stimulus.steps t) (sets_at again.steps t) r.state next.state.values (λ net i. (input_is_free circuit has net i).output) (sets_inputs circuit stimulus.steps t applied.inputs)
        tell.right tell.each (input_made circuit has rounds stimulus n t r next h e)

    none_set : (t : ℕ) (r next : Run) → Reached s n t r → Reached s n (suc t) next → time_of rounds m (sets_at stimulus.steps) t r ≡ Whole next → sets_at stimulus.steps t ≡ []
        → (sets_at again.steps t ≡ []) ⊎ Changes circuit (nets_after circuit rounds stimulus t) (nets_after circuit rounds stimulus (suc t)) → sets_at again.steps t ≡ []
    none_set t r next h g e none (inl empty) = empty
    none_set t r next h g e none (inr c) =
        let l : c.net < length r.state.values = subst (λ k. c.net < k) (sym h.long) c.input.0 in
        let stays : value_at next.state.values c.net ≡ value_at r.state.values c.net = input_made circuit has rounds stimulus n t r next h e c.net c.input l ∙ ap (λ cs. set_value cs c.net (value_at r.state.values c.net)) none in
        absurd (c.differs (ap (λ vs. value_at vs c.net) (nets (suc t) next g) ∙ (stays ∙ sym (ap (λ vs. value_at vs c.net) (nets t r h)))))

    alike : SetsAlike m (sets_at stimulus.steps) (sets_at again.steps) rounds (suc stimulus.end) (Reached s n)
    alike = record {
      next = λ t r next l h e. reached_next s n t r next h e;
      same = same;
      none = λ t r next p l h e none. none_set t r next h (reached_next s n t r next h e) e none (tells.needed t p (omega arith));
    }

    many : length (first_state circuit).states ≡ length (first_state circuit).lists
    many = length-map circuit.elements _ ∙ sym (length-map circuit.elements _)

    ends : SameEnd (times_from (suc stimulus.end) rounds m (sets_at stimulus.steps) 0 start) (times_from (suc stimulus.end) rounds m (sets_at again.steps) 0 start)
    ends =
        times_again (suc stimulus.end) rounds m (steady circuit) (sets_at stimulus.steps) (sets_at again.steps) 0 (suc stimulus.end) (Reached s n) start start (omega arith) alike
        (reached_start s n (length-map circuit.nets _)) (like_self start) many (λ f. absurd (let q : true ≡ false = f in cc)) whole_run

    again_is : run_of_circuit circuit rounds again ≡ times_from (suc stimulus.end) rounds m (sets_at again.steps) 0 start
    again_is = ap (λ k. times_from (suc k) rounds m (sets_at again.steps) 0 start) end
