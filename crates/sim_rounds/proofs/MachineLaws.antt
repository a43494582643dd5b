-- The machine of a circuit keeps what the model and the engine ask of a machine.
use Rattle.std.specs.Prelude.{◌≡◌, ◌≢◌, Bool, true, false, if◌then◌else◌, ℕ, zero, suc, ◌+◌, ◌<◌, ◌≤◌, All, List, [], ◌∷◌, length, map, Option, Some, None, slice_index_or, refl}
use Rattle.std.proofs.Common.{sym, ◌∙◌, ap, subst, arith}
use Rattle.std.proofs.lemmas.List.{length-map, get_or-map}
use Rattle.std.proofs.lemmas.List.Elements.{All-map}
use Rattle.sg_logic.specs.declared.values.Value.{Value}
use Rattle.sg_logic.specs.Gate.{gate_value}
use Rattle.udp_rows.specs.declared.cells.RawRow.{RawRow}
use Rattle.udp_rows.specs.Meaning.{udp_next, state_after, after_step, step_of, input_value, combinational_value}
use Rattle.sg_model.proofs.PlacingSteps.{same-self}
use Rattle.sg_model.specs.Values.{value_at}
use Rattle.sg_model.specs.Machine.{Stamp, IsNoOutput, AreOutputs}
use Rattle.sg_model.specs.Quiet.{IsLawful}
use Rattle.sg_model.specs.FanOut.{IsSteady, AgreeAt}
use Rattle.sg_circuit.specs.declared.nets.Driver.{Driver}
use Rattle.sg_circuit.specs.declared.nets.Driver.TheVariants as driver
use Rattle.sg_circuit.specs.Circuit.{Circuit, Element, Kind, Gate, Udp, Pass, Leg, Path, Late, element_at, net_at}
use Rattle.path_pick.proofs.LaterLaws.{picked_later}
use Rattle.sg_circuit.specs.Closed.{IsClosed}
use Rattle.sg_circuit.specs.declared.checks.Check.{Check}
use Rattle.time_checks.specs.declared.latest.Latest.{Latest}
use Rattle.time_checks.specs.Adjusted.{adjusted_checks}
use Rattle.time_checks.proofs.QuietLaws.{violations-again}
use Rattle.sim_machine.specs.Notifiers.{is_named, numbers_from}
use Rattle.fan_round.specs.Rounds.{IsLater, time_of_rule}
use Rattle.sim_machine.specs.Simulated.{machine_of, machine_since, values_at, value_of_kind, rule_of_kind}

pub lawful_since : (circuit : Circuit) (earlier : List Latest) → IsLawful (machine_since circuit earlier)
lawful_since circuit earlier = record {
  quiet = λ now last values older. violations-again earlier (adjusted_checks circuit) now (record { time = last; values = values }) older;
  unnamed = none_named circuit.checks 0 (length circuit.nets);
}
  where
    none_named : (checks : List Check) (k n : ℕ) → numbers_from (is_named checks []) k n ≡ []
    none_named checks k zero = refl
    none_named checks k (suc n) = none_named checks (suc k) n

pub lawful : (circuit : Circuit) → IsLawful (machine_of circuit)
lawful circuit = lawful_since circuit []

-- the values that an element reads are the same
pub read_same : (nets : List ℕ) (vs ws : List Value) → AgreeAt nets vs ws → values_at nets vs ≡ values_at nets ws
read_same [] vs ws a = refl
read_same (net ∷ nets) vs ws a = ap (λ v. v ∷ values_at nets vs) a.0 ∙ ap (λ xs. value_at ws net ∷ xs) (read_same nets vs ws a.1)

-- a primitive whose inputs stay has its state
unchanged_state : (rows : List RawRow) (values : List Value) (state : Value) (n : ℕ) → state_after rows values values state n ≡ state
unchanged_state rows values state zero = refl
unchanged_state rows values state (suc n) =
    ap (λ b. if b then state_after rows values values state n else after_step rows (step_of values values (state_after rows values values state n) n)) (same-self (input_value values n) (input_value values n) refl)
    ∙ unchanged_state rows values state n

udp_stays : (sequential : Bool) (rows : List RawRow) (n : ℕ) (a b : List Value) (s : Value)
    → (if sequential then state_after rows b b (if sequential then state_after rows a b s n else combinational_value rows (input_value b)) n else combinational_value rows (input_value b))
    ≡ (if sequential then state_after rows a b s n else combinational_value rows (input_value b))
udp_stays true rows n a b s = unchanged_state rows b (state_after rows a b s n) n
udp_stays false rows n a b s = refl

-- computed again from inputs that stayed, a value stays
kind_same : (kind : Kind) (a b d : List Value) (s : Value) → b ≡ d → value_of_kind kind b d (value_of_kind kind a b s) ≡ value_of_kind kind a b s
kind_same (Gate kind delays) a b d s e = ap (gate_value kind) (sym e)
kind_same (Udp primitive first delays) a b d s e = ap (λ vs. udp_next primitive b vs (udp_next primitive a b s)) (sym e) ∙ udp_stays primitive.sequential primitive.rows primitive.inputs a b s
kind_same (Pass None) a b d s e = ap (λ vs. value_at vs 0) (sym e)
kind_same (Pass (Some value)) a b d s e = refl
kind_same (Leg timings) a b d s e = ap (λ vs. value_at vs 0) (sym e)
kind_same (Path paths style) a b d s e = ap (λ vs. value_at vs 0) (sym e)
kind_same (Late delay) a b d s e = ap (λ vs. value_at vs 0) (sym e)

pub inputs_at : (elements : List Element) (e : ℕ) (blank : Element) → blank.inputs ≡ [] → slice_index_or (map (λ (x : Element). x.inputs) elements) e [] ≡ (slice_index_or elements e blank).inputs
inputs_at [] e blank h = sym h
inputs_at (x ∷ xs) zero blank h = refl
inputs_at (x ∷ xs) (suc e) blank h = inputs_at xs e blank h

pub steady : (circuit : Circuit) → IsSteady (machine_of circuit)
steady circuit = record {
  stays = λ e earlier before after state agree.
      kind_same (element_at circuit e).kind (values_at (element_at circuit e).inputs earlier) (values_at (element_at circuit e).inputs before) (values_at (element_at circuit e).inputs after) state
      (read_same (element_at circuit e).inputs before after (subst (λ nets. AgreeAt nets before after) (inputs_at circuit.elements e (record { scope = 0; inputs = []; output = 0; kind = Pass None }) refl) agree));
}

-- no value is placed before now
kind_later : (kind : Kind) (now : ℕ) (values : List Value) (stamps : List (Option Stamp)) (from to : Value) → now ≤ time_of_rule (rule_of_kind kind now values stamps from to)
kind_later (Gate kind delays) now values stamps from to = omega arith
kind_later (Udp primitive first delays) now values stamps from to = omega arith
kind_later (Pass constant) now values stamps from to = omega arith
kind_later (Leg timings) now values stamps from to = omega arith
kind_later (Path paths style) now values stamps from to = picked_later paths values stamps now from to
kind_later (Late delay) now values stamps from to = omega arith

pub later : (circuit : Circuit) → IsLater (machine_of circuit)
later circuit = record { later = λ now e values stamps from to. kind_later (element_at circuit e).kind now values stamps from to }

-- the outputs of elements are apart, since each net names the element that drives it
element_of : Driver → ℕ
element_of driver.Nobody = 0
element_of driver.Stimulus = 0
element_of (driver.Element e) = e
element_of driver.Notifier = 0

number_is : (a b : ℕ) → driver.Element a ≡ driver.Element b → a ≡ b
unfolding element_of
number_is a b same = ap element_of same

no_output : (drives : ℕ → Driver) (net : ℕ) (outputs : List ℕ) → ((e : ℕ) → e < length outputs → drives net ≢ drives (slice_index_or outputs e 0)) → IsNoOutput net outputs
no_output drives net [] h = tt
no_output drives net (x ∷ xs) h = ((λ same. h 0 (omega arith) (ap drives (sym same))), no_output drives net xs (λ e l. h (suc e) (omega arith)))

apart : (drives : ℕ → Driver) (k : ℕ) (outputs : List ℕ) → ((e : ℕ) → e < length outputs → drives (slice_index_or outputs e 0) ≡ driver.Element (k + e)) → AreOutputs outputs
apart drives k [] h = tt
apart drives k (x ∷ xs) h = (
  no_output drives x xs (λ e l same.
      (let number : k + 0 ≡ k + suc e = number_is (k + 0) (k + suc e) (sym (h 0 (omega arith)) ∙ (same ∙ h (suc e) (omega arith))) in
      let f : ⊥ = omega arith in f)),
  apart drives (suc k) xs (λ e l. (let e' : k + suc e ≡ suc k + e = omega arith in h (suc e) (omega arith) ∙ ap (λ n. driver.Element n) e')),
)

pub output_at : (circuit : Circuit) (e : ℕ) → e < length circuit.elements → slice_index_or (map (λ (x : Element). x.output) circuit.elements) e 0 ≡ (element_at circuit e).output
output_at circuit e l = get_or-map (λ (x : Element). x.output) circuit.elements e (record { scope = 0; inputs = []; output = 0; kind = Pass None }) 0 l

-- what is named by an element of a closed circuit
named_at : (circuit : Circuit) → IsClosed circuit → (e : ℕ) → e < length (machine_of circuit).outputs → (net_at circuit (slice_index_or (machine_of circuit).outputs e 0)).driver ≡ driver.Element (0 + e)
named_at circuit closed e l =
    let l' : e < length circuit.elements = subst (λ n. e < n) (length-map circuit.elements (λ (x : Element). x.output)) l in
    let zero_and : e ≡ 0 + e = omega arith in
    ap (λ n. (net_at circuit n).driver) (output_at circuit e l') ∙ (closed.named e l' ∙ ap (λ n. driver.Element n) zero_and)

pub one_driver : (circuit : Circuit) → IsClosed circuit → AreOutputs (machine_of circuit).outputs
one_driver circuit closed = apart (λ n. (net_at circuit n).driver) 0 (machine_of circuit).outputs (named_at circuit closed)

pub input_is_no_output : (circuit : Circuit) → IsClosed circuit → (net : ℕ) → (net_at circuit net).driver ≡ driver.Stimulus → IsNoOutput net (machine_of circuit).outputs
input_is_no_output circuit closed net is =
    no_output (λ n. (net_at circuit n).driver) net (machine_of circuit).outputs (λ e l same. (let f : driver.Stimulus ≡ driver.Element (0 + e) = sym is ∙ (same ∙ named_at circuit closed e l) in cc))

pub notifier_is_no_output : (circuit : Circuit) → IsClosed circuit → (net : ℕ) → (net_at circuit net).driver ≡ driver.Notifier → IsNoOutput net (machine_of circuit).outputs
notifier_is_no_output circuit closed net is =
    no_output (λ n. (net_at circuit n).driver) net (machine_of circuit).outputs (λ e l same. (let f : driver.Notifier ≡ driver.Element (0 + e) = sym is ∙ (same ∙ named_at circuit closed e l) in cc))

pub outputs_within : (circuit : Circuit) → IsClosed circuit → All (λ n. n < length circuit.nets) (machine_of circuit).outputs
outputs_within circuit closed = All-map (λ n. n < length circuit.nets) (λ (x : Element). x.output) circuit.elements closed.outputs

pub length-inputs : (circuit : Circuit) → length (machine_of circuit).inputs ≡ length circuit.elements
length-inputs circuit = length-map circuit.elements (λ (x : Element). x.inputs)

pub length-outputs : (circuit : Circuit) → length (machine_of circuit).outputs ≡ length circuit.elements
length-outputs circuit = length-map circuit.elements (λ (x : Element). x.output)
