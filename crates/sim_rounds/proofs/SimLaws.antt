-- A simulator before time 0.
use Rattle.std.specs.Prelude.{◌≡◌, ℕ, zero, suc, ◌+◌, true, false, List, [], ◌∷◌, length, map, replicate, slice_index_or, take, None, refl}
use Rattle.std.proofs.Common.{sym, ◌∙◌, ap, subst, arith}
use Rattle.std.proofs.lemmas.List.{length-map}
use Rattle.sg_logic.specs.declared.values.Value.{Value}
use Rattle.sg_model.specs.Values.{value_at}
use Rattle.sg_model.specs.Agenda.{list_at}
use Rattle.sg_model.specs.Pending.{IsPending}
use Rattle.sg_circuit.specs.declared.elements.Element as code_element
use Rattle.sg_circuit.specs.declared.circuits.Parts.{Parts}
use Rattle.sg_circuit.specs.Seen.{element_seen}
use Rattle.sg_circuit.specs.Circuit.{Circuit, Element}
use Rattle.sg_stimulus.specs.Stimulus.{Stimulus}
use Rattle.fan_round.specs.Nets.{stamp_seen}
use Rattle.fan_round.specs.Rounds.{ArePending}
use Rattle.sim_times.specs.Runs.{IsOriginOf, origin_of}
use Rattle.sim_times.specs.Times.{Kept}
use Rattle.sim_times.specs.Watching.{none_yet}
use Rattle.sim_rounds.specs.Setting.{setting_of}
use Rattle.sim_machine.specs.Simulated.{first_state, first_value_of, machine_of}
use Rattle.sim_rounds.proofs.EngineLaws.{CanGoOn}

-- nothing is pending
at_none : {A : Type 0} (xs : List A) (d : ℕ) → list_at (map (λ x. []) xs) d ≡ []
at_none [] d = refl
at_none (x ∷ xs) zero = refl
at_none (x ∷ xs) (suc d) = at_none xs d

none_pending : (circuit : Circuit) (driven : List ℕ) (values : List Value) (now : ℕ) → ArePending driven values (first_state circuit).lists now
none_pending circuit driven values now = record {
  each = λ d l. subst (λ xs. IsPending xs (value_at values (slice_index_or driven d 0)) now) (sym (at_none circuit.elements d)) tt;
}

-- the first round of all evaluates each element
pub can_begin : (circuit : Circuit) → CanGoOn circuit true 0 (first_state circuit)
can_begin circuit = record {
  value_of_each = length-map circuit.nets (λ net. first_value_of net.driver);
  list_of_each = length-map circuit.elements (λ e. []);
  state_of_each = length-map circuit.elements _;
  settled = λ k. absurd (let q : true ≡ false = k in cc);
  in_order = none_pending circuit (machine_of circuit).outputs (first_state circuit).values 0;
}

-- the run begins before time 0
pub begins_first : (circuit : Circuit) (stimulus : Stimulus) (bound : ℕ) (kept : Kept) → kept.told ≡ (first_state circuit).values → kept.last ≡ 0 → IsOriginOf 0 stimulus.end kept (origin_of (setting_of circuit stimulus bound))
begins_first circuit stimulus bound kept told last = record {
  is = record {
    left = let e : 0 + suc stimulus.end ≡ suc stimulus.end = omega arith in e;
    begun = (refl, refl);
    unchanged = λ e. refl;
    calls = none_yet;
    uncounted = refl;
  };
  at = refl;
  told = told;
  last = last;
}

pub no_lists : {A : Type 0} (n : ℕ) (xs : List A) → n ≡ length xs → ◌≡◌ {A = List (List (ℕ × Value))} (replicate n []) (map (λ x. []) xs)
no_lists n xs e = ap {B = List (List (ℕ × Value))} (λ k. replicate k []) e ∙ each xs
  where
    each : {A : Type 0} (xs : List A) → ◌≡◌ {A = List (List (ℕ × Value))} (replicate (length xs) []) (map (λ x. []) xs)
    each [] = refl
    each (x ∷ xs) = ap (λ ys. [] ∷ ys) (each xs)

-- the parts of a circuit, as the simulator reads them
pub outputs_seen : (parts : Parts) (elements : List code_element.Element) → map (λ e. e.output) elements ≡ map (λ (e : Element). e.output) (map (element_seen parts) elements)
outputs_seen parts [] = refl
outputs_seen parts (e ∷ es) = ap (λ xs. e.output ∷ xs) (outputs_seen parts es)

pub no_stamps : {A : Type 0} (n : ℕ) (xs : List A) → n ≡ length xs → map stamp_seen (replicate n None) ≡ map (λ x. None) xs
no_stamps n xs e = ap (λ k. map stamp_seen (replicate k None)) e ∙ each xs
  where
    each : {A : Type 0} (xs : List A) → map stamp_seen (replicate (length xs) None) ≡ map (λ x. None) xs
    each [] = refl
    each (x ∷ xs) = ap (λ ys. None ∷ ys) (each xs)

pub map_taken : {A B : Type 0} (f : A → B) (n : ℕ) (xs : List A) → map f (take n xs) ≡ take n (map f xs)
map_taken f zero xs = refl
map_taken f (suc n) [] = refl
map_taken f (suc n) (x ∷ xs) = ap (λ ys. f x ∷ ys) (map_taken f n xs)

pub count_seen : {A B : Type 0} (xs : List A) (f : A → B) → length (map f xs) ≡ length xs
count_seen xs f = length-map xs f
