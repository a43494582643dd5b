-- A cause is an event of the run.
use Rattle.std.specs.Prelude.{◌≡◌, ℕ, ◌+◌, ◌<◌, ◌==◌, Bool, true, false, cond, List, [], ◌∷◌, filter_map, length, map, Option, Some, None, IfSome, Result, Ok, Err, IfOk, slice_get}
use Rattle.std.specs.List.{enumerate_from, last_or, AllByRecursion}
use Rattle.std.specs.Option.{option_and_then}
use Rattle.std.proofs.Common.{sym, subst}
use Rattle.sg_logic.specs.declared.values.Value.{Value}
use Rattle.sg_logic.specs.declared.values.Value.TheVariants.{X}
use Rattle.sg_logic.specs.Values.{is_same}
use Rattle.udp_rows.specs.Meaning.{Primitive}
use Rattle.sg_circuit.specs.Paths as specify
use Rattle.sg_circuit.specs.Circuit.{Circuit, Element, Kind, Gate, Udp, Pass, Leg, Path, Late, element_at}
use Rattle.why_causes.specs.declared.changes.Change.{Change}
use Rattle.why_causes.specs.declared.changes.Candidate.{Candidate}
use Rattle.why_causes.specs.declared.links.Rule.{Rule}
use Rattle.why_causes.specs.declared.links.Rule.TheVariants as rule
use Rattle.why_causes.specs.declared.links.Cause.{Cause}
use Rattle.why_causes.specs.declared.links.Cause.TheVariants.{Nothing, NeverSet, Linked}
use Rattle.why_causes.specs.Waveform.{Waveform, value_before, value_at}
use Rattle.why_causes.specs.Candidates.{time_of, inputs_of, last_of, last_of_each}
use Rattle.why_causes.specs.Causes.{found, never_set, became_first, never_or_first, by_unknown, unknown_inputs, by_unknown_inputs, exactly, path_delay, limit_of, through_path, picked_path, by_path, last_inputs, delay_of, stepping, last_step, by_inputs, is_step, or_else, cause_through}
use Rattle.why_causes.specs.Links.{IsWithin}
use Rattle.why_causes.proofs.Lists.{each-filter}
use Rattle.why_causes.proofs.WithinLaws.{last-of-in, each-mapped, last-each}

abbrev Is : ℕ → Candidate → Type 0
Is n c = c.number < n

pub within-ok : {E : Type 0} (n : ℕ) (x : Cause) (r : Result Cause E) → IfOk r (λ c. c ≡ x) → IsWithin n x → IfOk r (λ c. IsWithin n c)
within-ok n x (Ok c) h k = subst (IsWithin n) (sym h) k
within-ok n x (Err e) h k = tt

or-else-within : (n : ℕ) (a b : Cause) → IsWithin n a → IsWithin n b → IsWithin n (or_else a b)
or-else-within n Nothing b h k = k
or-else-within n (NeverSet e i) b h k = tt
or-else-within n (Linked link) b h k = h

found-within : (n element : ℕ) (change : Change) (by : Rule) (o : Option Candidate) → IfSome o (Is n) → IsWithin n (found element change by o)
found-within n element change by None h = tt
found-within n element change by (Some c) h = h

head-some : {A : Type 0} (P : A → Type 0) (xs : List A) → AllByRecursion P xs → IfSome (slice_get xs 0) P
head-some P [] h = tt
head-some P (x ∷ xs) h = h.0

last-of-is : (w : Waveform) (time : ℕ) (input : ℕ × ℕ) → IfSome (last_of w time input) (Is (length w.events))
last-of-is w time input = at (last_of w time input) (last-of-in w time input)
  where
    at : (o : Option Candidate) → IfSome o (λ (c : Candidate). (c.number < length w.events) × (c.event.time < time)) → IfSome o (Is (length w.events))
    at None h = tt
    at (Some c) h = h.0

each-is : (w : Waveform) (time : ℕ) (inputs : List (ℕ × ℕ)) → AllByRecursion (Is (length w.events)) (last_of_each w time inputs)
each-is w time inputs = each-mapped (Is (length w.events)) (last_of w time) inputs (last-of-is w time)

never-within : (n element : ℕ) (change : Change) (never : Option (ℕ × ℕ)) (first : Option Candidate) → IfSome first (Is n) → IsWithin n (never_or_first element change never first)
never-within n element change None first h = found-within n element change _ first h
never-within n element change (Some i) first h = tt

unknown-within : (circuit : Circuit) (w : Waveform) (number : ℕ) (element : Element) (change : Change) → IsWithin (length w.events) (by_unknown circuit w number element change)
unknown-within circuit w number element change = at (is_same change.to X)
  where
    at : (b : Bool) → IsWithin (length w.events) (cond b (by_unknown_inputs w number change (unknown_inputs circuit w change.time (inputs_of element))) Nothing)
    at true =
        let unknown = unknown_inputs circuit w change.time (inputs_of element) in
        never-within (length w.events) number change (never_set w change.time unknown) (became_first w change.time unknown)
        (head-some (Is (length w.events)) _ (each-filter (Is (length w.events)) _ (last_of_each w (change.time + 1) unknown) (each-is w (change.time + 1) unknown)))
    at false = tt

through-is : (w : Waveform) (change : Change) (path : ℕ × specify.Path) → IfSome (through_path w change path) (Is (length w.events))
through-is w change path = at (last_of w (limit_of (path_delay path.1 change) change) (path.0, path.1.input)) (last-of-is w (limit_of (path_delay path.1 change) change) (path.0, path.1.input))
  where
    kept : (c : Candidate) (b : Bool) → Is (length w.events) c → IfSome (cond b (Some c) None) (Is (length w.events))
    kept c true h = h
    kept c false h = tt

    at : (o : Option Candidate) → IfSome o (Is (length w.events)) → IfSome (option_and_then (exactly (path_delay path.1 change) change) o) (Is (length w.events))
    at None h = tt
    at (Some c) h = kept c (time_of c + path_delay path.1 change == change.time) h

path-within : (w : Waveform) (number : ℕ) (kind : Kind) (change : Change) → IsWithin (length w.events) (by_path w number kind change)
path-within w number (Gate kind delays) change = tt
path-within w number (Udp udp first delays) change = tt
path-within w number (Pass constant) change = tt
path-within w number (Leg timings) change = tt
path-within w number (Late delay) change = tt
path-within w number (Path paths style) change =
    found-within (length w.events) number change _ (picked_path w change paths)
    (head-some (Is (length w.events)) _ (each-filter (Is (length w.events)) _ (filter_map (through_path w change) (enumerate_from 0 paths)) (each-mapped (Is (length w.events)) (through_path w change) (enumerate_from 0 paths) (through-is w change))))

inputs-are : (w : Waveform) (element : Element) (change : Change) → AllByRecursion (Is (length w.events)) (last_inputs w element change)
inputs-are w element change = each-filter (Is (length w.events)) _ (last_of_each w (limit_of (delay_of element.kind change) change) (inputs_of element)) (each-is w (limit_of (delay_of element.kind change) change) (inputs_of element))

step-is : (w : Waveform) (n : ℕ) (udp : Primitive) (nets : List ℕ) (state : Value) (cs : List Candidate) → AllByRecursion (Is n) cs → IfSome (last_step w udp nets state cs) (Is n)
step-is w n udp nets state [] h = tt
step-is w n udp nets state (c ∷ cs) h =
    last-each (Is n) (last_or None (c ∷ cs)) (stepping w udp nets state (time_of c) (c ∷ cs)) (last-each (Is n) None (c ∷ cs) tt h)
    (each-filter (Is n) (λ d. is_step udp (map (λ k. value_before w k (time_of c)) nets) (map (λ k. value_at w k (time_of c)) nets) state d.input) (c ∷ cs) h)

latest-within : (w : Waveform) (number : ℕ) (element : Element) (change : Change) (by : Rule) → IsWithin (length w.events) (found number change by (slice_get (last_inputs w element change) 0))
latest-within w number element change by = found-within (length w.events) number change by _ (head-some (Is (length w.events)) (last_inputs w element change) (inputs-are w element change))

inputs-within : (w : Waveform) (number : ℕ) (element : Element) (kind : Kind) (change : Change) → IsWithin (length w.events) (by_inputs w number element kind change)
inputs-within w number element (Gate kind delays) change = latest-within w number element change _
inputs-within w number element (Pass constant) change = latest-within w number element change _
inputs-within w number element (Leg timings) change = latest-within w number element change _
inputs-within w number element (Path paths style) change = latest-within w number element change _
inputs-within w number element (Late delay) change = latest-within w number element change _
inputs-within w number element (Udp udp first delays) change = at udp.sequential
  where
    at : (b : Bool) → IsWithin (length w.events) (cond b (found number change rule.Step (last_step w udp element.inputs change.from (last_inputs w element change))) (found number change rule.Latest (slice_get (last_inputs w element change) 0)))
    at true = found-within (length w.events) number change rule.Step _ (step-is w (length w.events) udp element.inputs change.from (last_inputs w element change) (inputs-are w element change))
    at false = latest-within w number element change rule.Latest

pub through-within : (circuit : Circuit) (w : Waveform) (number : ℕ) (change : Change) → IsWithin (length w.events) (cause_through circuit w number change)
through-within circuit w number change =
    or-else-within (length w.events) _ _ (unknown-within circuit w number (element_at circuit number) change)
    (or-else-within (length w.events) _ _ (path-within w number (element_at circuit number).kind change) (inputs-within w number (element_at circuit number) (element_at circuit number).kind change))
