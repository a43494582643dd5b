-- A run goes on from a moment that fits its circuit.
use Rattle.std.specs.Prelude.{◌≡◌, ℕ, zero, suc, ◌+◌, ◌-◌, ◌<◌, ◌≤◌, Bool, if◌then◌else◌, List, [], ◌∷◌, length, slice_index_or, None, refl}
use Rattle.std.proofs.Common.{sym, ◌∙◌, ap, subst, arith, zero-add}
use Rattle.std.proofs.lemmas.List.Elements.{All-nil}
use Rattle.sg_logic.specs.declared.values.Value.{Value}
use Rattle.sg_logic.specs.declared.values.Value.TheVariants.{X}
use Rattle.sg_model.specs.Agenda.{list_at}
use Rattle.sg_model.specs.FanOut.{IsSettled}
use Rattle.sg_model.specs.Pending.{last_value, IsPending}
use Rattle.sg_model.specs.Values.{value_at}
use Rattle.sg_circuit.specs.Circuit.{Circuit, Element, Pass, element_at}
use Rattle.fan_round.specs.Rounds.{ArePending, AreSettled}
use Rattle.fan_round.proofs.ListLaws.{each_from-at, length-each_from}
use Rattle.sim_times.specs.Runs.{IsOriginOf, changed_since}
use Rattle.sim_times.specs.Times.{Kept}
use Rattle.sim_times.specs.Watching.{AreCalls, AreDifferences, Call, HasTold, NetChange, at_zero, end_call}
use Rattle.sim_times.proofs.CallLaws.{same-self_all}
use Rattle.sim_rounds.specs.Moments.{Fits, Moment, computed_last, pending_of, snapshot_of, state_of}
use Rattle.sim_machine.specs.Simulated.{machine_of}
use Rattle.sim_rounds.specs.Stopping.{origin_at, told_of}
use Rattle.sim_rounds.proofs.EngineLaws.{CanGoOn}
use Rattle.sim_rounds.proofs.MachineLaws.{output_at}
use Rattle.sim_rounds.proofs.SeenLaws.{none_differs}

-- what an element has pending, and what it computed last
list_in : (circuit : Circuit) (m : Moment) (e : ℕ) → e < length circuit.elements → list_at (state_of circuit m).lists e ≡ pending_of e m.pending
list_in circuit m e l =
    let of : ℕ → Element → List (ℕ × Value) = λ number element. pending_of number m.pending in
    each_from-at of 0 circuit.elements e (record { scope = 0; inputs = []; output = 0; kind = Pass None }) [] l ∙ ap (λ k. pending_of k m.pending) (zero-add e)

state_in : (circuit : Circuit) (m : Moment) (e : ℕ) → e < length circuit.elements → value_at (state_of circuit m).states e ≡ computed_last m e (element_at circuit e)
state_in circuit m e l =
    each_from-at (computed_last m) 0 circuit.elements e (record { scope = 0; inputs = []; output = 0; kind = Pass None }) X l ∙ ap (λ k. computed_last m k (element_at circuit e)) (zero-add e)

known_in : (circuit : Circuit) (m : Moment) (e : ℕ) → e < length (state_of circuit m).lists → e < length circuit.elements
known_in circuit m e l = subst (λ n. e < n) (length-each_from (λ number element. pending_of number m.pending) 0 circuit.elements) l

settled_in : (circuit : Circuit) (m : Moment) → Fits circuit m → AreSettled (machine_of circuit) m.nets (state_of circuit m).lists (state_of circuit m).states
settled_in circuit m fits = record {
  each = λ e l.
      (let known : e < length circuit.elements = known_in circuit m e l in
      let last : Value = computed_last m e (element_at circuit e) in
      let settled : IsSettled (machine_of circuit) e m.nets (pending_of e m.pending) last = record {
        earlier = m.nets;
        old = last;
        computed = sym (fits.computed e known);
        ends = ap (λ n. last_value (pending_of e m.pending) (value_at m.nets n)) (output_at circuit e known);
      } in
      subst (λ s. IsSettled (machine_of circuit) e m.nets (list_at (state_of circuit m).lists e) s) (sym (state_in circuit m e known))
      (subst (λ xs. IsSettled (machine_of circuit) e m.nets xs last) (sym (list_in circuit m e known)) settled));
}

pending_in_order : (circuit : Circuit) (m : Moment) → Fits circuit m → ArePending (machine_of circuit).outputs m.nets (state_of circuit m).lists (suc m.time)
pending_in_order circuit m fits = record {
  each = λ e l.
      (let known : e < length circuit.elements = known_in circuit m e l in
      subst (λ xs. IsPending xs (value_at m.nets (slice_index_or (machine_of circuit).outputs e 0)) (suc m.time)) (sym (list_in circuit m e known))
      (subst (λ n. IsPending (pending_of e m.pending) (value_at m.nets n) (suc m.time)) (sym (output_at circuit e known)) (fits.pending e known)));
}

pub can_resume : (circuit : Circuit) (m : Moment) (all : Bool) → Fits circuit m → CanGoOn circuit all (m.time + 1) (state_of circuit m)
can_resume circuit m all fits = record {
  value_of_each = fits.nets;
  list_of_each = length-each_from (λ number element. pending_of number m.pending) 0 circuit.elements;
  state_of_each = length-each_from (computed_last m) 0 circuit.elements;
  settled = λ k. settled_in circuit m fits;
  in_order = let next : suc m.time ≡ m.time + 1 = omega arith in subst (λ n. ArePending (machine_of circuit).outputs m.nets (state_of circuit m).lists n) next (pending_in_order circuit m fits);
}

-- the one call told of the moment that nothing changed
no_differences : (values : List Value) → AreDifferences values values []
no_differences values = record {
  nets = record { each = λ k. sym (ap (λ b. if b then 1 else 0) (none_differs values k)) };
  values = All-nil (λ (c : NetChange). (c.before ≡ value_at values c.net) × (c.after ≡ value_at values c.net));
}

told_at : (m : Moment) → AreCalls m.nets (snapshot_of m ∷ []) (told_of m)
told_at m = at_zero (snapshot_of m) (end_call m.time m.nets) (record { time = refl; values = refl; changed = no_differences m.nets })

pub told_moment : (stands : List Call → Type 0) (m : Moment) (values : List Value) → values ≡ m.nets → stands (told_of m) → HasTold stands values
told_moment stands m values same h = record { calls = told_of m; stood = h; truthful = tt; last = sym same }

-- the snapshot of the moment changed nothing
since_none : (last : ℕ) → last ≡ changed_since last 0
since_none zero = refl
since_none (suc last) = refl

-- the run goes on after the moment
pub begins_after : (circuit : Circuit) (end : ℕ) (m : Moment) (kept : Kept) → m.time ≤ end → kept.told ≡ m.nets → kept.last ≡ m.last → IsOriginOf (m.time + 1) end kept (origin_at circuit end m)
begins_after circuit end m kept before told last = record {
  is = record {
    left = let e : suc m.time + (end - m.time) ≡ suc end = omega arith in e;
    begun = (record { last = m.time; older = []; is = refl }, let l : m.time ≤ m.time = omega arith in l);
    unchanged = λ e. absurd (let q : suc m.time ≡ 0 = e in omega arith);
    calls = told_at m;
    uncounted = refl;
  };
  at = let next : suc m.time ≡ m.time + 1 = omega arith in next;
  told = told;
  last = last ∙ (since_none m.last ∙ ap (changed_since m.last) (sym (ap (λ b. if b then 0 else m.time) (same-self_all m.nets))));
}
