-- The moments to which runs come fit their circuit, and have the state of the run.
use Rattle.std.specs.Prelude.{◌≡◌, ℕ, zero, suc, ◌+◌, ◌-◌, ◌<◌, ◌≤◌, ◌^◌, All, List, [], ◌∷◌, length, map, slice_index_or, None, refl}
use Rattle.std.specs.List.{enumerate_from}
use Rattle.std.proofs.Common.{sym, ◌∙◌, ap, subst, arith, zero-add}
use Rattle.std.proofs.lemmas.List.{get_or-map, length-map}
use Rattle.std.proofs.lemmas.List.Elements.{All-cons, All-nil, All-weaker}
use Rattle.std.proofs.lemmas.List.FromFn.{length-enumerate_from}
use Rattle.std.specs.declared.option.Option.{Option}
use Rattle.sg_logic.specs.declared.values.Value.{Value}
use Rattle.sg_logic.specs.declared.values.Value.TheVariants.{X}
use Rattle.sg_model.specs.Values.{value_at}
use Rattle.sg_model.specs.Agenda.{list_at}
use Rattle.sg_model.specs.Pending.{IsPending, last_value}
use Rattle.sg_model.specs.Machine.{Snapshot, Stamp, State}
use Rattle.sg_model.specs.FanOut.{AgreeAt, IsSettled}
use Rattle.sg_model.specs.Time.{Run}
use Rattle.sg_model.specs.Run.{last_change, lasts}
use Rattle.sg_circuit.specs.Circuit.{Circuit, Element, Pass, element_at, net_at}
use Rattle.sg_circuit.specs.Closed.{IsClosed}
use Rattle.sg_circuit.specs.declared.nets.Net.{Net}
use Rattle.sg_circuit.specs.declared.nets.Driver.TheVariants.{Nobody}
use Rattle.sg_stimulus.specs.Stimulus.{Stimulus, sets_at}
use Rattle.sg_stimulus.specs.Applied.{IsApplied}
use Rattle.fan_round.specs.Rounds.{AreSettled}
use Rattle.fan_round.proofs.ListLaws.{each_from-at, length-each_from}
use Rattle.time_checks.specs.declared.latest.Latest.{Latest}
use Rattle.time_checks.specs.Adjusted.{adjusted_check, adjusted_checks}
use Rattle.time_checks.specs.Events.{latest_since}
use Rattle.time_checks.specs.Falling.{AreBy}
use Rattle.time_checks.specs.Violations.{earlier_at}
use Rattle.sim_times.specs.Runs.{changed_since, run_for, run_from, start_of}
use Rattle.sim_rounds.specs.MomentLaws.{IsWhole, MomentsFit}
use Rattle.sim_rounds.specs.Moments.{Fits, IsStampOf, Moment, computed_last, moment_of, pending_of, run_of_moment, state_of, udp_states}
use Rattle.sim_rounds.specs.Setting.{setting_of}
use Rattle.sim_machine.specs.Simulated.{first_of_kind, first_state, first_value_of, machine_of, machine_since}
use Rattle.sim_rounds.specs.Stopping.{origin_at, setting_since}
use Rattle.sim_rounds.proofs.EventTimes.{all_later, last_by, latest_by, since_by}
use Rattle.sim_rounds.proofs.MachineLaws.{output_at, steady}
use Rattle.sim_rounds.proofs.MomentForms.{lists_again, near_of, pending_drivers, pending_here, pending_near, states_again}
use Rattle.sim_rounds.proofs.PendingTimes.{NoneAfter}
use Rattle.sim_rounds.proofs.RunInvariants.{IsReached, times_reached}
use Rattle.sim_rounds.proofs.EngineLaws.{applied_can, same_state}
use Rattle.sim_rounds.proofs.StateInvariants.{Stands, farthest}

-- what stands past the end of the elements
abbrev blank : Element
blank = record { scope = 0; inputs = []; output = 0; kind = Pass None }

agree_self : (nets : List ℕ) (values : List Value) → AgreeAt nets values values
agree_self [] values = tt
agree_self (n ∷ ns) values = (refl, agree_self ns values)

-- a settled element computes its value again
computes_again : (c : Circuit) (earlier : List Latest) (e : ℕ) (values : List Value) (list : List (ℕ × Value)) (state : Value) → IsSettled (machine_since c earlier) e values list state → (machine_of c).value e values values state ≡ state
computes_again c earlier e values list state h =
    ap (λ s. (machine_of c).value e values values s) h.computed ∙ ((steady c).stays e h.earlier values values h.old (agree_self (slice_index_or (machine_of c).inputs e []) values) ∙ sym h.computed)

length-adjusted : (c : Circuit) → IsClosed c → length (adjusted_checks c) ≡ length c.checks
length-adjusted c closed = length-map (enumerate_from 0 c.check_timings) (adjusted_check c) ∙ (length-enumerate_from 0 c.check_timings ∙ closed.timing_of_each)

-- each list of a run that was reached ends with its element's value, and no snapshot is later
reached_ends : (c : Circuit) (earlier : List Latest) (time : ℕ) (r : Run) → IsReached c earlier (suc time) r → (e : ℕ) → e < length c.elements → last_value (list_at r.state.lists e) (value_at r.state.values (element_at c e).output) ≡ value_at r.state.states e
reached_ends c earlier time r h e l =
    ap (λ n. last_value (list_at r.state.lists e) (value_at r.state.values n)) (sym (output_at c e l)) ∙ ((h.settled (let p : 0 < suc time = omega arith in p)).each e (subst (λ n. e < n) (sym h.stands.lists) l)).ends

reached_seen : (c : Circuit) (earlier : List Latest) (time : ℕ) (r : Run) → IsReached c earlier (suc time) r → All (λ s. s.time ≤ time) r.snapshots
reached_seen c earlier time r h = All-weaker (λ (s : Snapshot). s.time < suc time) (λ s. s.time ≤ time) (λ s l. omega arith) r.snapshots h.seen

-- its moment has its state
state_is : (c : Circuit) (earlier : List Latest) (time last evaluations : ℕ) (r : Run) → IsReached c earlier (suc time) r → state_of c (moment_of c earlier time r last evaluations) ≡ r.state
state_is c earlier time last evaluations r h =
    same_state (state_of c (moment_of c earlier time r last evaluations)) r.state refl refl (lists_again c.elements r.state.lists h.stands.lists) (states_again c.elements r.state.lists r.state.values r.state.states h.stands.states (reached_ends c earlier time r h))

computed_is : (c : Circuit) (earlier : List Latest) (time last evaluations : ℕ) (r : Run) → IsReached c earlier (suc time) r → (e : ℕ) → e < length c.elements → computed_last (moment_of c earlier time r last evaluations) e (element_at c e) ≡ value_at r.state.states e
computed_is c earlier time last evaluations r h e l = ap (λ xs. last_value xs (value_at r.state.values (element_at c e).output)) (pending_here r.state.lists e) ∙ reached_ends c earlier time r h e l

fits : (c : Circuit) → IsClosed c → (earlier : List Latest) (time last evaluations : ℕ) (r : Run) → AreBy time earlier → last ≤ time → IsReached c earlier (suc time) r → Fits c (moment_of c earlier time r last evaluations)
fits c closed earlier time last evaluations r known l h = record {
  nets = h.stands.values;
  stamps = h.stands.stamps;
  drivers = pending_drivers (length c.elements) 0 r.state.lists (let m = h.stands.lists in omega arith);
  checks = length-each_from (λ number check. latest_since (earlier_at earlier number) check r.snapshots) 0 (adjusted_checks c) ∙ length-adjusted c closed;
  pending = λ e k.
      (let there : IsPending (list_at r.state.lists e) (value_at r.state.values (slice_index_or (machine_of c).outputs e 0)) (suc time) = h.stands.pending.each e (subst (λ n. e < n) (sym h.stands.lists) k) in
      subst (λ xs. IsPending xs (value_at r.state.values (element_at c e).output) (suc time)) (sym (pending_here r.state.lists e)) (subst (λ n. IsPending (list_at r.state.lists e) (value_at r.state.values n) (suc time)) (output_at c e k) there));
  near = pending_near 0 r.state.lists (λ e k. h.stands.near e (subst (λ n. e < n) h.stands.lists k));
  stamped = h.stands.stamped;
  latest = latest_by time earlier (adjusted_checks c) r.snapshots known (reached_seen c earlier time r h);
  last = l;
  computed = λ e k.
      (let settled = (h.settled (let p : 0 < suc time = omega arith in p)).each e (subst (λ n. e < n) (sym h.stands.lists) k) in
      subst (λ v. (machine_of c).value e r.state.values r.state.values v ≡ v) (sym (computed_is c earlier time last evaluations r h e k)) (computes_again c earlier e r.state.values (list_at r.state.lists e) (value_at r.state.states e) settled));
  udps = sym (ap (λ (s : State). udp_states c.elements s.states) (state_is c earlier time last evaluations r h));
}

whole : (c : Circuit) → IsClosed c → (earlier : List Latest) (time last evaluations : ℕ) (r : Run) → AreBy time earlier → last ≤ time → IsReached c earlier (suc time) r → IsWhole c r (moment_of c earlier time r last evaluations)
whole c closed earlier time last evaluations r known l h = record { fits = fits c closed earlier time last evaluations r known l h; state = state_is c earlier time last evaluations r h }

-- before time 0
none_pending : {A : Type 0} (xs : List A) (e : ℕ) → list_at (map (λ x. []) xs) e ≡ []
none_pending [] e = refl
none_pending (x ∷ xs) zero = refl
none_pending (x ∷ xs) (suc e) = none_pending xs e

no_stamp : {A : Type 0} (xs : List A) (net : ℕ) → slice_index_or {A = Option Stamp} (map (λ x. None) xs) net None ≡ None
no_stamp [] net = refl
no_stamp (x ∷ xs) zero = refl
no_stamp (x ∷ xs) (suc net) = no_stamp xs net

first_stands : (c : Circuit) → Stands c 0 0 (first_state c)
first_stands c = record {
  values = length-map c.nets (λ net. first_value_of net.driver);
  stamps = length-map c.nets _;
  lists = length-map c.elements (λ e. []);
  states = length-map c.elements (λ e. first_of_kind e.kind);
  stamped = λ net l.
      subst (IsStampOf 0 (net_at c net).driver (value_at (first_state c).values net)) (sym (no_stamp c.nets net))
      (get_or-map (λ (x : Net). first_value_of x.driver) c.nets net (record { scope = 0; name = []; bit = None; driver = Nobody }) X l);
  pending = record { each = λ e l. subst (λ xs. IsPending xs (value_at (first_state c).values (slice_index_or (machine_of c).outputs e 0)) 0) (sym (none_pending c.elements e)) tt };
  near = λ e l. subst (NoneAfter farthest) (sym (none_pending c.elements e)) tt;
}

first_reached : (c : Circuit) → IsReached c [] 0 (start_of (first_state c))
first_reached c = record { stands = first_stands c; settled = λ l. absurd (omega arith); seen = All-nil (λ (s : Snapshot). s.time < 0) }

-- at a moment that fits
list_of : (c : Circuit) (m : Moment) (e : ℕ) → e < length c.elements → list_at (state_of c m).lists e ≡ pending_of e m.pending
list_of c m e l = each_from-at (λ number (element : Element). pending_of number m.pending) 0 c.elements e blank [] l ∙ ap (λ n. pending_of n m.pending) (zero-add e)

state_at : (c : Circuit) (m : Moment) (e : ℕ) → e < length c.elements → value_at (state_of c m).states e ≡ computed_last m e (element_at c e)
state_at c m e l = each_from-at (computed_last m) 0 c.elements e blank X l ∙ ap (λ n. computed_last m n (element_at c e)) (zero-add e)

moment_stands : (c : Circuit) (m : Moment) → Fits c m → Stands c m.time (suc m.time) (state_of c m)
moment_stands c m h = record {
  values = h.nets;
  stamps = h.stamps;
  lists = many;
  states = length-each_from (computed_last m) 0 c.elements;
  stamped = h.stamped;
  pending = record {
    each = λ e k.
        (let l : e < length c.elements = subst (λ n. e < n) many k in
        subst (λ xs. IsPending xs (value_at m.nets (slice_index_or (machine_of c).outputs e 0)) (suc m.time)) (sym (list_of c m e l))
        (subst (λ n. IsPending (pending_of e m.pending) (value_at m.nets n) (suc m.time)) (sym (output_at c e l)) (h.pending e l)));
  };
  near = λ e l. subst (NoneAfter farthest) (sym (list_of c m e l)) (near_of e m.pending h.near);
}
  where
    many : length (state_of c m).lists ≡ length c.elements
    many = length-each_from (λ number (element : Element). pending_of number m.pending) 0 c.elements

moment_settled : (c : Circuit) (earlier : List Latest) (m : Moment) → Fits c m → AreSettled (machine_since c earlier) m.nets (state_of c m).lists (state_of c m).states
moment_settled c earlier m h = record {
  each = λ e k.
      (let l : e < length c.elements = subst (λ n. e < n) (length-each_from (λ number (element : Element). pending_of number m.pending) 0 c.elements) k in
      let last : Value = computed_last m e (element_at c e) in
      subst (λ xs. IsSettled (machine_since c earlier) e m.nets xs (value_at (state_of c m).states e)) (sym (list_of c m e l))
      (subst (λ v. IsSettled (machine_since c earlier) e m.nets (pending_of e m.pending) v) (sym (state_at c m e l)) (record {
        earlier = m.nets;
        old = last;
        computed = sym (h.computed e l);
        ends = ap (λ n. last_value (pending_of e m.pending) (value_at m.nets n)) (output_at c e l);
      })));
}

moment_reached : (c : Circuit) (m : Moment) → Fits c m → IsReached c m.latest (suc m.time) (run_of_moment c m)
moment_reached c m h = record {
  stands = moment_stands c m h;
  settled = λ _. moment_settled c m.latest m h;
  seen = All-cons (λ (s : Snapshot). s.time < suc m.time) (record { time = m.time; values = m.nets }) [] (let l : m.time < suc m.time = omega arith in l) (All-nil (λ (s : Snapshot). s.time < suc m.time));
}

of_runs : (circuit : Circuit) (stimulus : Stimulus) (bound until evaluations : ℕ) → IsClosed circuit → IsApplied circuit stimulus → until < stimulus.end → (run_for (setting_of circuit stimulus bound) (suc until)).spent ≡ None
    → IsWhole circuit (run_for (setting_of circuit stimulus bound) (suc until)).run
    (moment_of circuit [] until (run_for (setting_of circuit stimulus bound) (suc until)).run (last_change (first_state circuit).values (lasts (run_for (setting_of circuit stimulus bound) (suc until)).run.snapshots)) evaluations)
of_runs circuit stimulus bound until evaluations closed applied within none =
    let r : Run = (run_for (setting_of circuit stimulus bound) (suc until)).run in
    let fits : stimulus.end < 2 ^ 60 = applied.fits in
    let all = times_reached circuit closed [] bound (sets_at stimulus.steps) (λ t. (applied_can circuit closed stimulus applied).free t) (suc until) 0 (start_of (first_state circuit)) (omega arith) (first_reached circuit) none in
    let reached : IsReached circuit [] (suc until) r = subst (λ t. IsReached circuit [] t r) (zero-add (suc until)) all in
    whole circuit closed [] until (last_change (first_state circuit).values (lasts r.snapshots)) evaluations r tt
    (last_by until (first_state circuit).values r.snapshots (reached_seen circuit [] until r reached)) reached

of_rests : (circuit : Circuit) (stimulus : Stimulus) (bound : ℕ) (m : Moment) (until evaluations : ℕ) → IsClosed circuit → IsApplied circuit stimulus → Fits circuit m → m.time ≤ until → until < stimulus.end
    → (run_from (setting_since circuit stimulus bound m) (origin_at circuit stimulus.end m) (until - m.time)).spent ≡ None
    → IsWhole circuit (run_from (setting_since circuit stimulus bound m) (origin_at circuit stimulus.end m) (until - m.time)).run
    (moment_of circuit m.latest until (run_from (setting_since circuit stimulus bound m) (origin_at circuit stimulus.end m) (until - m.time)).run
    (changed_since m.last (last_change m.nets (lasts (run_from (setting_since circuit stimulus bound m) (origin_at circuit stimulus.end m) (until - m.time)).run.snapshots))) evaluations)
of_rests circuit stimulus bound m until evaluations closed applied h from within none =
    let r : Run = (run_from (setting_since circuit stimulus bound m) (origin_at circuit stimulus.end m) (until - m.time)).run in
    let fits : stimulus.end < 2 ^ 60 = applied.fits in
    let all = times_reached circuit closed m.latest bound (sets_at stimulus.steps) (λ t. (applied_can circuit closed stimulus applied).free t) (until - m.time) (suc m.time) (run_of_moment circuit m) (omega arith) (moment_reached circuit m h) none in
    let reached : IsReached circuit m.latest (suc until) r = subst (λ t. IsReached circuit m.latest t r) (let e : suc m.time + (until - m.time) ≡ suc until = omega arith in e) all in
    let last : m.last ≤ m.time = h.last in
    whole circuit closed m.latest until (changed_since m.last (last_change m.nets (lasts r.snapshots))) evaluations r (all_later m.time until m.latest from h.latest)
    (since_by until m.last (last_change m.nets (lasts r.snapshots)) (omega arith) (last_by until m.nets r.snapshots (reached_seen circuit m.latest until r reached))) reached

pub moments_fit : MomentsFit
moments_fit = record { of_runs = of_runs; of_rests = of_rests }
