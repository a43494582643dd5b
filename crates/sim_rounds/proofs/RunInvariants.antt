-- What a run of a circuit reaches, time after time.
use Rattle.std.specs.Prelude.{◌≡◌, ℕ, zero, suc, pred, ◌+◌, ◌<◌, ◌≤◌, ◌==◌, ◌^◌, ◌||◌, not, Bool, true, false, All, List, [], ◌∷◌, length, Some, None, refl}
use Rattle.std.proofs.Common.{sym, ◌∙◌, ap, subst, arith}
use Rattle.std.proofs.lemmas.Bool.Decides.{nat_tests}
use Rattle.std.proofs.lemmas.List.Elements.{All-cons, All-weaker}
use Rattle.sg_logic.specs.declared.values.Value.{Value}
use Rattle.sg_model.specs.Machine.{Machine, Snapshot}
use Rattle.sg_model.specs.Round.{any_due}
use Rattle.sg_model.specs.Time.{Run, Ended, Whole, Spent, rounds, needs_round, with_round, with_snapshot, flips_of, is_empty, spent_net, time_of}
use Rattle.sg_model.specs.Run.{times_from}
use Rattle.sg_model.proofs.RunSteps.{rounds-round, rounds-spent, rounds-whole, rounds-toggle, rounds-toggle_spent, times-none, times-spent, times-whole}
use Rattle.sg_circuit.specs.Circuit.{Circuit}
use Rattle.sg_circuit.specs.Closed.{IsClosed}
use Rattle.fan_round.specs.Rounds.{AreHanded, AreSettled}
use Rattle.fan_round.proofs.RoundLaws.{round_settles}
use Rattle.time_checks.specs.declared.latest.Latest.{Latest}
use Rattle.sim_times.proofs.NamingLaws.{toggles_handed}
use Rattle.sim_machine.specs.Simulated.{machine_of, machine_since}
use Rattle.sim_rounds.proofs.NotifierLaws.{notifiers_free}
use Rattle.sim_rounds.proofs.PendingInvariants.{neither}
use Rattle.sim_rounds.proofs.StateInvariants.{Stands, round_stands, stands_later, stands_next}

-- how a whole time goes: what holds after its first round, or where none is needed, is kept by what comes behind, and at its end nothing is due
pub rounds_reach : (P Q : Run → Type 0) (m : Machine) (now : ℕ) → ((r : Run) → P r → any_due now r.state.lists ≡ false → Q (with_snapshot m now r)) → ((r : Run) → P r → P (with_round m now false [] r))
    → ((r : Run) → P r → P (with_round m now false (flips_of m (with_snapshot m now r)) (with_snapshot m now r)))
    → (left : ℕ) (must : Bool) (handed : List (ℕ × Value)) (r next : Run) → (needs_round now must handed r.state ≡ true → P (with_round m now must handed r)) → (needs_round now must handed r.state ≡ false → P r)
    → rounds left m now must handed r ≡ Whole next → Q next
rounds_reach P Q m now end idle flip zero must handed r next first none e = at (needs_round now must handed r.state) (is_empty (flips_of m (with_snapshot m now r))) refl refl
  where
    none_due : needs_round now must handed r.state ≡ false → any_due now r.state.lists ≡ false
    none_due f = (neither (not (is_empty handed)) (any_due now r.state.lists) (neither must (not (is_empty handed) || any_due now r.state.lists) f).1).1

    at : (b c : Bool) → needs_round now must handed r.state ≡ b → is_empty (flips_of m (with_snapshot m now r)) ≡ c → Q next
    at true c f g = absurd (let k : Spent (spent_net m now handed r) r.evaluations ≡ Whole next = sym (rounds-spent m now must handed r f) ∙ e in cc)
    at false true f g = subst Q (let k : Whole (with_snapshot m now r) ≡ Whole next = sym (rounds-whole zero m now must handed r f g) ∙ e in cc) (end r (none f) (none_due f))
    at false false f g = absurd (let k : Spent (spent_net m now (flips_of m (with_snapshot m now r)) (with_snapshot m now r)) r.evaluations ≡ Whole next = sym (rounds-toggle_spent m now must handed r f g) ∙ e in cc)
rounds_reach P Q m now end idle flip (suc left) must handed r next first none e =
    at (needs_round now must handed r.state) (is_empty (flips_of m (with_snapshot m now r))) refl refl (λ q h k. rounds_reach P Q m now end idle flip left false [] q next (λ n. idle q h) (λ n. h) k)
  where
    none_due : needs_round now must handed r.state ≡ false → any_due now r.state.lists ≡ false
    none_due f = (neither (not (is_empty handed)) (any_due now r.state.lists) (neither must (not (is_empty handed) || any_due now r.state.lists) f).1).1

    at : (b c : Bool) → needs_round now must handed r.state ≡ b → is_empty (flips_of m (with_snapshot m now r)) ≡ c → ((q : Run) → P q → rounds left m now false [] q ≡ Whole next → Q next) → Q next
    at true c f g rest = rest (with_round m now must handed r) (first f) (sym (rounds-round left m now must handed r f) ∙ e)
    at false true f g rest = subst Q (let k : Whole (with_snapshot m now r) ≡ Whole next = sym (rounds-whole (suc left) m now must handed r f g) ∙ e in cc) (end r (none f) (none_due f))
    at false false f g rest = rest (with_round m now false (flips_of m (with_snapshot m now r)) (with_snapshot m now r)) (flip r (none f)) (sym (rounds-toggle left m now must handed r f g) ∙ e)

-- what holds before a time and is kept by each that ends whole holds behind the last of them
pub times_reach : (P : ℕ → Run → Type 0) (bound end : ℕ) (m : Machine) (sets : ℕ → List (ℕ × Value)) → ((now : ℕ) (r next : Run) → now < end → P now r → time_of bound m sets now r ≡ Whole next → P (suc now) next)
    → (left now : ℕ) (r : Run) → now + left ≤ end → P now r → (times_from left bound m sets now r).spent ≡ None → P (now + left) (times_from left bound m sets now r).run
times_reach P bound end m sets step zero now r l h none = subst (λ f. P (now + 0) f.run) (sym (times-none bound m sets now r)) (subst (λ t. P t r) (let e : now ≡ now + 0 = omega arith in e) h)
times_reach P bound end m sets step (suc left) now r l h none = at (time_of bound m sets now r) refl (λ q k f. times_reach P bound end m sets step left (suc now) q (omega arith) k f)
  where
    at : (e : Ended) → time_of bound m sets now r ≡ e → ((q : Run) → P (suc now) q → (times_from left bound m sets (suc now) q).spent ≡ None → P (suc now + left) (times_from left bound m sets (suc now) q).run)
        → P (now + suc left) (times_from (suc left) bound m sets now r).run
    at (Spent net evaluations) e rest = absurd (let k : Some (now, net) ≡ None = sym (ap (λ f. f.spent) (times-spent left bound m sets now r net evaluations e)) ∙ none in cc)
    at (Whole next) e rest =
        let on : times_from (suc left) bound m sets now r ≡ times_from left bound m sets (suc now) next = times-whole left bound m sets now r next e in
        subst (λ f. P (now + suc left) f.run) (sym on)
        (subst (λ t. P t (times_from left bound m sets (suc now) next).run) (let q : suc now + left ≡ now + suc left = omega arith in q)
        (rest next (step now r next (omega arith) h e) (sym (ap (λ f. f.spent) on) ∙ none)))

-- before a time: snapshots are earlier, no change is later than the time before it (or than 0), nothing is pending before it, and after the start each element is settled
pub record IsReached (c : Circuit) (earlier : List Latest) (now : ℕ) (r : Run) : Type 0 where
  pub stands : Stands c (pred now) now r.state
  pub settled : 0 < now → AreSettled (machine_since c earlier) r.state.values r.state.lists r.state.states
  pub seen : All (λ s. s.time < now) r.snapshots

-- in the middle of it
record IsAt (c : Circuit) (earlier : List Latest) (now : ℕ) (r : Run) : Type 0 where
  stands : Stands c now now r.state
  settled : AreSettled (machine_since c earlier) r.state.values r.state.lists r.state.states
  seen : All (λ s. s.time < suc now) r.snapshots

at_round : (c : Circuit) → IsClosed c → (earlier : List Latest) (now : ℕ) (all : Bool) (handed : List (ℕ × Value)) (r : Run) → now < 2 ^ 60 → AreHanded (machine_of c).outputs handed → Stands c now now r.state → All (λ s. s.time < suc now) r.snapshots
    → IsAt c earlier now (with_round (machine_since c earlier) now all handed r)
at_round c closed earlier now all handed r soon free h seen = record {
  stands = round_stands c closed earlier now handed r.state soon free h;
  settled = round_settles (machine_since c earlier) now handed r.state (h.states ∙ sym h.lists);
  seen = seen;
}

seen_now : (now : ℕ) (values : List Value) (ss : List Snapshot) → All (λ s. s.time < suc now) ss → All (λ (s : Snapshot). s.time < suc now) (record { time = now; values = values } ∷ ss)
seen_now now values ss h = All-cons (λ (s : Snapshot). s.time < suc now) (record { time = now; values = values }) ss (let l : now < suc now = omega arith in l) h

positive : (now : ℕ) → (now == 0) ≡ false → 0 < now
positive now h = grind (arith, nat_tests)

pred_within : (now : ℕ) → pred now ≤ now
pred_within zero = omega arith
pred_within (suc now) = omega arith

-- after a time that ended whole
time_reached : (c : Circuit) → IsClosed c → (earlier : List Latest) (bound : ℕ) (sets : ℕ → List (ℕ × Value)) → ((t : ℕ) → AreHanded (machine_of c).outputs (sets t)) → (now : ℕ) (r next : Run) → now < 2 ^ 60 → IsReached c earlier now r
    → time_of bound (machine_since c earlier) sets now r ≡ Whole next → IsReached c earlier (suc now) next
time_reached c closed earlier bound sets free now r next soon h e =
    rounds_reach (IsAt c earlier now) (IsReached c earlier (suc now)) m now
    (λ q k none. record { stands = stands_next c now q.state k.stands none; settled = λ _. k.settled; seen = seen_now now q.state.values q.snapshots k.seen })
    (λ q k. at_round c closed earlier now false [] q soon tt k.stands k.seen)
    (λ q k. at_round c closed earlier now false (flips_of m (with_snapshot m now q)) (with_snapshot m now q) soon (flips q) k.stands (seen_now now q.state.values q.snapshots k.seen))
    bound (now == 0) (sets now) r next
    (λ f. at_round c closed earlier now (now == 0) (sets now) r soon (free now) stands seen)
    (λ f. record { stands = stands; settled = h.settled (positive now (neither (now == 0) (not (is_empty (sets now)) || any_due now r.state.lists) f).0); seen = seen }) e
  where
    m : Machine
    m = machine_since c earlier

    flips : (q : Run) → AreHanded (machine_of c).outputs (flips_of m (with_snapshot m now q))
    flips q = toggles_handed (machine_of c).outputs (length c.nets) _ q.state.values (notifiers_free c closed (m.violated (with_snapshot m now q).snapshots))

    stands : Stands c now now r.state
    stands = stands_later c (pred now) now now r.state (pred_within now) h.stands

    seen : All (λ s. s.time < suc now) r.snapshots
    seen = All-weaker (λ (s : Snapshot). s.time < now) (λ s. s.time < suc now) (λ s l. omega arith) r.snapshots h.seen

pub times_reached : (c : Circuit) → IsClosed c → (earlier : List Latest) (bound : ℕ) (sets : ℕ → List (ℕ × Value)) → ((t : ℕ) → AreHanded (machine_of c).outputs (sets t)) → (left now : ℕ) (r : Run) → now + left ≤ 2 ^ 60 → IsReached c earlier now r
    → (times_from left bound (machine_since c earlier) sets now r).spent ≡ None → IsReached c earlier (now + left) (times_from left bound (machine_since c earlier) sets now r).run
times_reached c closed earlier bound sets free left now r l h none =
    times_reach (IsReached c earlier) bound (2 ^ 60) (machine_since c earlier) sets (λ t q next soon k e. time_reached c closed earlier bound sets free t q next soon k e) left now r l h none
