-- The rounds of a time, of two runs so far that differ in counts at most.
use Rattle.std.specs.Prelude.{◌≡◌, ℕ, zero, suc, ◌≤◌, ◌||◌, not, Bool, true, false, List, [], ◌∷◌, ◌++◌, length, refl}
use Rattle.std.proofs.Common.{sym, ◌∙◌, ap, subst, arith}
use Rattle.sg_logic.specs.declared.values.Value.{Value}
use Rattle.sg_model.specs.Machine.{Machine, State, Snapshot}
use Rattle.sg_model.specs.Round.{any_due, changed_by, round, values_after}
use Rattle.sg_model.specs.Time.{Run, Ended, Whole, Spent, rounds, needs_round, with_round, with_snapshot, flips_of, is_empty, spent_net, toggles}
use Rattle.sg_model.specs.FanOut.{IsSteady}
use Rattle.sg_model.proofs.RunSteps.{rounds-round, rounds-spent, rounds-whole, rounds-toggle, rounds-toggle_spent}
use Rattle.fan_round.specs.Rounds.{AreSettled}
use Rattle.fan_round.proofs.PendingLaws.{round_many}
use Rattle.fan_round.proofs.RoundLaws.{round_settles}
use Rattle.run_laws.proofs.Idle.{neither, no_changes, idle_round, round_by_values}

-- how a whole time goes: what holds after its first round, or where none is needed, and is kept by what comes behind, holds at its end
pub rounds_reach : (P : Run → Type 0) (m : Machine) (now : ℕ) → ((r : Run) → P r → P (with_snapshot m now r)) → ((r : Run) → P r → P (with_round m now false [] r)) → ((r : Run) → P r → P (with_round m now false (flips_of m r) r))
    → (left : ℕ) (must : Bool) (handed : List (ℕ × Value)) (r next : Run) → (needs_round now must handed r.state ≡ true → P (with_round m now must handed r)) → (needs_round now must handed r.state ≡ false → P r)
    → rounds left m now must handed r ≡ Whole next → P next
rounds_reach P m now snap idle flip zero must handed r next first none e = at (needs_round now must handed r.state) (is_empty (flips_of m (with_snapshot m now r))) refl refl
  where
    at : (b c : Bool) → needs_round now must handed r.state ≡ b → is_empty (flips_of m (with_snapshot m now r)) ≡ c → P next
    at true c f g = absurd (let k : Spent (spent_net m now handed r) r.evaluations ≡ Whole next = sym (rounds-spent m now must handed r f) ∙ e in cc)
    at false true f g = subst P (let k : Whole (with_snapshot m now r) ≡ Whole next = sym (rounds-whole zero m now must handed r f g) ∙ e in cc) (snap r (none f))
    at false false f g = absurd (let k : Spent (spent_net m now (flips_of m (with_snapshot m now r)) (with_snapshot m now r)) r.evaluations ≡ Whole next = sym (rounds-toggle_spent m now must handed r f g) ∙ e in cc)
rounds_reach P m now snap idle flip (suc left) must handed r next first none e = at (needs_round now must handed r.state) (is_empty (flips_of m (with_snapshot m now r))) refl refl (λ q h k. rounds_reach P m now snap idle flip left false [] q next (λ n. idle q h) (λ n. h) k)
  where
    at : (b c : Bool) → needs_round now must handed r.state ≡ b → is_empty (flips_of m (with_snapshot m now r)) ≡ c → ((q : Run) → P q → rounds left m now false [] q ≡ Whole next → P next) → P next
    at true c f g rest = rest (with_round m now must handed r) (first f) (sym (rounds-round left m now must handed r f) ∙ e)
    at false true f g rest = subst P (let k : Whole (with_snapshot m now r) ≡ Whole next = sym (rounds-whole (suc left) m now must handed r f g) ∙ e in cc) (snap r (none f))
    at false false f g rest =
        rest (with_round m now false (flips_of m (with_snapshot m now r)) (with_snapshot m now r)) (flip (with_snapshot m now r) (snap r (none f))) (sym (rounds-toggle left m now must handed r f g) ∙ e)

-- two runs so far that differ in counts at most
pub record Like (r q : Run) : Type 0 where
  pub state : q.state ≡ r.state
  pub snapshots : q.snapshots ≡ r.snapshots
  pub violations : q.violations ≡ r.violations

pub like_self : (r : Run) → Like r r
like_self r = record { state = refl; snapshots = refl; violations = refl }

shots : (now : ℕ) (r q : Run) → Like r q → ◌≡◌ {A = List Snapshot} (record { time = now; values = q.state.values } ∷ q.snapshots) (record { time = now; values = r.state.values } ∷ r.snapshots)
shots now r q h = ap (λ (s : State). record { time = now; values = s.values } ∷ q.snapshots) h.state ∙ ap (λ ss. record { time = now; values = r.state.values } ∷ ss) h.snapshots

pub like_snapshot : (m : Machine) (now : ℕ) (r q : Run) → Like r q → Like (with_snapshot m now r) (with_snapshot m now q)
like_snapshot m now r q h = record {
  state = h.state;
  snapshots = shots now r q h;
  violations = ap (λ vs. vs ++ m.violated (record { time = now; values = q.state.values } ∷ q.snapshots)) h.violations ∙ ap (λ ss. r.violations ++ m.violated ss) (shots now r q h);
}

pub like_round : (m : Machine) (now : ℕ) (all all' : Bool) (handed handed' : List (ℕ × Value)) (r q : Run) → Like r q → values_after m now handed' r.state ≡ values_after m now handed r.state → Like (with_round m now all handed r) (with_round m now all' handed' q)
like_round m now all all' handed handed' r q h same = record {
  state = ap (round m now handed') h.state ∙ round_by_values m now handed handed' r.state same;
  snapshots = h.snapshots;
  violations = h.violations;
}

flips_same : (m : Machine) (r q : Run) → Like r q → flips_of m q ≡ flips_of m r
flips_same m r q h = ap (λ ss. toggles (m.notifiers (m.violated ss)) q.state.values) h.snapshots ∙ ap (λ (s : State). toggles (m.notifiers (m.violated r.snapshots)) s.values) h.state

pub record Again (next : Run) (end : Ended) : Type 0 where
  pub run : Run
  pub is : end ≡ Whole run
  pub like : Like next run

-- with no fewer rounds left such a run goes as the other
pub rounds_again : (m : Machine) (now left more : ℕ) (must : Bool) (handed : List (ℕ × Value)) (r q next : Run) → left ≤ more → Like r q → rounds left m now must handed r ≡ Whole next → Again next (rounds more m now must handed q)
rounds_again m now zero more must handed r q next le h e = at (needs_round now must handed r.state) (is_empty (flips_of m (with_snapshot m now r))) refl refl
  where
    at : (b c : Bool) → needs_round now must handed r.state ≡ b → is_empty (flips_of m (with_snapshot m now r)) ≡ c → Again next (rounds more m now must handed q)
    at true c f g = absurd (let k : Spent (spent_net m now handed r) r.evaluations ≡ Whole next = sym (rounds-spent m now must handed r f) ∙ e in cc)
    at false true f g =
        let s = like_snapshot m now r q h in
        let k : Whole (with_snapshot m now r) ≡ Whole next = sym (rounds-whole zero m now must handed r f g) ∙ e in
        let same : with_snapshot m now r ≡ next = cc in
        record {
          run = with_snapshot m now q;
          is = rounds-whole more m now must handed q (ap (needs_round now must handed) h.state ∙ f) (ap is_empty (flips_same m (with_snapshot m now r) (with_snapshot m now q) s) ∙ g);
          like = subst (λ x. Like x (with_snapshot m now q)) same s;
        }
    at false false f g = absurd (let k : Spent (spent_net m now (flips_of m (with_snapshot m now r)) (with_snapshot m now r)) r.evaluations ≡ Whole next = sym (rounds-toggle_spent m now must handed r f g) ∙ e in cc)
rounds_again m now (suc left) zero must handed r q next le h e = absurd (omega arith)
rounds_again m now (suc left) (suc more) must handed r q next le h e =
    at (needs_round now must handed r.state) (is_empty (flips_of m (with_snapshot m now r))) refl refl (λ r' q' k f. rounds_again m now left more false [] r' q' next (omega arith) k f)
  where
    at : (b c : Bool) → needs_round now must handed r.state ≡ b → is_empty (flips_of m (with_snapshot m now r)) ≡ c → ((r' q' : Run) → Like r' q' → rounds left m now false [] r' ≡ Whole next → Again next (rounds more m now false [] q'))
        → Again next (rounds (suc more) m now must handed q)
    at true c f g rest =
        let a = rest (with_round m now must handed r) (with_round m now must handed q) (like_round m now must must handed handed r q h refl) (sym (rounds-round left m now must handed r f) ∙ e) in
        record { run = a.run; is = rounds-round more m now must handed q (ap (needs_round now must handed) h.state ∙ f) ∙ a.is; like = a.like }
    at false true f g rest =
        let s = like_snapshot m now r q h in
        let k : Whole (with_snapshot m now r) ≡ Whole next = sym (rounds-whole (suc left) m now must handed r f g) ∙ e in
        let same : with_snapshot m now r ≡ next = cc in
        record {
          run = with_snapshot m now q;
          is = rounds-whole (suc more) m now must handed q (ap (needs_round now must handed) h.state ∙ f) (ap is_empty (flips_same m (with_snapshot m now r) (with_snapshot m now q) s) ∙ g);
          like = subst (λ x. Like x (with_snapshot m now q)) same s;
        }
    at false false f g rest =
        let s = like_snapshot m now r q h in
        let sr : Run = with_snapshot m now r in
        let sq : Run = with_snapshot m now q in
        let fl : flips_of m sq ≡ flips_of m sr = flips_same m sr sq s in
        let a = rest (with_round m now false (flips_of m sr) sr) (with_round m now false (flips_of m sq) sq) (like_round m now false false (flips_of m sr) (flips_of m sq) sr sq s (ap (λ cs. values_after m now cs sr.state) fl)) (sym (rounds-toggle left m now must handed r f g) ∙ e) in
        record { run = a.run; is = rounds-toggle more m now must handed q (ap (needs_round now must handed) h.state ∙ f) (ap is_empty fl ∙ g) ∙ a.is; like = a.like }

-- what is handed in first may be another list that leaves the nets alike, and none where a round isn't needed
pub record HandsAlike (m : Machine) (now : ℕ) (must : Bool) (handed handed' : List (ℕ × Value)) (s : State) : Type 0 where
  pub same : values_after m now handed' s ≡ values_after m now handed s
  pub none : must ≡ false → handed ≡ [] → handed' ≡ []
  pub many : length s.states ≡ length s.lists
  pub settled : must ≡ false → AreSettled m s.values s.lists s.states

pub empty_is : (cs : List (ℕ × Value)) → not (is_empty cs) ≡ false → cs ≡ []
empty_is [] h = refl
empty_is (c ∷ cs) h = absurd (let q : true ≡ false = h in cc)

pub first_again : (m : Machine) → IsSteady m → (now left : ℕ) (must : Bool) (handed handed' : List (ℕ × Value)) (r q next : Run) → Like r q → HandsAlike m now must handed handed' r.state → rounds left m now must handed r ≡ Whole next
    → Again next (rounds left m now must handed' q)
first_again m steady now left must handed handed' r q next h alike e = at (needs_round now must handed r.state) refl
  where
    -- nothing is due, and nothing is handed in
    idle : (cs : List (ℕ × Value)) → needs_round now must cs r.state ≡ false → (must ≡ false) × (cs ≡ []) × (any_due now r.state.lists ≡ false)
    idle cs f =
        let a = neither must (not (is_empty cs) || any_due now r.state.lists) f in
        let b = neither (not (is_empty cs)) (any_due now r.state.lists) a.1 in
        (a.0, empty_is cs b.0, b.1)

    needed : (n : ℕ) → rounds (suc n) m now must handed r ≡ Whole next → needs_round now must handed r.state ≡ true → (b : Bool) → needs_round now must handed' r.state ≡ b → Again next (rounds (suc n) m now must handed' q)
    needed n k f true g =
        let a = rounds_again m now n n false [] (with_round m now must handed r) (with_round m now must handed' q) next (omega arith) (like_round m now must must handed handed' r q h alike.same) (sym (rounds-round n m now must handed r f) ∙ k) in
        record { run = a.run; is = rounds-round n m now must handed' q (ap (needs_round now must handed') h.state ∙ g) ∙ a.is; like = a.like }
    needed n k f false g =
        let i = idle handed' g in
        let stay : values_after m now handed r.state ≡ r.state.values =
        sym alike.same ∙ (ap (λ cs. changed_by (cs ++ handed') r.state.values) (no_changes now m.outputs r.state.lists i.2) ∙ ap (λ cs. changed_by cs r.state.values) i.1) in
        let round_is : round m now handed r.state ≡ r.state = idle_round m steady now handed r.state (alike.settled i.0) alike.many i.2 stay in
        let like : Like (with_round m now must handed r) q = record { state = h.state ∙ sym round_is; snapshots = h.snapshots; violations = h.violations } in
        let a = rounds_again m now n (suc n) false [] (with_round m now must handed r) q next (omega arith) like (sym (rounds-round n m now must handed r f) ∙ k) in
        subst (λ b. Again next (rounds (suc n) m now b handed' q)) (sym i.0) (subst (λ cs. Again next (rounds (suc n) m now false cs q)) (sym i.1) a)

    spent : (n : ℕ) → n ≡ zero → rounds n m now must handed r ≡ Whole next → needs_round now must handed r.state ≡ true → ⊥
    spent n z k f = (let g : Spent (spent_net m now handed r) r.evaluations ≡ Whole next = sym (rounds-spent m now must handed r f) ∙ (ap (λ x. rounds x m now must handed r) (sym z) ∙ k) in cc)

    some : (n : ℕ) → rounds n m now must handed r ≡ Whole next → needs_round now must handed r.state ≡ true → Again next (rounds n m now must handed' q)
    some zero k f = absurd (spent zero refl k f)
    some (suc n) k f = needed n k f (needs_round now must handed' r.state) refl

    at : (b : Bool) → needs_round now must handed r.state ≡ b → Again next (rounds left m now must handed' q)
    at true f = some left e f
    at false f =
        let i = idle handed f in
        let none : handed ≡ handed' = i.1 ∙ sym (alike.none i.0 i.1) in
        subst (λ cs. Again next (rounds left m now must cs q)) none (rounds_again m now left left must handed r q next (omega arith) h e)

-- after a time that ended whole all elements are settled
pub record Settled (m : Machine) (r : Run) : Type 0 where
  pub many : length r.state.states ≡ length r.state.lists
  pub settled : AreSettled m r.state.values r.state.lists r.state.states

settled_round : (m : Machine) (now : ℕ) (all : Bool) (handed : List (ℕ × Value)) (r : Run) → length r.state.states ≡ length r.state.lists → Settled m (with_round m now all handed r)
settled_round m now all handed r many =
    let n = round_many m now handed r.state (round m now handed r.state) refl in
    record { many = n.1 ∙ (many ∙ sym n.0); settled = round_settles m now handed r.state many }

pub rounds_settle : (m : Machine) (now left : ℕ) (must : Bool) (handed : List (ℕ × Value)) (r next : Run) → length r.state.states ≡ length r.state.lists → (must ≡ false → AreSettled m r.state.values r.state.lists r.state.states)
    → rounds left m now must handed r ≡ Whole next → Settled m next
rounds_settle m now left must handed r next many settled e =
    rounds_reach (Settled m) m now (λ q h. record { many = h.many; settled = h.settled }) (λ q h. settled_round m now false [] q h.many) (λ q h. settled_round m now false (flips_of m q) q h.many) left must handed r next
    (λ f. settled_round m now must handed r many) (λ f. record { many = many; settled = settled (neither must (not (is_empty handed) || any_due now r.state.lists) f).0 }) e
