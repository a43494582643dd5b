-- A simulation from one round to the next, and what it stands for.
use Rattle.std.specs.Prelude.{◌≡◌, ℕ, zero, suc, ◌+◌, ◌<◌, ◌≤◌, ◌==◌, Bool, true, false, not, All, List, [], ◌∷◌, ◌++◌, length, map, take, reverse, slice_index_or, refl}
use Rattle.std.specs.Bool.{OnTrue, OnFalse}
use Rattle.std.proofs.Common.{sym, ◌∙◌, ap, subst, arith}
use Rattle.std.proofs.lemmas.List.{get_or-map, length-map}
use Rattle.std.proofs.lemmas.Bool.Decides.{nat_tests}
use Rattle.sg_logic.specs.declared.values.Value.{Value}
use Rattle.sg_model.specs.Values.{value_at}
use Rattle.sg_model.specs.Pending.{Follows}
use Rattle.sg_model.specs.Agenda.{list_at, NoneBelow, NothingBelow}
use Rattle.sg_model.specs.Machine.{Machine, State, Snapshot, Violation}
use Rattle.sg_model.specs.Round.{any_due}
use Rattle.sg_model.specs.Time.{toggles as toggles_of, is_empty}
use Rattle.sg_stimulus.specs.declared.steps.Set.{Set}
use Rattle.sg_stimulus.specs.Seen.{set_seen}
use Rattle.sg_stimulus.specs.Stimulus.{Stimulus}
use Rattle.time_checks.specs.declared.latest.Latest.{Latest}
use Rattle.time_checks.specs.declared.violations.Violation as code_violation
use Rattle.time_checks.specs.Seen.{violation_seen}
use Rattle.pulse_list.proofs.EarliestLaws.{none_below-reverse}
use Rattle.fan_round.specs.declared.nets.Nets.{Nets}
use Rattle.sim_times.specs.declared.told.Told.{Told}
use Rattle.fan_round.specs.declared.work.WorkList.{WorkList}
use Rattle.fan_round.specs.Rounds.{AreHanded, ArePending}
use Rattle.fan_round.specs.States.{IsOfCircuit}
use Rattle.sim_times.specs.Naming.{Moves}
use Rattle.sim_times.specs.Checks.{HasSeen, AreFree}
use Rattle.sim_times.specs.Times.{AfterSnapshot}
use Rattle.sim_times.specs.Simulations.{kept_of, AreChecksOf, IsReadyAt, StandsFor}
use Rattle.sim_times.proofs.DueLaws.{below_next}
use Rattle.fan_round.proofs.PendingLaws.{pending_rises, pending_below}
use Rattle.sim_times.proofs.NamingLaws.{due_moves, flips_move, toggles_handed, toggles_within}

-- one more fact where a test failed
pub also_false : (b : Bool) (P Q : Type 0) → OnFalse b P → Q → OnFalse b (P × Q)
also_false true P Q p q = tt
also_false false P Q p q = (p, q)

-- a due pair changes a net
pub due_state_moves : (m : Machine) (fan : List (List ℕ)) (driven : List ℕ) (handed : List (ℕ × Value)) (s : State) (now : ℕ) → IsOfCircuit m fan driven (length s.values) (length s.lists) → AreHanded driven handed → ArePending driven s.values s.lists now → any_due now s.lists ≡ true → Moves m now handed s
due_state_moves m fan driven handed s now circuit free pending due =
    due_moves m now handed s circuit.one_driver (subst (λ os. AreHanded os handed) circuit.outputs free) (sym circuit.output_of_each) (subst (λ os. All (λ n. n < length s.values) os) circuit.outputs circuit.within)
    (subst (λ os. ArePending os s.values s.lists now) circuit.outputs pending) due

-- where nothing is due, what is pending comes later
later_than : (xs : List (ℕ × Value)) (present : Value) (now : ℕ) → Follows xs present now → NoneBelow (now + 1) xs → Follows xs present (now + 1)
later_than [] present now h b = tt
later_than (p ∷ ps) present now h b = (h.0, h.1, b.0, later_than ps present now h.3 b.1)

pub pending_next : (driven : List ℕ) (values : List Value) (lists : List (List (ℕ × Value))) (now : ℕ) → ArePending driven values lists now → any_due now lists ≡ false → ArePending driven values lists (now + 1)
pending_next driven values lists now h none = record {
  each = λ e l.
      (let below : NothingBelow (now + 1) lists = below_next now lists (pending_rises driven values lists now h) (pending_below driven values lists now h) none in
      later_than (reverse (list_at lists e)) (value_at values (slice_index_or driven e 0)) now (h.each e l) (none_below-reverse (now + 1) (list_at lists e) (below e l)));
}

-- the next time, where nothing is due
pub next_ready : (now : ℕ) (m : Machine) (net_count : ℕ) (fan : List (List ℕ)) (driven : List ℕ) (nets : Nets) (told : Told) (work : WorkList) (lists new : List (List (ℕ × Value))) (states : List Value) (found_by : List Snapshot → List Violation) (toggled_by : List Violation → List ℕ) (sets : List Set) (ended : ℕ) (found : List code_violation.Violation) (must due : Bool)
    → IsReadyAt must now m net_count fan driven nets told work lists states found_by toggled_by sets ended found → must ≡ false → new ≡ lists → due ≡ any_due now lists
    → OnFalse due (IsReadyAt false (now + 1) m net_count fan driven nets told work new states found_by toggled_by sets ended found)
next_ready now m net_count fan driven nets told work lists new states found_by toggled_by sets ended found must true h n e d = tt
next_ready now m net_count fan driven nets told work lists new states found_by toggled_by sets ended found must false h n e d =
    subst (λ ls. IsReadyAt false (now + 1) m net_count fan driven nets told work ls states found_by toggled_by sets ended found) (sym e) (record {
      round = record {
        circuit = h.round.circuit;
        state_of_each = h.round.state_of_each;
        settled = λ k. h.round.settled n;
        nets_are = h.round.nets_are;
        idle = h.round.idle;
        in_order = pending_next driven nets.values.items lists now h.round.in_order (sym d);
      };
      count = h.count;
      checks = h.checks;
      within = h.within;
      free = h.free;
      told = h.told;
      begun = h.begun;
    })

-- the violations of the times that ended stay
pub begun_still : (old new : List code_violation.Violation) → take (length old) new ≡ old → length old ≤ length new
begun_still old new e = let k : length (take (length old) new) ≡ length old = ap length e in at (length old) new k
  where
    at : (n : ℕ) (xs : List code_violation.Violation) → length (take n xs) ≡ n → n ≤ length xs
    at zero xs k = omega arith
    at (suc n) [] k = absurd (let q : 0 ≡ suc n = k in omega arith)
    at (suc n) (x ∷ xs) k = let q : n ≤ length xs = at n xs (omega arith) in omega arith

take_still : (f : code_violation.Violation → Violation) (ended n : ℕ) (old new : List code_violation.Violation) → take n new ≡ old → ended ≤ n → n ≤ length new → take ended (map f new) ≡ take ended (map f old)
take_still f ended n old new e l k = at ended n new l k ∙ ap (λ xs. take ended (map f xs)) e
  where
    at : (a b : ℕ) (xs : List code_violation.Violation) → a ≤ b → b ≤ length xs → take a (map f xs) ≡ take a (map f (take b xs))
    at zero b xs p q = refl
    at (suc a) zero xs p q = absurd (omega arith)
    at (suc a) (suc b) [] p q = absurd (omega arith)
    at (suc a) (suc b) (x ∷ xs) p q = ap (λ ys. f x ∷ ys) (at a b xs (omega arith) (omega arith))

pub kept_still : (told : Told) (latest latest' : List Snapshot → List Latest) (ended : ℕ) (old new : List code_violation.Violation) (changed : ℕ) (applied : Stimulus) → latest' ≡ latest → take (length old) new ≡ old → ended ≤ length old
    → kept_of told latest' ended new changed applied ≡ kept_of told latest ended old changed applied
kept_still told latest latest' ended old new changed applied same e l =
    ap (λ f. kept_of told f ended new changed applied) same
    ∙ ap (λ vs. record { told = told.values.items; latest = latest; violations = vs; last = changed; stimulus = applied }) (take_still (λ v. violation_seen v) ended (length old) old new e l (begun_still old new e))

-- toggles change a net
pub toggles_state_move : (m : Machine) (fan : List (List ℕ)) (driven : List ℕ) (s : State) (found_by : List Snapshot → List Violation) (toggled_by : List Violation → List ℕ) (stands after : List Snapshot → Type 0) (now : ℕ) (seen : List Value) (old new : List code_violation.Violation) (sets : List Set) (none : Bool)
    → IsOfCircuit m fan driven (length s.values) (length s.lists) → AreChecksOf m driven (length s.values) found_by toggled_by → seen ≡ s.values → HasSeen found_by toggled_by stands after now seen old new sets → is_empty (map (λ c. set_seen c) sets) ≡ none
    → OnTrue (not none) (Moves m now (map (λ c. set_seen c) sets) s)
toggles_state_move m fan driven s found_by toggled_by stands after now seen old new sets true circuit checks v h e = tt
toggles_state_move m fan driven s found_by toggled_by stands after now seen old new sets false circuit checks v h e =
    let is : map (λ c. set_seen c) sets ≡ toggles_of (toggled_by h.found) s.values = h.handed ∙ ap (toggles_of (toggled_by h.found)) v in
    subst (λ cs. Moves m now cs s) (sym is) (flips_move m now (toggled_by h.found) s (subst (λ os. AreFree os (length s.values) (toggled_by h.found)) circuit.outputs (checks.free h.found)) (ap is_empty (sym is) ∙ e))

-- and the simulation is as ready with them as before
pub toggles_ready : (t : ℕ) (m : Machine) (net_count : ℕ) (fan : List (List ℕ)) (driven : List ℕ) (nets : Nets) (told : Told) (work : WorkList) (lists : List (List (ℕ × Value))) (states : List Value) (found_by found_by' : List Snapshot → List Violation) (toggled_by toggled_by' : List Violation → List ℕ) (sets sets' : List Set) (ended : ℕ) (found found' : List code_violation.Violation)
    → (stands after : List Snapshot → Type 0) (now : ℕ) (seen : List Value)
    → IsReadyAt false t m net_count fan driven nets told work lists states found_by toggled_by sets ended found → seen ≡ nets.values.items → found_by' ≡ found_by → toggled_by' ≡ toggled_by → HasSeen found_by toggled_by stands after now seen found found' sets' → take (length found) found' ≡ found
    → IsReadyAt false t m net_count fan driven nets told work lists states found_by' toggled_by' sets' ended found'
toggles_ready t m net_count fan driven nets told work lists states found_by found_by' toggled_by toggled_by' sets sets' ended found found' stands after now seen h v p q s kept =
    let is : map (λ c. set_seen c) sets' ≡ toggles_of (toggled_by s.found) nets.values.items = s.handed ∙ ap (toggles_of (toggled_by s.found)) v in
    let free : AreFree driven (length nets.values.items) (toggled_by s.found) = h.checks.free s.found in
    let begun : ended ≤ length found = h.begun in
    let more : length found ≤ length found' = begun_still found found' kept in
    record {
      round = h.round;
      count = h.count;
      checks = record { violated = p ∙ h.checks.violated; notifiers = q ∙ h.checks.notifiers; free = λ vs. subst (λ f. AreFree driven (length nets.values.items) (f vs)) (sym q) (h.checks.free vs) };
      within = each_within (length nets.values.items) sets' (subst (All (λ c. c.0 < length nets.values.items)) (sym is) (toggles_within driven (length nets.values.items) (toggled_by s.found) nets.values.items free));
      free = subst (AreHanded driven) (sym is) (toggles_handed driven (length nets.values.items) (toggled_by s.found) nets.values.items free);
      told = h.told;
      begun = omega arith;
    }
  where
    each_within : (n : ℕ) (cs : List Set) → All (λ c. c.0 < n) (map (λ c. set_seen c) cs) → All (λ c. c.net < n) cs
    each_within n cs h = λ i d l. subst (λ x. x.0 < n) (get_or-map (λ c. set_seen c) cs i d (set_seen d) l) (h i (set_seen d) (subst (λ k. i < k) (sym (length-map cs (λ c. set_seen c))) l))

-- what the test for no items says
pub no_items : {A : Type 0} (xs : List A) (n : ℕ) (b : Bool) → b ≡ (n == 0) → n ≡ length xs → b ≡ true → xs ≡ []
no_items [] n b e l t = refl
no_items (x ∷ xs) n b e l t = absurd (let k : (n == 0) ≡ true = sym e ∙ t in let m : n ≡ suc (length xs) = l in let z : n ≡ 0 = grind (arith, nat_tests) in omega arith)

pub none_handed : (sets : List Set) (n : ℕ) (b : Bool) → b ≡ (n == 0) → n ≡ length sets → is_empty (map (λ c. set_seen c) sets) ≡ b
none_handed [] n b e l = sym (e ∙ ap (λ k. k == 0) l)
none_handed (x ∷ xs) n b e l = sym (e ∙ later n (length xs) l)
  where
    later : (n k : ℕ) → n ≡ suc k → (n == 0) ≡ false
    later n k q = grind (arith, nat_tests)

-- a snapshot is seen at a time that no snapshot before is later than
pub snapshot_stands : (m : Machine) (driven : List ℕ) (n now : ℕ) (nets : Nets) (lists : List (List (ℕ × Value))) (states : List Value) (found_by : List Snapshot → List Violation) (toggled_by : List Violation → List ℕ) (stands after : List Snapshot → Type 0)
    (old new : List code_violation.Violation) (sets : List Set) (counted : ℕ) → AreChecksOf m driven n found_by toggled_by → HasSeen found_by toggled_by stands after now nets.values.items old new sets
    → AfterSnapshot m now (λ r. StandsFor nets lists states stands old counted now r) (λ r. StandsFor nets lists states after new counted now r) (map (λ c. set_seen c) sets)
snapshot_stands m driven n now nets lists states found_by toggled_by stands after old new sets counted of s = record {
  each = λ r h.
      (let values : r.state.values ≡ nets.values.items = ap (λ x. x.values) h.state in
      let here = s.each r.snapshots h.checks h.times in
      let snapshots : List Snapshot = record { time = now; values = r.state.values } ∷ r.snapshots in
      let found : s.found ≡ m.violated snapshots =
      here.0 ∙ (ap (λ vs. found_by (record { time = now; values = vs } ∷ r.snapshots)) (sym values) ∙ ap (λ f. f snapshots) of.violated) in (
        record {
          state = h.state;
          before = h.before;
          checks = subst (λ vs. after (record { time = now; values = vs } ∷ r.snapshots)) (sym values) here.1;
          times = (omega arith, h.times);
          violations = ap (λ vs. vs ++ m.violated snapshots) h.violations ∙ (ap (λ vs. map (λ v. violation_seen v) old ++ vs) (sym found) ∙ sym s.added);
          evaluations = h.evaluations;
        },
        s.handed ∙ (ap (toggles_of (toggled_by s.found)) (sym values) ∙ (ap (λ f. toggles_of (f s.found) r.state.values) of.notifiers ∙ ap (λ vs. toggles_of (m.notifiers vs) r.state.values) found)),
      ));
}
