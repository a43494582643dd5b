-- Two runs that go on alike: one over all snapshots, the other over a certain one and those after it, with the same violations.
use Rattle.std.specs.Prelude.{◌≡◌, ℕ, zero, suc, ◌<◌, ◌==◌, Bool, true, false, All, List, [], ◌∷◌, ◌++◌, None, refl}
use Rattle.std.proofs.Common.{sym, ◌∙◌, ap, subst, arith, append_assoc}
use Rattle.std.proofs.lemmas.List.Elements.{All-cons}
use Rattle.sg_logic.specs.declared.values.Value.{Value}
use Rattle.sg_model.specs.Machine.{Machine, Snapshot, State, Violation}
use Rattle.sg_model.specs.Round.{round}
use Rattle.sg_model.specs.Time.{Run, Ended, Whole, Spent, rounds, needs_round, with_round, with_snapshot, flips_of, is_empty, spent_net, toggles}
use Rattle.sg_model.specs.Run.{Finished, times_from}
use Rattle.sg_model.proofs.RunSteps.{round-is, rounds-round, rounds-spent, rounds-whole, rounds-toggle, rounds-toggle_spent, times-none, times-whole}
use Rattle.time_checks.specs.Falling.{DontFall}
use Rattle.sim_times.specs.Skipping.{later_falls}
use Rattle.rest_laws.proofs.Lasts.{IsAfter}
use Rattle.rest_laws.proofs.Splits.{next_ended}

-- the machine with other violations
abbrev pub finding : Machine → (List Snapshot → List Violation) → Machine
finding m found = record m { violated = found }

-- what belongs to a snapshot after another is found without those before that
abbrev pub FindsAlike : (violated found : List Snapshot → List Violation) → Snapshot → List Snapshot → Type 0
FindsAlike violated found last older = (now : Snapshot) (newer : List Snapshot) → DontFall now.time (newer ++ last ∷ older) → All (IsAfter last.time) (now ∷ newer)
    → violated (now ∷ newer ++ last ∷ older) ≡ found (now ∷ newer ++ last ∷ [])

-- two runs so far: the first has these snapshots and violations more, which came first
pub record AreAlike (last : Snapshot) (older : List Snapshot) (front : List Violation) (now : ℕ) (r q : Run) : Type 0 where
  pub newer : List Snapshot
  pub state : r.state ≡ q.state
  pub whole : r.snapshots ≡ newer ++ last ∷ older
  pub rest : q.snapshots ≡ newer ++ last ∷ []
  pub violations : r.violations ≡ front ++ q.violations
  pub after : All (IsAfter last.time) newer
  pub falls : DontFall now (newer ++ last ∷ older)

-- a time ended in a run that is like another
pub record EndsAlike (last : Snapshot) (older : List Snapshot) (front : List Violation) (now : ℕ) (next : Run) (end : Ended) : Type 0 where
  pub run : Run
  pub is : end ≡ Whole run
  pub alike : AreAlike last older front now next run

-- so did all times
pub record AreEndsAlike (last : Snapshot) (older : List Snapshot) (front : List Violation) (f g : Finished) : Type 0 where
  pub unspent : g.spent ≡ None
  pub time : ℕ
  pub alike : AreAlike last older front time f.run g.run

abbrev shot_of : ℕ → State → Snapshot
shot_of now s = record { time = now; values = s.values }

round_same : (m : Machine) (found : List Snapshot → List Violation) (now : ℕ) (handed : List (ℕ × Value)) (s : State) → round m now handed s ≡ round (finding m found) now handed s
round_same m found now handed s = round-is m now handed s ∙ sym (round-is (finding m found) now handed s)

later_alike : (last : Snapshot) (older : List Snapshot) (front : List Violation) (now : ℕ) (r q : Run) → AreAlike last older front now r q → AreAlike last older front (suc now) r q
later_alike last older front now r q a = record {
  newer = a.newer;
  state = a.state;
  whole = a.whole;
  rest = a.rest;
  violations = a.violations;
  after = a.after;
  falls = later_falls now (suc now) (a.newer ++ last ∷ older) (omega arith) a.falls;
}

module _ (m : Machine) (found : List Snapshot → List Violation) (last : Snapshot) (older : List Snapshot) (front : List Violation) (same : FindsAlike m.violated found last older) (now : ℕ) (later : last.time < now) where
  round_alike : (all : Bool) (handed : List (ℕ × Value)) (r q : Run) → AreAlike last older front now r q → AreAlike last older front now (with_round m now all handed r) (with_round (finding m found) now all handed q)
  round_alike all handed r q a = record {
    newer = a.newer;
    state = ap (round m now handed) a.state ∙ round_same m found now handed q.state;
    whole = a.whole;
    rest = a.rest;
    violations = a.violations;
    after = a.after;
    falls = a.falls;
  }

  later_too : (r q : Run) (a : AreAlike last older front now r q) → All (IsAfter last.time) (shot_of now r.state ∷ a.newer)
  later_too r q a = All-cons (IsAfter last.time) (shot_of now r.state) a.newer later a.after

  found_alike : (r q : Run) → AreAlike last older front now r q → m.violated (shot_of now r.state ∷ r.snapshots) ≡ found (shot_of now q.state ∷ q.snapshots)
  found_alike r q a =
      ap (λ ss. m.violated (shot_of now r.state ∷ ss)) a.whole
      ∙ (same (shot_of now r.state) a.newer a.falls (later_too r q a)
      ∙ (ap (λ ss. found (shot_of now r.state ∷ ss)) (sym a.rest) ∙ ap (λ (s : State). found (shot_of now s ∷ q.snapshots)) a.state))

  snapshot_alike : (r q : Run) → AreAlike last older front now r q → AreAlike last older front now (with_snapshot m now r) (with_snapshot (finding m found) now q)
  snapshot_alike r q a = record {
    newer = shot_of now r.state ∷ a.newer;
    state = a.state;
    whole = ap (λ ss. shot_of now r.state ∷ ss) a.whole;
    rest = ap (λ (s : State). shot_of now s ∷ q.snapshots) (sym a.state) ∙ ap (λ ss. shot_of now r.state ∷ ss) a.rest;
    violations = ap (λ vs. vs ++ m.violated (shot_of now r.state ∷ r.snapshots)) a.violations
        ∙ (append_assoc front q.violations (m.violated (shot_of now r.state ∷ r.snapshots)) ∙ ap (λ vs. front ++ (q.violations ++ vs)) (found_alike r q a));
    after = later_too r q a;
    falls = (omega arith, a.falls);
  }

  flips_alike : (r q : Run) → AreAlike last older front now r q → flips_of m (with_snapshot m now r) ≡ flips_of (finding m found) (with_snapshot (finding m found) now q)
  flips_alike r q a =
      ap (λ vs. toggles (m.notifiers vs) r.state.values) (found_alike r q a) ∙ ap (λ (s : State). toggles (m.notifiers (found (shot_of now q.state ∷ q.snapshots))) s.values) a.state

  needs_alike : (must b : Bool) (handed : List (ℕ × Value)) (r q : Run) → AreAlike last older front now r q → needs_round now must handed r.state ≡ b → needs_round now must handed q.state ≡ b
  needs_alike must b handed r q a e = ap (needs_round now must handed) (sym a.state) ∙ e

  -- its last snapshot
  last_alike : (left : ℕ) (must : Bool) (handed : List (ℕ × Value)) (r q next : Run) → AreAlike last older front now r q → needs_round now must handed r.state ≡ false → is_empty (flips_of m (with_snapshot m now r)) ≡ true
      → rounds left m now must handed r ≡ Whole next → EndsAlike last older front now next (rounds left (finding m found) now must handed q)
  last_alike left must handed r q next a f g e =
      let k : Whole (with_snapshot m now r) ≡ Whole next = sym (rounds-whole left m now must handed r f g) ∙ e in
      let is_next : with_snapshot m now r ≡ next = cc in
      record {
        run = with_snapshot (finding m found) now q;
        is = rounds-whole left (finding m found) now must handed q (needs_alike must false handed r q a f) (ap is_empty (sym (flips_alike r q a)) ∙ g);
        alike = subst (λ x. AreAlike last older front now x (with_snapshot (finding m found) now q)) is_next (snapshot_alike r q a);
      }

  rounds_alike : (left : ℕ) (must : Bool) (handed : List (ℕ × Value)) (r q next : Run) → AreAlike last older front now r q → rounds left m now must handed r ≡ Whole next
      → EndsAlike last older front now next (rounds left (finding m found) now must handed q)
  rounds_alike zero must handed r q next a e = at (needs_round now must handed r.state) (is_empty (flips_of m (with_snapshot m now r))) refl refl
    where
      at : (b c : Bool) → needs_round now must handed r.state ≡ b → is_empty (flips_of m (with_snapshot m now r)) ≡ c → EndsAlike last older front now next (rounds zero (finding m found) now must handed q)
      at true c f g = absurd (let k : Spent (spent_net m now handed r) r.evaluations ≡ Whole next = sym (rounds-spent m now must handed r f) ∙ e in cc)
      at false true f g = last_alike zero must handed r q next a f g e
      at false false f g = absurd (let k : Spent (spent_net m now (flips_of m (with_snapshot m now r)) (with_snapshot m now r)) r.evaluations ≡ Whole next = sym (rounds-toggle_spent m now must handed r f g) ∙ e in cc)
  rounds_alike (suc left) must handed r q next a e =
      at (needs_round now must handed r.state) (is_empty (flips_of m (with_snapshot m now r))) refl refl (λ r' q' b f. rounds_alike left false [] r' q' next b f)
    where
      at : (b c : Bool) → needs_round now must handed r.state ≡ b → is_empty (flips_of m (with_snapshot m now r)) ≡ c
          → ((r' q' : Run) → AreAlike last older front now r' q' → rounds left m now false [] r' ≡ Whole next → EndsAlike last older front now next (rounds left (finding m found) now false [] q'))
          → EndsAlike last older front now next (rounds (suc left) (finding m found) now must handed q)
      at true c f g rest =
          let end = rest (with_round m now must handed r) (with_round (finding m found) now must handed q) (round_alike must handed r q a) (sym (rounds-round left m now must handed r f) ∙ e) in
          record { run = end.run; is = rounds-round left (finding m found) now must handed q (needs_alike must true handed r q a f) ∙ end.is; alike = end.alike }
      at false true f g rest = last_alike (suc left) must handed r q next a f g e
      at false false f g rest =
          let sr : Run = with_snapshot m now r in
          let sq : Run = with_snapshot (finding m found) now q in
          let flips : flips_of m sr ≡ flips_of (finding m found) sq = flips_alike r q a in
          let end = rest (with_round m now false (flips_of m sr) sr) (with_round (finding m found) now false (flips_of m sr) sq) (round_alike false (flips_of m sr) sr sq (snapshot_alike r q a)) (sym (rounds-toggle left m now must handed r f g) ∙ e) in
          record {
            run = end.run;
            is = rounds-toggle left (finding m found) now must handed q (needs_alike must false handed r q a f) (ap is_empty (sym flips) ∙ g)
                ∙ (ap (λ cs. rounds left (finding m found) now false [] (with_round (finding m found) now false cs sq)) (sym flips) ∙ end.is);
            alike = end.alike;
          }

module _ (m : Machine) (found : List Snapshot → List Violation) (last : Snapshot) (older : List Snapshot) (front : List Violation) (same : FindsAlike m.violated found last older) (bound : ℕ) (sets : ℕ → List (ℕ × Value)) where
  pub times_alike : (left now : ℕ) (r q : Run) → last.time < now → AreAlike last older front now r q → (times_from left bound m sets now r).spent ≡ None
      → AreEndsAlike last older front (times_from left bound m sets now r) (times_from left bound (finding m found) sets now q)
  times_alike zero now r q later a unspent =
      subst (λ f. AreEndsAlike last older front f (times_from zero bound (finding m found) sets now q)) (sym (times-none bound m sets now r))
      (subst (AreEndsAlike last older front (record { run = r; spent = None; evaluations = r.evaluations })) (sym (times-none bound (finding m found) sets now q)) (record { unspent = refl; time = now; alike = a }))
  times_alike (suc left) now r q later a unspent =
      let e = next_ended bound m sets left now r unspent in
      let end = rounds_alike m found last older front same now later bound (now == 0) (sets now) r q e.next a e.ended in
      let on : times_from (suc left) bound (finding m found) sets now q ≡ times_from left bound (finding m found) sets (suc now) end.run = times-whole left bound (finding m found) sets now q end.run end.is in
      let rest = times_alike left (suc now) e.next end.run (omega arith) (later_alike last older front now e.next end.run end.alike) e.unspent in
      subst (λ f. AreEndsAlike last older front f (times_from (suc left) bound (finding m found) sets now q)) (sym e.on)
      (subst (AreEndsAlike last older front (times_from left bound m sets (suc now) e.next)) (sym on) rest)
