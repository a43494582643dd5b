-- A run in which all deadlines are met: no snapshot has a net changed after its deadline.
use Rattle.std.specs.Prelude.{◌≡◌, ◌≢◌, ℕ, zero, suc, ◌<◌, ◌≤◌, ◌==◌, ◌||◌, not, Bool, true, false, if◌then◌else◌, All, List, [], ◌∷◌, length, slice_index_or, refl}
use Rattle.std.proofs.Common.{sym, ◌∙◌, subst, arith, inl, inr}
use Rattle.std.proofs.lemmas.Bool.{cases_lt}
use Rattle.std.proofs.lemmas.Bool.Decides.{nat_tests}
use Rattle.std.proofs.lemmas.List.Elements.{All-head, All-tail, All-weaker}
use Rattle.std.specs.declared.option.Option.{Option}
use Rattle.std.specs.declared.option.Option.TheVariants.{Some, None}
use Rattle.sg_logic.specs.declared.values.Value.{Value}
use Rattle.sg_logic.specs.declared.values.Value.TheVariants.{Zero, One, X, Z}
use Rattle.sg_model.specs.Values.{value_at}
use Rattle.sg_model.specs.Machine.{Machine, State, Stamp, Snapshot, IsNoOutput}
use Rattle.sg_model.specs.Time.{Run, Ended, Whole, Spent, toggle, toggles, rounds, needs_round, with_round, with_snapshot, flips_of, is_empty, spent_net, time_of}
use Rattle.sg_model.specs.Round.{any_due, round}
use Rattle.sg_model.specs.Run.{times_from, go_on, run_of}
use Rattle.settle_bound.specs.Staying.{StaysAfter}
use Rattle.settle_bound.proofs.Deadlines.{IsStamped, MeetsDeadlines, IsNoticed, IsMoved, AreMoved, IsOnTime, AreCalm, AreSettledAll}
use Rattle.settle_bound.proofs.RoundTimes.{round-on_time, round-settled, round-values}

-- the nets are as in the latest snapshot, but for those whose deadline isn't past
abbrev Drift : (ℕ → ℕ) → ℕ → List Snapshot → List Value → Type 0
Drift until now [] values = Unit {0}
Drift until now (s ∷ older) values = (net : ℕ) → until net < now → value_at values net ≡ value_at s.values net

-- in the first round of a run each element may place a value anew; later each is settled
abbrev AreReady : Machine → (ℕ → ℕ) → (ℕ → ℕ) → ℕ → Bool → State → Type 0
AreReady m delay until now true s = AreCalm m delay until now s
AreReady m delay until now false s = AreSettledAll m s

ready-calm : (m : Machine) (delay until : ℕ → ℕ) (now : ℕ) (must : Bool) (s : State) → AreReady m delay until now must s → AreCalm m delay until now s
ready-calm m delay until now true s h = h
ready-calm m delay until now false s h = λ e l. inl (h e l)

-- a run so far, at a time
record Stands (m : Machine) (delay until : ℕ → ℕ) (now : ℕ) (must : Bool) (r : Run) : Type 0 where
  on_time : IsOnTime m until now r.state
  ready : AreReady m delay until now must r.state
  drift : Drift until now r.snapshots r.state.values
  stay : (net : ℕ) → StaysAfter (until net) net r.snapshots

-- a time that ended whole left such a run, whose nets are those of its latest snapshot
record IsLeft (m : Machine) (delay until : ℕ → ℕ) (now : ℕ) (r : Run) : Type 0 where
  stands : Stands m delay until now false r
  seen : (t : ℕ) → Drift until t r.snapshots r.state.values

abbrev EndsWell : Machine → (ℕ → ℕ) → (ℕ → ℕ) → ℕ → Ended → Type 0
EndsWell m delay until now (Whole r) = IsLeft m delay until now r
EndsWell m delay until now (Spent net evaluations) = Unit {0}

drift-on : (until : ℕ → ℕ) (now : ℕ) (ss : List Snapshot) (values values' : List Value) → ((net : ℕ) → until net < now → value_at values' net ≡ value_at values net) → Drift until now ss values → Drift until now ss values'
drift-on until now [] values values' h d = tt
drift-on until now (s ∷ ss) values values' h d = λ net l. h net l ∙ d net l

stays-on : (until : ℕ → ℕ) (now net : ℕ) (ss : List Snapshot) (values : List Value) → Drift until now ss values → StaysAfter (until net) net ss → StaysAfter (until net) net (record { time = now; values = values } ∷ ss)
stays-on until now net [] values d h = tt
stays-on until now net (s ∷ ss) values d h = ((λ l. d net l), h)

-- a round more
after-round : (m : Machine) (delay until : ℕ → ℕ) → MeetsDeadlines m delay until → (now : ℕ) (must all : Bool) (handed : List (ℕ × Value)) (r : Run) → Stands m delay until now must r → AreMoved m delay until now handed
    → Stands m delay until now false (with_round m now all handed r)
after-round m delay until meets now must all handed r s moved = record {
  on_time = round-on_time m delay until meets now handed r.state s.on_time (ready-calm m delay until now must r.state s.ready) moved;
  ready = round-settled m until now handed r.state s.on_time;
  drift = drift-on until now r.snapshots r.state.values (round m now handed r.state).values (λ net l. round-values m delay until now handed r.state s.on_time moved net l) s.drift;
  stay = s.stay;
}

-- a snapshot more
after-snapshot : (m : Machine) (delay until : ℕ → ℕ) (now : ℕ) (r : Run) → Stands m delay until now false r → IsLeft m delay until now (with_snapshot m now r)
after-snapshot m delay until now r s = record {
  stands = record {
    on_time = s.on_time;
    ready = s.ready;
    drift = λ net l. refl;
    stay = λ net. stays-on until now net r.snapshots r.state.values s.drift (s.stay net);
  };
  seen = λ t net l. refl;
}

-- what no element drives
outside : (net : ℕ) (nets : List ℕ) (e : ℕ) → e < length nets → IsNoOutput net nets → slice_index_or nets e 0 ≢ net
outside net [] e l h = absurd (omega arith)
outside net (x ∷ xs) zero l h = h.0
outside net (x ∷ xs) (suc e) l h = outside net xs e (omega arith) h.1

noticed-moved : (m : Machine) (delay until : ℕ → ℕ) (now : ℕ) (last : Snapshot) (values : List Value) (net : ℕ) → ((n : ℕ) → until n < now → value_at values n ≡ value_at last.values n)
    → IsNoticed m until last (record { time = now; values = values }) net → IsMoved m delay until now net
noticed-moved m delay until now last values net same h =
    let soon : now ≤ until h.source = elim (cases_lt (until h.source) now) [
      | inl late ↦ absurd (h.changed (sym (same h.source late)))
      | inr l ↦ l
    ] in
    let sooner = h.sooner in
    record {
      soon = omega arith;
      again = λ e l is. absurd (outside net m.outputs e l h.undriven is);
    }

toggles-moved : (m : Machine) (delay until : ℕ → ℕ) (now : ℕ) (nets : List ℕ) (values : List Value) → All (IsMoved m delay until now) nets → AreMoved m delay until now (toggles nets values)
toggles-moved m delay until now [] values h = tt
toggles-moved m delay until now (net ∷ nets) values h =
    at (value_at values net) (All-head (IsMoved m delay until now) net nets h) (toggles-moved m delay until now nets values (All-tail (IsMoved m delay until now) net nets h))
  where
    at : (v : Value) → IsMoved m delay until now net → AreMoved m delay until now (toggles nets values) → AreMoved m delay until now (toggle v net (toggles nets values))
    at Zero one rest = (one, rest)
    at One one rest = (one, rest)
    at X one rest = (one, rest)
    at Z one rest = rest

-- the toggles after a snapshot come by their deadlines
flips-moved : (m : Machine) (delay until : ℕ → ℕ) → MeetsDeadlines m delay until → (now : ℕ) (r : Run) → Stands m delay until now false r → AreMoved m delay until now (flips_of m (with_snapshot m now r))
flips-moved m delay until meets now r s = at r.snapshots s.drift
  where
    at : (older : List Snapshot) → Drift until now older r.state.values → AreMoved m delay until now (toggles (m.notifiers (m.violated (record { time = now; values = r.state.values } ∷ older))) r.state.values)
    at [] d = subst (λ ns. AreMoved m delay until now (toggles ns r.state.values)) (sym (meets.unnoticed (record { time = now; values = r.state.values }))) tt
    at (last ∷ older) d =
        let this : Snapshot = record { time = now; values = r.state.values } in
        toggles-moved m delay until now (m.notifiers (m.violated (this ∷ last ∷ older))) r.state.values
        (All-weaker (IsNoticed m until last this) (IsMoved m delay until now) (λ net h. noticed-moved m delay until now last r.state.values net d h) (m.notifiers (m.violated (this ∷ last ∷ older))) (meets.noticed this last older))

no_more : (must rest : Bool) → (must || rest) ≡ false → must ≡ false
no_more true rest e = cc
no_more false rest e = refl

-- where no round takes place each element is settled
at_rest : (m : Machine) (delay until : ℕ → ℕ) (now : ℕ) (must : Bool) (handed : List (ℕ × Value)) (r : Run) → needs_round now must handed r.state ≡ false → Stands m delay until now must r → Stands m delay until now false r
at_rest m delay until now must handed r e s =
    let not_must : must ≡ false = no_more must (not (is_empty handed) || any_due now r.state.lists) e in
    record { on_time = s.on_time; ready = subst (λ b. AreReady m delay until now b r.state) not_must s.ready; drift = s.drift; stay = s.stay }

rounds-well : (m : Machine) (delay until : ℕ → ℕ) → MeetsDeadlines m delay until → (left now : ℕ) (must : Bool) (handed : List (ℕ × Value)) (r : Run) → Stands m delay until now must r → AreMoved m delay until now handed
    → EndsWell m delay until now (rounds left m now must handed r)
unfolding rounds
rounds-well m delay until meets zero now must handed r s moved = at (needs_round now must handed r.state) refl (is_empty (flips_of m (with_snapshot m now r)))
  where
    at : (b : Bool) → needs_round now must handed r.state ≡ b → (c : Bool)
        → EndsWell m delay until now (if b then Spent (spent_net m now handed r) r.evaluations else (if c then Whole (with_snapshot m now r) else Spent (spent_net m now (flips_of m (with_snapshot m now r)) (with_snapshot m now r)) r.evaluations))
    at true e c = tt
    at false e true = after-snapshot m delay until now r (at_rest m delay until now must handed r e s)
    at false e false = tt
rounds-well m delay until meets (suc left) now must handed r s moved =
    at (needs_round now must handed r.state) refl (is_empty (flips_of m (with_snapshot m now r))) (λ handed' r' s' moved'. rounds-well m delay until meets left now false handed' r' s' moved')
  where
    at : (b : Bool) → needs_round now must handed r.state ≡ b → (c : Bool)
        → ((handed' : List (ℕ × Value)) (r' : Run) → Stands m delay until now false r' → AreMoved m delay until now handed' → EndsWell m delay until now (rounds left m now false handed' r'))
        → EndsWell m delay until now (if b then rounds left m now false [] (with_round m now must handed r) else (if c then Whole (with_snapshot m now r) else rounds left m now false [] (with_round m now false (flips_of m (with_snapshot m now r)) (with_snapshot m now r))))
    at true e c rest = rest [] (with_round m now must handed r) (after-round m delay until meets now must must handed r s moved) tt
    at false e true rest = after-snapshot m delay until now r (at_rest m delay until now must handed r e s)
    at false e false rest =
        let quiet = at_rest m delay until now must handed r e s in
        rest [] (with_round m now false (flips_of m (with_snapshot m now r)) (with_snapshot m now r))
        (after-round m delay until meets now false false (flips_of m (with_snapshot m now r)) (with_snapshot m now r) (after-snapshot m delay until now r quiet).stands (flips-moved m delay until meets now r quiet)) tt

-- the next tick
later-stamp : (now : ℕ) (stamp : Option Stamp) → IsStamped now stamp → IsStamped (suc now) stamp
later-stamp now None h = tt
later-stamp now (Some stamp) h = omega arith

next-tick : (m : Machine) (delay until : ℕ → ℕ) (now : ℕ) (r : Run) → IsLeft m delay until now r → Stands m delay until (suc now) (suc now == 0) r
next-tick m delay until now r h =
    let not_first : (suc now == 0) ≡ false = grind (arith, nat_tests) in
    let on = h.stands.on_time in
    record {
      on_time = record { list_of_each = on.list_of_each; state_of_each = on.state_of_each; within = on.within; pending = on.pending; stamped = λ net. later-stamp now (slice_index_or r.state.stamps net None) (on.stamped net) };
      ready = subst (λ b. AreReady m delay until (suc now) b r.state) (sym not_first) h.stands.ready;
      drift = h.seen (suc now);
      stay = h.stands.stay;
    }

times-stay : (m : Machine) (delay until : ℕ → ℕ) → MeetsDeadlines m delay until → (sets : ℕ → List (ℕ × Value)) → ((t : ℕ) → AreMoved m delay until t (sets t))
    → (left bound now : ℕ) (r : Run) → Stands m delay until now (now == 0) r → (net : ℕ) → StaysAfter (until net) net (times_from left bound m sets now r).run.snapshots
unfolding times_from
times-stay m delay until meets sets moved zero bound now r s net = s.stay net
times-stay m delay until meets sets moved (suc left) bound now r s net =
    at (time_of bound m sets now r) (rounds-well m delay until meets bound now (now == 0) (sets now) r s (moved now)) (λ r' s'. times-stay m delay until meets sets moved left bound (suc now) r' s' net)
  where
    at : (ended : Ended) → EndsWell m delay until now ended → ((r' : Run) → Stands m delay until (suc now) (suc now == 0) r' → StaysAfter (until net) net (times_from left bound m sets (suc now) r').run.snapshots)
        → StaysAfter (until net) net (go_on ended r now (λ r'. times_from left bound m sets (suc now) r')).run.snapshots
    at (Whole r') w rest = rest r' (next-tick m delay until now r' w)
    at (Spent n evaluations) w rest = s.stay net

-- so the whole run
pub run-stays : (m : Machine) (delay until : ℕ → ℕ) → MeetsDeadlines m delay until → (sets : ℕ → List (ℕ × Value)) → ((t : ℕ) → AreMoved m delay until t (sets t))
    → (bound end : ℕ) (first : State) → IsOnTime m until 0 first → (net : ℕ) → StaysAfter (until net) net (run_of bound m sets end first).run.snapshots
run-stays m delay until meets sets moved bound end first on net =
    times-stay m delay until meets sets moved (suc end) bound 0 (record { state = first; snapshots = []; violations = []; before = first.values; evaluations = 0 })
    (record { on_time = on; ready = λ e l. inr (let a = meets.alone e l in omega arith); drift = tt; stay = λ net. tt }) net
