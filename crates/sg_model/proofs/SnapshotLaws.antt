-- The snapshots that a time adds, and the last one of each time along a run.
use Rattle.std.specs.Prelude.{◌≡◌, ℕ, zero, suc, ◌+◌, ◌<◌, ◌≤◌, ◌==◌, Bool, true, false, if◌then◌else◌, List, [], ◌∷◌, ◌++◌, refl}
use Rattle.std.proofs.Common.{sym, ◌∙◌, ap, subst, arith}
use Rattle.std.proofs.lemmas.List.{append_assoc}
use Rattle.std.proofs.lemmas.Bool.Decides.{nat_tests}
use Rattle.sg_logic.specs.declared.values.Value.{Value}
use Rattle.sg_model.specs.Machine.{Machine, Snapshot}
use Rattle.sg_model.specs.Time.{Run, Ended, Whole, Spent, rounds, with_round, with_snapshot, time_of, needs_round, flips_of, is_empty, spent_net}
use Rattle.sg_model.specs.Run.{times_from, go_on, lasts, lasts_before}
use Rattle.sg_model.specs.Quiet.{IsSeen, with_copies}

-- all of them are of the time
abbrev pub AllAt : ℕ → List Snapshot → Type 0
AllAt now [] = Unit {0}
AllAt now (s ∷ ss) = (s.time ≡ now) × AllAt now ss

-- the latest of them is of an earlier time
abbrev pub AreBefore : List Snapshot → ℕ → Type 0
AreBefore [] now = Unit {0}
AreBefore (s ∷ ss) now = s.time < now

-- what a time that ended added: a snapshot of the nets as they are, and maybe others of the time before it
pub record AddsSnapshots (now : ℕ) (r next : Run) : Type 0 where
  pub newer : List Snapshot
  pub at : AllAt now newer
  pub is : next.snapshots ≡ record { time = now; values = next.state.values } ∷ (newer ++ r.snapshots)

at_end : (now : ℕ) (xs : List Snapshot) (s : Snapshot) → AllAt now xs → s.time ≡ now → AllAt now (xs ++ s ∷ [])
at_end now [] s a e = (e, tt)
at_end now (x ∷ xs) s a e = (a.0, at_end now xs s a.1 e)

adds_one : (m : Machine) (now : ℕ) (r next : Run) → with_snapshot m now r ≡ next → AddsSnapshots now r next
adds_one m now r next e = subst (AddsSnapshots now r) e (record { newer = []; at = tt; is = refl })

adds_more : (m : Machine) (now : ℕ) (handed : List (ℕ × Value)) (r next : Run) → AddsSnapshots now (with_round m now false handed (with_snapshot m now r)) next → AddsSnapshots now r next
adds_more m now handed r next a =
    let s : Snapshot = record { time = now; values = r.state.values } in
    record {
      newer = a.newer ++ s ∷ [];
      at = at_end now a.newer s a.at refl;
      is = a.is ∙ ap (λ ss. record { time = now; values = next.state.values } ∷ ss) (sym (append_assoc a.newer (s ∷ []) r.snapshots));
    }

-- a time that ends whole adds its snapshots
pub rounds-snapshots : (left : ℕ) (m : Machine) (now : ℕ) (must : Bool) (handed : List (ℕ × Value)) (r next : Run) → rounds left m now must handed r ≡ Whole next → AddsSnapshots now r next
unfolding rounds
rounds-snapshots zero m now must handed r next e = at (needs_round now must handed r.state) (is_empty (flips_of m (with_snapshot m now r))) e
  where
    at : (b c : Bool) → (if b then Spent (spent_net m now handed r) r.evaluations else (if c then Whole (with_snapshot m now r) else Spent (spent_net m now (flips_of m (with_snapshot m now r)) (with_snapshot m now r)) r.evaluations)) ≡ Whole next → AddsSnapshots now r next
    at true c f = absurd (let k : Spent (spent_net m now handed r) r.evaluations ≡ Whole next = f in cc)
    at false true f = adds_one m now r next (let k : Whole (with_snapshot m now r) ≡ Whole next = f in cc)
    at false false f = absurd (let k : Spent (spent_net m now (flips_of m (with_snapshot m now r)) (with_snapshot m now r)) r.evaluations ≡ Whole next = f in cc)
rounds-snapshots (suc left) m now must handed r next e = at (needs_round now must handed r.state) (is_empty (flips_of m (with_snapshot m now r))) (λ handed r. rounds-snapshots left m now false handed r next) e
  where
    at : (b c : Bool) → ((handed : List (ℕ × Value)) (r : Run) → rounds left m now false handed r ≡ Whole next → AddsSnapshots now r next)
        → (if b then rounds left m now false [] (with_round m now must handed r) else (if c then Whole (with_snapshot m now r) else rounds left m now false [] (with_round m now false (flips_of m (with_snapshot m now r)) (with_snapshot m now r)))) ≡ Whole next → AddsSnapshots now r next
    at true c rest f = let a = rest [] (with_round m now must handed r) f in record { newer = a.newer; at = a.at; is = a.is }
    at false true rest f = adds_one m now r next (let k : Whole (with_snapshot m now r) ≡ Whole next = f in cc)
    at false false rest f = adds_more m now (flips_of m (with_snapshot m now r)) r next (rest [] (with_round m now false (flips_of m (with_snapshot m now r)) (with_snapshot m now r)) f)

-- of the snapshots of one time only the last stays
lasts_at : (now : ℕ) (newer old : List Snapshot) → AllAt now newer → lasts_before now (newer ++ old) ≡ lasts_before now old
lasts_at now [] old a = refl
lasts_at now (s ∷ ss) old a =
    let e : s.time ≡ now = a.0 in
    let t : (s.time == now) ≡ true = grind (arith, nat_tests) in
    ap (λ b. if b then lasts_before now (ss ++ old) else s ∷ lasts_before s.time (ss ++ old)) t ∙ lasts_at now ss old a.1

lasts_old : (now : ℕ) (old : List Snapshot) → AreBefore old now → lasts_before now old ≡ lasts old
lasts_old now [] b = refl
lasts_old now (s ∷ ss) b =
    let l : s.time < now = b in
    let t : (s.time == now) ≡ false = grind (arith, nat_tests) in
    ap (λ c. if c then lasts_before now ss else s ∷ lasts_before s.time ss) t

pub lasts-added : (now : ℕ) (values : List Value) (newer old : List Snapshot) → AllAt now newer → AreBefore old now
    → lasts (record { time = now; values = values } ∷ (newer ++ old)) ≡ record { time = now; values = values } ∷ lasts old
lasts-added now values newer old a b = ap (λ ss. record { time = now; values = values } ∷ ss) (lasts_at now newer old a ∙ lasts_old now old b)

-- a time that ended whole adds one last snapshot
pub time-lasts : (now : ℕ) (r next : Run) → AddsSnapshots now r next → AreBefore r.snapshots now → lasts next.snapshots ≡ record { time = now; values = next.state.values } ∷ lasts r.snapshots
time-lasts now r next a b = ap lasts a.is ∙ lasts-added now next.state.values a.newer r.snapshots a.at b

pub time-before : (now t : ℕ) (r next : Run) → AddsSnapshots now r next → now < t → AreBefore next.snapshots t
time-before now t r next a l = subst (λ ss. AreBefore ss t) (sym a.is) l

pub time-seen : (now : ℕ) (r next : Run) → AddsSnapshots now r next → IsSeen next
time-seen now r next a = record { last = now; older = a.newer ++ r.snapshots; is = a.is }

-- the last snapshots of a run so far, at the end of those of the whole
pub record Extends (new old : List Snapshot) : Type 0 where
  pub later : List Snapshot
  pub is : new ≡ later ++ old

pub times-extend : (left bound : ℕ) (m : Machine) (sets : ℕ → List (ℕ × Value)) (now : ℕ) (r : Run) → AreBefore r.snapshots now
    → Extends (lasts (times_from left bound m sets now r).run.snapshots) (lasts r.snapshots)
unfolding times_from
times-extend zero bound m sets now r b = record { later = []; is = refl }
times-extend (suc left) bound m sets now r b = at (time_of bound m sets now r) refl (λ r b. times-extend left bound m sets (suc now) r b)
  where
    at : (e : Ended) → time_of bound m sets now r ≡ e → ((r : Run) → AreBefore r.snapshots (suc now) → Extends (lasts (times_from left bound m sets (suc now) r).run.snapshots) (lasts r.snapshots))
        → Extends (lasts (go_on e r now (λ r. times_from left bound m sets (suc now) r)).run.snapshots) (lasts r.snapshots)
    at (Spent net evaluations) e rest = record { later = []; is = refl }
    at (Whole next) e rest =
        let a : AddsSnapshots now r next = rounds-snapshots bound m now (now == 0) (sets now) r next e in
        let more = rest next (time-before now (suc now) r next a (omega arith)) in
        let s : Snapshot = record { time = now; values = next.state.values } in
        record {
          later = more.later ++ s ∷ [];
          is = more.is ∙ (ap (λ ss. more.later ++ ss) (time-lasts now r next a b) ∙ sym (append_assoc more.later (s ∷ []) (lasts r.snapshots)));
        }

-- what is kept where a copy of the last snapshot is added is kept over skipped times
pub copies-kept : (P : List Snapshot → Type 0) → ((t last : ℕ) (values : List Value) (older : List Snapshot) → P (record { time = last; values = values } ∷ older) → P (record { time = t; values = values } ∷ record { time = last; values = values } ∷ older))
    → (k : ℕ) (m : Machine) (now : ℕ) (r : Run) (seen : IsSeen r) → seen.last < now → P (lasts r.snapshots) → P (lasts (with_copies k m now r).snapshots)
unfolding with_copies
copies-kept P skip zero m now r seen l h = h
copies-kept P skip (suc k) m now r seen l h =
    let vs : List Value = r.state.values in
    let older : List Snapshot = lasts_before seen.last seen.older in
    let was : lasts r.snapshots ≡ record { time = seen.last; values = vs } ∷ older = ap lasts seen.is in
    let before : AreBefore r.snapshots now = subst (λ ss. AreBefore ss now) (sym seen.is) l in
    let one : lasts (with_snapshot m now r).snapshots ≡ record { time = now; values = vs } ∷ record { time = seen.last; values = vs } ∷ older =
    lasts-added now vs [] r.snapshots tt before ∙ ap (λ ss. record { time = now; values = vs } ∷ ss) was in
    copies-kept P skip k m (suc now) (with_snapshot m now r) (record { last = now; older = r.snapshots; is = refl }) (omega arith)
    (subst P (sym one) (skip now seen.last vs older (subst P was h)))

pub copies-are_before : (k : ℕ) (m : Machine) (now t : ℕ) (r : Run) → AreBefore r.snapshots t → now + k ≤ t → AreBefore (with_copies k m now r).snapshots t
unfolding with_copies
copies-are_before zero m now t r b l = b
copies-are_before (suc k) m now t r b l = copies-are_before k m (suc now) t (with_snapshot m now r) (let h : now < t = omega arith in h) (omega arith)
