-- What is so of the snapshots of every run.
use Rattle.std.proofs.Common.{◌≡◌, ◌∙◌, sym, ap, refl, subst, ℕ, zero, suc, ◌+◌, List, [], ◌∷◌, ◌++◌, append_assoc, length, arith}
use Rattle.std.proofs.lemmas.List.{length-set}
use Rattle.std.proofs.lemmas.List.Elements.{All-append, All-cons, All-head, All-nil, All-tail}
use Rattle.std.specs.Prelude.{◌==◌, ◌≤◌, Bool, true, false, if◌then◌else◌, All, Option, Some, None, slice_set}
use Rattle.sg_logic.specs.declared.values.Value.{Value}
use Rattle.sg_model.specs.Machine.{Machine, Snapshot}
use Rattle.sg_model.specs.Round.{changed_by, due_changes, round}
use Rattle.sg_model.specs.Time.{Run, Ended, Whole, Spent, flips_of, is_empty, spent_net, needs_round, rounds, time_of, with_round, with_snapshot}
use Rattle.sg_model.specs.Quiet.{IsSeen}
use Rattle.sg_model.proofs.SnapshotLaws.{AreBefore, Extends, rounds-snapshots, time-before, time-lasts, times-extend}
use Rattle.sg_model.specs.Run.{Finished, go_on, lasts, lasts_before, times_from}

-- so many nets, now and in each snapshot
pub record IsLong (n : ℕ) (r : Run) : Type 0 where
  pub values : length r.state.values ≡ n
  pub snapshots : All (λ s. length s.values ≡ n) r.snapshots

length-changed : (cs : List (ℕ × Value)) (vs : List Value) → length (changed_by cs vs) ≡ length vs
length-changed [] vs = refl
length-changed (c ∷ cs) vs = length-changed cs (slice_set vs c.0 c.1) ∙ length-set vs c.0 c.1

long_round : (n : ℕ) (m : Machine) (now : ℕ) (all : Bool) (handed : List (ℕ × Value)) (r : Run) → IsLong n r → IsLong n (with_round m now all handed r)
unfolding round
long_round n m now all handed r h = record { values = length-changed (due_changes now m.outputs r.state.lists ++ handed) r.state.values ∙ h.values; snapshots = h.snapshots }

long_snapshot : (n : ℕ) (m : Machine) (now : ℕ) (r : Run) → IsLong n r → IsLong n (with_snapshot m now r)
long_snapshot n m now r h = record { values = h.values; snapshots = All-cons (λ s. length s.values ≡ n) (record { time = now; values = r.state.values }) r.snapshots h.values h.snapshots }

abbrev IfWhole : Ended → (Run → Type 0) → Type 0
IfWhole (Whole r) P = P r
IfWhole (Spent net evaluations) P = Unit {0}

-- where no round takes place: the time ends, or goes on with the toggles
long_end : (n : ℕ) (s : Run) (empty : Bool) (e : Ended) → IsLong n s → IfWhole e (IsLong n) → IfWhole (if empty then Whole s else e) (IsLong n)
long_end n s true e h g = h
long_end n s false e h g = g

long_choice : (n : ℕ) (needs : Bool) (a b : Ended) → IfWhole a (IsLong n) → IfWhole b (IsLong n) → IfWhole (if needs then a else b) (IsLong n)
long_choice n true a b h g = h
long_choice n false a b h g = g

long_rounds : (n left : ℕ) (m : Machine) (now : ℕ) (must : Bool) (handed : List (ℕ × Value)) (r : Run) → IsLong n r → IfWhole (rounds left m now must handed r) (IsLong n)
unfolding rounds
long_rounds n zero m now must handed r h =
    long_choice n (needs_round now must handed r.state) (Spent (spent_net m now handed r) r.evaluations)
    (if is_empty (flips_of m (with_snapshot m now r)) then Whole (with_snapshot m now r) else Spent (spent_net m now (flips_of m (with_snapshot m now r)) (with_snapshot m now r)) (with_snapshot m now r).evaluations) tt
    (long_end n (with_snapshot m now r) (is_empty (flips_of m (with_snapshot m now r))) (Spent (spent_net m now (flips_of m (with_snapshot m now r)) (with_snapshot m now r)) (with_snapshot m now r).evaluations) (long_snapshot n m now r h) tt)
long_rounds n (suc left) m now must handed r h =
    let s : Run = with_snapshot m now r in
    let next : Run = with_round m now must handed r in
    let again : Run = with_round m now false (flips_of m s) s in
    long_choice n (needs_round now must handed r.state) (rounds left m now false [] next)
    (if is_empty (flips_of m s) then Whole s else rounds left m now false [] again)
    (long_rounds n left m now false [] next (long_round n m now must handed r h))
    (long_end n s (is_empty (flips_of m s)) (rounds left m now false [] again) (long_snapshot n m now r h) (long_rounds n left m now false [] again (long_round n m now false (flips_of m s) s (long_snapshot n m now r h))))

-- what goes on after a time that ended
long_on : (n : ℕ) (e : Ended) (r : Run) (now : ℕ) (next : Run → Finished) → IfWhole e (IsLong n) → IsLong n r → ((x : Run) → IsLong n x → IsLong n (next x).run) → IsLong n (go_on e r now next).run
long_on n (Whole x) r now next h g f = f x h
long_on n (Spent net evaluations) r now next h g f = g

-- a run has so many nets throughout
pub long_times : (n left bound : ℕ) (m : Machine) (sets : ℕ → List (ℕ × Value)) (now : ℕ) (r : Run) → IsLong n r → IsLong n (times_from left bound m sets now r).run
unfolding times_from
long_times n zero bound m sets now r h = h
long_times n (suc left) bound m sets now r h =
    long_on n (time_of bound m sets now r) r now (λ x. times_from left bound m sets (suc now) x) (long_rounds n bound m now (now == 0) (sets now) r h) h (λ x g. long_times n left bound m sets (suc now) x g)

-- a time that ended has a snapshot of its last values
seen_end : (s : Run) (empty : Bool) (e : Ended) → IsSeen s → IfWhole e IsSeen → IfWhole (if empty then Whole s else e) IsSeen
seen_end s true e h g = h
seen_end s false e h g = g

seen_choice : (needs : Bool) (a b : Ended) → IfWhole a IsSeen → IfWhole b IsSeen → IfWhole (if needs then a else b) IsSeen
seen_choice true a b h g = h
seen_choice false a b h g = g

seen_rounds : (left : ℕ) (m : Machine) (now : ℕ) (must : Bool) (handed : List (ℕ × Value)) (r : Run) → IfWhole (rounds left m now must handed r) IsSeen
unfolding rounds
seen_rounds zero m now must handed r =
    let s : Run = with_snapshot m now r in
    seen_choice (needs_round now must handed r.state) (Spent (spent_net m now handed r) r.evaluations) (if is_empty (flips_of m s) then Whole s else Spent (spent_net m now (flips_of m s) s) s.evaluations) tt
    (seen_end s (is_empty (flips_of m s)) (Spent (spent_net m now (flips_of m s) s) s.evaluations) (record { last = now; older = r.snapshots; is = refl }) tt)
seen_rounds (suc left) m now must handed r =
    let s : Run = with_snapshot m now r in
    seen_choice (needs_round now must handed r.state) (rounds left m now false [] (with_round m now must handed r)) (if is_empty (flips_of m s) then Whole s else rounds left m now false [] (with_round m now false (flips_of m s) s))
    (seen_rounds left m now false [] (with_round m now must handed r))
    (seen_end s (is_empty (flips_of m s)) (rounds left m now false [] (with_round m now false (flips_of m s) s)) (record { last = now; older = r.snapshots; is = refl }) (seen_rounds left m now false [] (with_round m now false (flips_of m s) s)))

seen_on : (e : Ended) (r : Run) (now : ℕ) (next : Run → Finished) → IfWhole e IsSeen → ((x : Run) → IsSeen x → (next x).spent ≡ None → IsSeen (next x).run) → (go_on e r now next).spent ≡ None → IsSeen (go_on e r now next).run
seen_on (Whole x) r now next h f none = f x h none
seen_on (Spent net evaluations) r now next h f none = absurd (cc)

pub seen_times : (left bound : ℕ) (m : Machine) (sets : ℕ → List (ℕ × Value)) (now : ℕ) (r : Run) → IsSeen r → (times_from left bound m sets now r).spent ≡ None → IsSeen (times_from left bound m sets now r).run
unfolding times_from
seen_times zero bound m sets now r h none = h
seen_times (suc left) bound m sets now r h none =
    seen_on (time_of bound m sets now r) r now (λ x. times_from left bound m sets (suc now) x) (seen_rounds bound m now (now == 0) (sets now) r) (λ x g n. seen_times left bound m sets (suc now) x g n) none

pub seen_run : (left bound : ℕ) (m : Machine) (sets : ℕ → List (ℕ × Value)) (now : ℕ) (r : Run) → (times_from (suc left) bound m sets now r).spent ≡ None → IsSeen (times_from (suc left) bound m sets now r).run
unfolding times_from
seen_run left bound m sets now r none =
    seen_on (time_of bound m sets now r) r now (λ x. times_from left bound m sets (suc now) x) (seen_rounds bound m now (now == 0) (sets now) r) (λ x g n. seen_times left bound m sets (suc now) x g n) none

-- the last snapshots are snapshots
long_before : (n now : ℕ) (ss : List Snapshot) → All (λ s. length s.values ≡ n) ss → All (λ s. length s.values ≡ n) (lasts_before now ss)
long_before n now [] h = All-nil (λ (s : Snapshot). length s.values ≡ n)
long_before n now (s ∷ ss) h = elim (s.time == now) as (λ b. All (λ (x : Snapshot). length x.values ≡ n) (if b then lasts_before now ss else s ∷ lasts_before s.time ss)) [
  | true ↦ long_before n now ss (All-tail (λ (x : Snapshot). length x.values ≡ n) s ss h)
  | false ↦ All-cons (λ (x : Snapshot). length x.values ≡ n) s (lasts_before s.time ss) (All-head (λ (x : Snapshot). length x.values ≡ n) s ss h) (long_before n s.time ss (All-tail (λ (x : Snapshot). length x.values ≡ n) s ss h))
]

pub long_lasts : (n : ℕ) (ss : List Snapshot) → All (λ s. length s.values ≡ n) ss → All (λ s. length s.values ≡ n) (lasts ss)
long_lasts n [] h = All-nil (λ (s : Snapshot). length s.values ≡ n)
long_lasts n (s ∷ ss) h =
    All-cons (λ (x : Snapshot). length x.values ≡ n) s (lasts_before s.time ss) (All-head (λ (x : Snapshot). length x.values ≡ n) s ss h)
    (long_before n s.time ss (All-tail (λ (x : Snapshot). length x.values ≡ n) s ss h))

-- a run with a spent time is that of the times before it
pub record IsCut (left bound : ℕ) (m : Machine) (sets : ℕ → List (ℕ × Value)) (now : ℕ) (r run : Run) (spent : ℕ × Option ℕ) : Type 0 where
  pub times : ℕ
  pub at : spent.0 ≡ now + times
  pub is : run ≡ (times_from times bound m sets now r).run

cut_on : (left bound : ℕ) (m : Machine) (sets : ℕ → List (ℕ × Value)) (now : ℕ) (r : Run) (spent : ℕ × Option ℕ) (e : Ended) → time_of bound m sets now r ≡ e
    → ((x : Run) → (times_from left bound m sets (suc now) x).spent ≡ Some spent → IsCut left bound m sets (suc now) x (times_from left bound m sets (suc now) x).run spent)
    → (go_on e r now (λ x. times_from left bound m sets (suc now) x)).spent ≡ Some spent → IsCut (suc left) bound m sets now r (go_on e r now (λ x. times_from left bound m sets (suc now) x)).run spent
unfolding times_from
cut_on left bound m sets now r spent (Whole x) whole f e =
    let next = f x e in record {
      times = suc next.times;
      at = omega (arith, next.at);
      is = next.is ∙ ap (λ o. (go_on o r now (λ y. times_from next.times bound m sets (suc now) y)).run) (sym whole);
    }
cut_on left bound m sets now r spent (Spent net evaluations) whole f e = let same : (now, net) ≡ spent = cc in record { times = 0; at = omega (arith, ap (λ (p : ℕ × Option ℕ). p.0) same); is = refl }

pub spent_run : (left bound : ℕ) (m : Machine) (sets : ℕ → List (ℕ × Value)) (now : ℕ) (r : Run) (spent : ℕ × Option ℕ) → (times_from left bound m sets now r).spent ≡ Some spent
    → IsCut left bound m sets now r (times_from left bound m sets now r).run spent
unfolding times_from
spent_run zero bound m sets now r spent e = absurd (cc)
spent_run (suc left) bound m sets now r spent e = cut_on left bound m sets now r spent (time_of bound m sets now r) refl (λ x g. spent_run left bound m sets (suc now) x spent g) e

-- the last snapshots of the first times are at the end of those of more
extends_on : (n k bound : ℕ) (m : Machine) (sets : ℕ → List (ℕ × Value)) (now : ℕ) (r : Run) (e : Ended) → time_of bound m sets now r ≡ e
    → ((x : Run) → AreBefore x.snapshots (suc now) → (times_from n bound m sets (suc now) x).spent ≡ None → Extends (lasts (times_from (n + k) bound m sets (suc now) x).run.snapshots) (lasts (times_from n bound m sets (suc now) x).run.snapshots))
    → (go_on e r now (λ x. times_from n bound m sets (suc now) x)).spent ≡ None
    → Extends (lasts (go_on e r now (λ x. times_from (n + k) bound m sets (suc now) x)).run.snapshots) (lasts (go_on e r now (λ x. times_from n bound m sets (suc now) x)).run.snapshots)
extends_on n k bound m sets now r (Whole x) whole f none =
    f x (time-before now (suc now) r x (rounds-snapshots bound m now (now == 0) (sets now) r x whole) (omega arith)) none
extends_on n k bound m sets now r (Spent net evaluations) whole f none = absurd (cc)

pub extends : (n k bound : ℕ) (m : Machine) (sets : ℕ → List (ℕ × Value)) (now : ℕ) (r : Run) → AreBefore r.snapshots now → (times_from n bound m sets now r).spent ≡ None
    → Extends (lasts (times_from (n + k) bound m sets now r).run.snapshots) (lasts (times_from n bound m sets now r).run.snapshots)
unfolding times_from
extends zero k bound m sets now r b none =
    subst (λ j. Extends (lasts (times_from j bound m sets now r).run.snapshots) (lasts r.snapshots)) (let e : k ≡ 0 + k = omega arith in e) (times-extend k bound m sets now r b)
extends (suc n) k bound m sets now r b none =
    subst (λ j. Extends (lasts (times_from j bound m sets now r).run.snapshots) (lasts (times_from (suc n) bound m sets now r).run.snapshots)) (let e : suc (n + k) ≡ suc n + k = omega arith in e)
    (extends_on n k bound m sets now r (time_of bound m sets now r) refl (λ x g h. extends n k bound m sets (suc now) x g h) none)

-- times from one on add last snapshots from it on
pub record ExtendsFrom (time : ℕ) (new old : List Snapshot) : Type 0 where
  pub later : List Snapshot
  pub is : new ≡ later ++ old
  pub from : All (λ s. time ≤ s.time) later

extends_later : (time left bound : ℕ) (m : Machine) (sets : ℕ → List (ℕ × Value)) (now : ℕ) (r : Run) (e : Ended) → time ≤ now → time_of bound m sets now r ≡ e → AreBefore r.snapshots now
    → ((x : Run) → AreBefore x.snapshots (suc now) → ExtendsFrom time (lasts (times_from left bound m sets (suc now) x).run.snapshots) (lasts x.snapshots))
    → ExtendsFrom time (lasts (go_on e r now (λ x. times_from left bound m sets (suc now) x)).run.snapshots) (lasts r.snapshots)
extends_later time left bound m sets now r (Spent net evaluations) l whole b f = record { later = []; is = refl; from = All-nil (λ (s : Snapshot). time ≤ s.time) }
extends_later time left bound m sets now r (Whole next) l whole b f =
    let a = rounds-snapshots bound m now (now == 0) (sets now) r next whole in
    let more = f next (time-before now (suc now) r next a (omega arith)) in
    let s : Snapshot = record { time = now; values = next.state.values } in
    record {
      later = more.later ++ s ∷ [];
      is = more.is ∙ (ap (λ ss. more.later ++ ss) (time-lasts now r next a b) ∙ sym (append_assoc more.later (s ∷ []) (lasts r.snapshots)));
      from = All-append (λ (x : Snapshot). time ≤ x.time) more.later (s ∷ []) more.from (All-cons (λ (x : Snapshot). time ≤ x.time) s [] l (All-nil (λ (x : Snapshot). time ≤ x.time)));
    }

pub extends_from : (time left bound : ℕ) (m : Machine) (sets : ℕ → List (ℕ × Value)) (now : ℕ) (r : Run) → time ≤ now → AreBefore r.snapshots now
    → ExtendsFrom time (lasts (times_from left bound m sets now r).run.snapshots) (lasts r.snapshots)
unfolding times_from
extends_from time zero bound m sets now r l b = record { later = []; is = refl; from = All-nil (λ (s : Snapshot). time ≤ s.time) }
extends_from time (suc left) bound m sets now r l b =
    extends_later time left bound m sets now r (time_of bound m sets now r) l refl b (λ x g. extends_from time left bound m sets (suc now) x (omega arith) g)
