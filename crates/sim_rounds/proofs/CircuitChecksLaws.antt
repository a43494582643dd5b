-- The timing checks of a circuit before time 0, and after a snapshot.
use Rattle.std.specs.Prelude.{◌≡◌, ℕ, suc, ◌<◌, false, All, IfSome, List, [], ◌∷◌, ◌++◌, drop, length, map, Option, Some, None, refl}
use Rattle.std.proofs.Common.{sym, ◌∙◌, ap, subst, arith}
use Rattle.std.specs.List.{enumerate_from}
use Rattle.std.proofs.lemmas.List.{length-map, length-replicate}
use Rattle.std.proofs.lemmas.List.FromFn.{length-enumerate_from}
use Rattle.std.proofs.lemmas.List.Elements.{All-weaker}
use Rattle.sg_circuit.specs.Circuit.{Circuit}
use Rattle.sg_circuit.specs.Closed.{IsClosed, IsNotifier}
use Rattle.sg_circuit.specs.Seen.{circuit_seen}
use Rattle.sg_circuit.specs.declared.checks.Check.{Check}
use Rattle.sg_circuit.specs.declared.circuits.Parts.{Parts}
use Rattle.sg_model.specs.Machine.{Snapshot, Violation}
use Rattle.fan_round.specs.declared.work.WorkList.{WorkList}
use Rattle.fan_round.specs.States.{IsIdle}
use Rattle.fan_round.proofs.WorkLaws.{marked-start}
use Rattle.time_checks.specs.Checking.{Kept, Sees, Stands}
use Rattle.time_checks.specs.declared.latest.Latest.{Latest}
use Rattle.time_checks.specs.Falling.{AreBy, DontFall, DontFallSince}
use Rattle.time_checks.specs.Violations.{latest_events, violations_since}
use Rattle.time_checks.specs.Adjusted.{adjusted_check, adjusted_checks}
use Rattle.sim_rounds.specs.CircuitChecks.{AreBegun, AreChecksOver, AreListed}
use Rattle.sim_rounds.specs.Engines.{AreChecksAt, AreChecksBy}
use Rattle.sim_machine.specs.Notifiers.{notifiers_of}

-- the notifiers are nets
net_of : (circuit : Circuit) (o : Option ℕ) → IfSome o (λ n. IsNotifier circuit n) → IfSome o (λ n. n < length circuit.nets)
net_of circuit None h = tt
net_of circuit (Some n) h = h.within

notifiers_within : (circuit : Circuit) → IsClosed circuit → All (λ k. IfSome k.notifier (λ n. n < length circuit.nets)) circuit.checks
notifiers_within circuit closed =
    All-weaker (λ (k : Check). IfSome k.notifier (λ n. IsNotifier circuit n)) (λ (k : Check). IfSome k.notifier (λ n. n < length circuit.nets)) (λ k f. net_of circuit k.notifier f) circuit.checks closed.notifiers

-- a list of none is a list
pub idle_listed : (work : WorkList) (nets : ℕ) → IsIdle work nets → AreListed work nets
idle_listed work nets h = record {
  marks = ap length h.marks ∙ length-replicate nets false;
  room = h.room;
  marked = marked-start work.marks.items work.list.items nets h.marks h.list;
}

-- the checks of a circuit by a checker
pub checks_by : (parts : Parts) (circuit : Circuit) (checks : List Check) (checker : Kept) (touched named : WorkList) (nets : ℕ) → circuit_seen parts ≡ circuit → nets ≡ length parts.nets.items → checks ≡ parts.checks.items → IsIdle touched nets → IsIdle named nets
    → AreChecksBy circuit checker checks checker touched named
checks_by parts circuit checks checker touched named nets seen many same t n =
    let all : nets ≡ length circuit.nets = many ∙ ap (λ c. length c.nets) seen in
    record {
      checks_are = same ∙ ap (λ c. c.checks) seen;
      checker_is = refl;
      untouched = subst (IsIdle touched) all t;
      unnamed = subst (IsIdle named) all n;
    }

pub checks_at : (circuit : Circuit) (earlier : List Latest) (snapshots : List Snapshot) (checks : List Check) (kept checker : Kept) (touched named : WorkList) → AreChecksBy circuit checker checks kept touched named
    → checker.checks ≡ adjusted_checks circuit → checker.earlier ≡ earlier → length checker.last ≡ length circuit.nets → Stands checker snapshots → AreChecksAt circuit earlier snapshots checks kept touched named
checks_at circuit earlier snapshots checks kept checker touched named h timings known last stands =
    subst (λ (k : Kept). AreChecksAt circuit earlier snapshots checks k touched named) (sym h.checker_is) (record {
      checks_are = h.checks_are;
      timings_are = timings;
      earlier = known;
      last = last;
      stands = stands;
      untouched = h.untouched;
      unnamed = h.unnamed;
    })

pub checks_over_nets : (circuit : Circuit) (earlier : List Latest) (snapshots : List Snapshot) (checks : List Check) (kept : Kept) (touched named : WorkList) → IsClosed circuit → AreChecksAt circuit earlier snapshots checks kept touched named → AreChecksOver checks kept touched named (length circuit.nets)
checks_over_nets circuit earlier snapshots checks kept touched named closed h = record {
  last = h.last;
  each_check = ap length h.timings_are ∙ (length-map (enumerate_from 0 circuit.check_timings) (adjusted_check circuit) ∙ (length-enumerate_from 0 circuit.check_timings ∙ (closed.timing_of_each ∙ sym (ap length h.checks_are))));
  notifiers = subst (λ ks. All (λ k. IfSome k.notifier (λ m. m < length circuit.nets)) ks) (sym h.checks_are) (notifiers_within circuit closed);
  listed = idle_listed touched (length circuit.nets) h.untouched;
  idle = h.unnamed;
}

-- a checker that knows of earlier events sees a first snapshot
pub first_seen : (before after : Kept) (snapshot : Snapshot) (old new : List Violation) → Stands before [] → AreBy snapshot.time before.earlier → Sees before after snapshot.time [] snapshot.values old new → Stands after (snapshot ∷ [])
first_seen before after snapshot old new stands by s = (s.each [] stands by tt).1

-- what a checker violates, what it knows of events and which nets toggle, by what it keeps
pub violated_still : (before after : Kept) → after.checks ≡ before.checks → after.earlier ≡ before.earlier
    → ◌≡◌ {A = List Snapshot → List Violation} (λ ss. violations_since after.earlier after.checks ss) (λ ss. violations_since before.earlier before.checks ss)
violated_still before after e f =
    ap {B = List Snapshot → List Violation} (λ ts ss. violations_since after.earlier ts ss) e ∙ ap {B = List Snapshot → List Violation} (λ (ls : List Latest) ss. violations_since ls before.checks ss) f

pub latest_still : (before after : Kept) → after.checks ≡ before.checks → after.earlier ≡ before.earlier
    → ◌≡◌ {A = List Snapshot → List Latest} (λ ss. latest_events after.earlier after.checks ss) (λ ss. latest_events before.earlier before.checks ss)
latest_still before after e f =
    ap {B = List Snapshot → List Latest} (λ ts ss. latest_events after.earlier ts ss) e ∙ ap {B = List Snapshot → List Latest} (λ (ls : List Latest) ss. latest_events ls before.checks ss) f

pub notifiers_still : (checks : List Check) (before after : Kept) → length after.last ≡ length before.last → ◌≡◌ {A = List Violation → List ℕ} (λ vs. notifiers_of checks (length after.last) vs) (λ vs. notifiers_of checks (length before.last) vs)
notifiers_still checks before after e = ap {B = List Violation → List ℕ} (λ n vs. notifiers_of checks n vs) e

-- the checks are over as many nets once a snapshot was seen, and nothing is touched since
pub checks_over : (checks : List Check) (before after : Kept) (touched touched' named named' : WorkList) (nets : ℕ) → AreChecksOver checks before touched named nets → after.checks ≡ before.checks → length after.last ≡ length before.last
    → IsIdle touched' nets → IsIdle named' nets → AreChecksOver checks after touched' named' nets
checks_over checks before after touched touched' named named' nets h same many t n = record {
  last = many ∙ h.last;
  each_check = ap length same ∙ h.each_check;
  notifiers = h.notifiers;
  listed = idle_listed touched' nets t;
  idle = n;
}

-- where what is known of events is begun, it goes on with each snapshot, and no time falls
pub begun_more : (earlier : List Latest) (s : Snapshot) (snapshots : List Snapshot) → AreBegun earlier snapshots → AreBegun earlier (s ∷ snapshots)
begun_more earlier s [] b = subst (λ ls. AreBy s.time ls) (sym b) tt
begun_more earlier s (t ∷ older) b = b

pub begun_falls : (earlier : List Latest) (time : ℕ) (snapshots : List Snapshot) → AreBegun earlier snapshots → DontFall time snapshots → DontFallSince earlier time snapshots
begun_falls earlier time [] b f = subst (λ ls. AreBy time ls) (sym b) tt
begun_falls earlier time (s ∷ []) b f = (f.0, b)
begun_falls earlier time (s ∷ t ∷ older) b f = (f.0, begun_falls earlier s.time (t ∷ older) b f.1)

-- what is behind the violations of before
abbrev rest_of : {B : Type 0} → List B → List B
rest_of [] = []
rest_of (x ∷ xs) = xs

pub found_behind : {A B : Type 0} (f : A → B) (old new : List A) (found : List B) → map f new ≡ map f old ++ found → map f (drop (length old) new) ≡ found
found_behind f [] new found e = e
found_behind f (x ∷ xs) [] found e = absurd (let q : 0 ≡ suc (length (map f xs ++ found)) = ap length e in omega arith)
found_behind f (x ∷ xs) (y ∷ ys) found e = found_behind f xs ys found (ap rest_of e)
