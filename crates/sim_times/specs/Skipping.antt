-- Times that are skipped leave what a simulation stands for: the laws that its trait asks for.
use Rattle.std.specs.Prelude.{◌≡◌, ℕ, zero, suc, ◌+◌, ◌≤◌, List, [], ◌∷◌, map, refl}
use Rattle.std.proofs.Common.{sym, ◌∙◌, ap, subst, arith}
use Rattle.std.proofs.lemmas.List.{take_all, length-map}
use Rattle.sg_logic.specs.declared.values.Value.{Value}
use Rattle.sg_model.specs.Machine.{Machine, Snapshot}
use Rattle.sg_model.specs.Time.{Run, with_snapshot}
use Rattle.sg_model.specs.Quiet.{IsLawful, IsSeen, with_copies}
use Rattle.sg_model.proofs.SkipLaws.{copies-state, copies-before, copies-evaluations, copies-violations}
use Rattle.time_checks.specs.declared.violations.Violation as code_violation
use Rattle.time_checks.specs.declared.latest.Latest.{Latest}
use Rattle.time_checks.specs.Falling.{DontFall}
use Rattle.time_checks.specs.Seen.{violation_seen}
use Rattle.sg_stimulus.specs.Stimulus.{Stimulus}
use Rattle.fan_round.specs.declared.nets.Nets.{Nets}
use Rattle.sim_times.specs.declared.told.Told.{Told}
use Rattle.sim_times.specs.Times.{count_shown}
use Rattle.sim_times.specs.Simulations.{kept_of, StandsBetween}

-- what the checks have seen
copies_seen : (seen : List Snapshot → Type 0) → ((t last : ℕ) (values : List Value) (older : List Snapshot) → seen (record { time = last; values = values } ∷ older) → seen (record { time = t; values = values } ∷ record { time = last; values = values } ∷ older))
    → (k : ℕ) (m : Machine) (n : ℕ) (r : Run) → IsSeen r → seen r.snapshots → seen (with_copies k m n r).snapshots
unfolding with_copies
copies_seen seen skip zero m n r s h = h
copies_seen seen skip (suc k) m n r s h =
    copies_seen seen skip k m (suc n) (with_snapshot m n r) (record { last = n; older = r.snapshots; is = refl })
    (subst (λ ss. seen (record { time = n; values = r.state.values } ∷ ss)) (sym s.is) (skip n s.last r.state.values s.older (subst seen s.is h)))

-- and their times don't fall
pub later_falls : (a b : ℕ) (ss : List Snapshot) → a ≤ b → DontFall a ss → DontFall b ss
later_falls a b [] l h = tt
later_falls a b (s ∷ ss) l h = (let m : s.time ≤ a = h.0 in omega arith, h.1)

copies_fall : (k : ℕ) (m : Machine) (n : ℕ) (r : Run) → DontFall n r.snapshots → DontFall (n + k) (with_copies k m n r).snapshots
unfolding with_copies
copies_fall zero m n r h = later_falls n (n + 0) r.snapshots (omega arith) h
copies_fall (suc k) m n r h =
    (let e : suc n + k ≡ n + suc k = omega arith in
    subst (λ t. DontFall t (with_copies k m (suc n) (with_snapshot m n r)).snapshots) e (copies_fall k m (suc n) (with_snapshot m n r) (omega arith, h)))

pub stands_skipped : (m : Machine) → IsLawful m → (nets : Nets) (lists : List (List (ℕ × Value))) (states : List Value) (seen : List Snapshot → Type 0) (found : List code_violation.Violation) (counted ended k n : ℕ) (r : Run) → IsSeen r
    → ((t last : ℕ) (values : List Value) (older : List Snapshot) → seen (record { time = last; values = values } ∷ older) → seen (record { time = t; values = values } ∷ record { time = last; values = values } ∷ older))
    → StandsBetween nets lists states seen found counted ended n r → StandsBetween nets lists states seen found counted ended (n + k) (with_copies k m n r)
stands_skipped m law nets lists states seen found counted ended k n r s skip h = record {
  run = record {
    state = copies-state k m n r ∙ h.run.state;
    before = copies-before k m n r ∙ h.run.before;
    checks = copies_seen seen skip k m n r s h.run.checks;
    times = copies_fall k m n r h.run.times;
    violations = copies-violations k m law n r s ∙ h.run.violations;
    evaluations = h.run.evaluations ∙ ap count_shown (sym (copies-evaluations k m n r));
  };
  whole = h.whole;
}

-- the values of its nets, and the violations that it keeps
pub shows_values : (nets : Nets) (lists : List (List (ℕ × Value))) (states : List Value) (seen : List Snapshot → Type 0) (found : List code_violation.Violation) (counted ended now : ℕ) (r : Run) → StandsBetween nets lists states seen found counted ended now r → nets.values.items ≡ r.state.values
shows_values nets lists states seen found counted ended now r h = sym (ap (λ x. x.values) h.run.state)

pub holds_violations : (nets : Nets) (lists : List (List (ℕ × Value))) (states : List Value) (seen : List Snapshot → Type 0) (found : List code_violation.Violation) (counted ended : ℕ) (told : Told) (latest : List Snapshot → List Latest) (changed : ℕ) (applied : Stimulus) (now : ℕ) (r : Run) → StandsBetween nets lists states seen found counted ended now r
    → (kept_of told latest ended found changed applied).violations ≡ r.violations
holds_violations nets lists states seen found counted ended told latest changed applied now r h =
    take_all ended (map (λ v. violation_seen v) found) (subst (λ n. n ≤ ended) (sym (length-map found (λ v. violation_seen v))) h.whole) ∙ sym h.run.violations
