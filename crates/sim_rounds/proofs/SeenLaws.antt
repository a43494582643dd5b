-- A snapshot as the checks of a circuit see it.
use Rattle.std.specs.Prelude.{◌≡◌, ℕ, true, false, not, List, ◌∷◌, map, refl}
use Rattle.std.proofs.Common.{sym, ◌∙◌, ap, subst}
use Rattle.sg_logic.specs.declared.values.Value.{Value}
use Rattle.sg_model.specs.Machine.{Violation}
use Rattle.sg_model.specs.Time.{toggles as toggles_of}
use Rattle.sg_model.specs.Values.{value_at}
use Rattle.sg_model.proofs.PlacingSteps.{same-self}
use Rattle.sg_stimulus.specs.declared.steps.Set.{Set}
use Rattle.sg_stimulus.specs.Seen.{set_seen}
use Rattle.fan_round.specs.declared.work.WorkList.{WorkList}
use Rattle.fan_round.specs.Nets.{differs}
use Rattle.time_checks.specs.declared.violations.Violation as code_violation
use Rattle.time_checks.specs.Checking.{Kept, Covers, Sees}
use Rattle.time_checks.specs.Seen.{violation_seen}
use Rattle.time_checks.specs.declared.latest.Latest.{Latest}
use Rattle.time_checks.specs.Violations.{violations_since}
use Rattle.sim_times.specs.Checks.{HasSeen}
use Rattle.sim_rounds.specs.CircuitChecks.{AreBegun, HaveSeen}
use Rattle.sim_rounds.proofs.CircuitChecksLaws.{begun_falls, begun_more}

-- no net differs from itself
pub none_differs : (values : List Value) (net : ℕ) → differs values values net ≡ false
none_differs values net = ap not (same-self (value_at values net) (value_at values net) refl)

pub all_covered : (values : List Value) (nets : List ℕ) → Covers values values nets
all_covered values nets = record { each = λ net d. absurd (let q : true ≡ false = sym d ∙ none_differs values net in cc) }

-- what the checker saw, and the toggles of its notifiers, where the touched nets are left behind
pub seen_by : (toggled_by : List Violation → List ℕ) (before after : Kept) (touched touched' : WorkList) (now : ℕ) (values : List Value) (old new part : List code_violation.Violation) (toggles : List Set)
    → after.earlier ≡ before.earlier → (s : Sees before after now touched.list.items values (map (λ v. violation_seen v) old) (map (λ v. violation_seen v) new)) → map (λ v. violation_seen v) part ≡ s.found
    → map (λ c. set_seen c) toggles ≡ toggles_of (toggled_by (map (λ v. violation_seen v) part)) values
    → HasSeen (λ ss. violations_since before.earlier before.checks ss) toggled_by (HaveSeen before touched values) (HaveSeen after touched' values) now values old new toggles
seen_by toggled_by before after touched touched' now values old new part toggles same s is handed = record {
  found = s.found;
  added = s.added;
  handed = handed ∙ ap (λ vs. toggles_of (toggled_by vs) values) is;
  each = λ ss h f.
      (let e = s.each ss h.stands (begun_falls before.earlier now ss h.begun f) h.leads in
      let begun : AreBegun after.earlier (record { time = now; values = values } ∷ ss) = subst (λ (ls : List Latest). AreBegun ls (record { time = now; values = values } ∷ ss)) (sym same) (begun_more before.earlier (record { time = now; values = values }) ss h.begun) in
      (e.0, record { begun = begun; stands = e.1; leads = all_covered values touched'.list.items }));
}
