-- A check none of whose terminals changes.
use Rattle.std.specs.Prelude.{◌≡◌, ℕ, ℤ, suc, Bool, false, List, [], ◌∷◌, ◌++◌, Option, Some, None, refl}
use Rattle.std.proofs.Common.{sym, ◌∙◌, ap, subst}
use Rattle.sg_logic.specs.declared.values.Value.{Value}
use Rattle.sg_circuit.specs.declared.checks.Event.{Event}
use Rattle.time_checks.specs.Adjusted.{AdjustedCheck}
use Rattle.sg_model.specs.Machine.{Snapshot}
use Rattle.time_checks.specs.declared.violations.Part.{Part}
use Rattle.time_checks.specs.declared.violations.Part.TheVariants.{Setup, Hold, Recovery, Removal, Width, Period, Skew}
use Rattle.time_checks.specs.Parts.{parts_of}
use Rattle.time_checks.specs.Times.{grown}
use Rattle.time_checks.specs.Windows.{Moment, Pair, where_true, later_of, violated}
use Rattle.time_checks.specs.declared.latest.Latest.{Latest}
use Rattle.time_checks.specs.Events.{event_times_since, datum_happens, datum_times_since, moment_since}
use Rattle.time_checks.specs.Violations.{all_from, earlier_at, listed, limit_at, window_at, violations_at, violations_since}
use Rattle.time_checks.specs.Kept.{StandsFor}
use Rattle.time_checks.specs.Quiet.{StaysSame, IsUntouched, again}
use Rattle.time_checks.specs.Checking.{Kept, Stands, check_at, latest_at}
use Rattle.time_checks.proofs.EventLaws.{no_event, no_opposite}

-- nothing of what is given one after another
pub all_none : {A B : Type 0} (f : ℕ → A → List B) (i : ℕ) (xs : List A) → ((k : ℕ) (x : A) → f k x ≡ []) → all_from f i xs ≡ []
all_none f i [] h = refl
all_none f i (x ∷ xs) h = ap (λ ys. ys ++ all_from f (suc i) xs) (h i x) ∙ all_none f (suc i) xs h

nothing : (b : Bool) (pair : Option Pair) → b ≡ false → where_true b pair ≡ None
nothing b pair e = ap (λ c. where_true c pair) e

neither : (a b : Bool) (p q : Option Pair) → a ≡ false → b ≡ false → later_of (where_true a p) (where_true b q) ≡ None
neither a b p q e f = ap (λ c. later_of (where_true c p) (where_true b q)) e ∙ ap (λ c. where_true c q) f

-- where nothing happens, nothing is violated
not_violated : (part : Part) (limit : ℤ) (threshold : ℕ) (m : Moment) → m.refer ≡ false → m.datum ≡ false → m.back ≡ false → violated part limit threshold m ≡ None
not_violated Setup limit threshold m r d b = nothing m.refer _ r
not_violated Removal limit threshold m r d b = nothing m.refer _ r
not_violated Hold limit threshold m r d b = neither m.refer m.datum _ _ r d
not_violated Recovery limit threshold m r d b = neither m.refer m.datum _ _ r d
not_violated Width limit threshold m r d b = nothing m.back _ b
not_violated Period limit threshold m r d b = nothing m.refer _ r
not_violated Skew limit threshold m r d b = nothing m.datum _ d

pub no_violations : (number : ℕ) (check : AdjustedCheck) (m : Moment) → m.refer ≡ false → m.datum ≡ false → m.back ≡ false → violations_at number check m ≡ []
no_violations number check m r d b =
    all_none (λ place part. listed number check part (limit_at check place) (violated part (window_at check place) check.threshold m)) 0 (parts_of check.kind)
    (λ place part. ap (listed number check part (limit_at check place)) (not_violated part (window_at check place) check.threshold m r d b))

-- the very first snapshot has no violations
pub first-none : (earlier : List Latest) (checks : List AdjustedCheck) (first : Snapshot) → violations_since earlier checks (first ∷ []) ≡ []
first-none earlier checks first =
    all_none (λ number check. violations_at number check (moment_since (earlier_at earlier number) check first [])) 0 checks
    (λ number check. no_violations number check (moment_since (earlier_at earlier number) check first []) refl (no_datum check.datum) refl)
  where
    no_datum : (datum : Option Event) → datum_happens datum (first ∷ []) ≡ false
    no_datum None = refl
    no_datum (Some event) = refl

-- an untouched check violates nothing, and no event is added
no_datum : (datum : Option Event) (now last : Snapshot) (older : List Snapshot) → StaysSame datum last.values now.values → datum_happens datum (now ∷ last ∷ older) ≡ false
no_datum None now last older s = refl
no_datum (Some event) now last older s = no_event event last.values now.values s

pub untouched-none : (before : Latest) (number : ℕ) (check : AdjustedCheck) (now last : Snapshot) (older : List Snapshot) → IsUntouched check last.values now.values
    → violations_at number check (moment_since before check now (last ∷ older)) ≡ []
untouched-none before number check now last older u =
    no_violations number check (moment_since before check now (last ∷ older)) (no_event check.refer last.values now.values u.refer) (no_datum check.datum now last older u.datum) (no_opposite check.refer last.values now.values u.refer)

pub untouched-refer : (before : Option ℕ) (check : AdjustedCheck) (now last : Snapshot) (older : List Snapshot) → IsUntouched check last.values now.values
    → event_times_since before check.refer (now ∷ last ∷ older) ≡ event_times_since before check.refer (last ∷ older)
untouched-refer before check now last older u = ap (λ b. grown b now.time (event_times_since before check.refer (last ∷ older))) (no_event check.refer last.values now.values u.refer)

same_datum : (before : Option ℕ) (datum : Option Event) (now last : Snapshot) (older : List Snapshot) → StaysSame datum last.values now.values
    → datum_times_since before datum (now ∷ last ∷ older) ≡ datum_times_since before datum (last ∷ older)
same_datum before None now last older s = refl
same_datum before (Some event) now last older s = ap (λ b. grown b now.time (event_times_since before event (last ∷ older))) (no_event event last.values now.values s)

pub untouched-datum : (before : Option ℕ) (check : AdjustedCheck) (now last : Snapshot) (older : List Snapshot) → IsUntouched check last.values now.values
    → datum_times_since before check.datum (now ∷ last ∷ older) ≡ datum_times_since before check.datum (last ∷ older)
untouched-datum before check now last older u = same_datum before check.datum now last older u.datum

-- the same nets once more
same_net : (datum : Option Event) (values : List Value) → StaysSame datum values values
same_net None values = tt
same_net (Some event) values = refl

pub violations-again : (earlier : List Latest) (checks : List AdjustedCheck) (time : ℕ) (last : Snapshot) (older : List Snapshot) → violations_since earlier checks (again time last ∷ last ∷ older) ≡ []
violations-again earlier checks time last older =
    all_none (λ number check. violations_at number check (moment_since (earlier_at earlier number) check (again time last) (last ∷ older))) 0 checks
    (λ number check. untouched-none (earlier_at earlier number) number check (again time last) last older (record { refer = refl; datum = same_net check.datum last.values }))

pub stands-again : (kept : Kept) (time : ℕ) (last : Snapshot) (older : List Snapshot) → Stands kept (last ∷ older) → Stands kept (again time last ∷ last ∷ older)
stands-again kept time last older s = record {
  seen = s.seen;
  last = s.last;
  each = λ number l.
      (let check : AdjustedCheck = check_at kept.checks number in
      let before : Latest = earlier_at kept.earlier number in
      let same : IsUntouched check last.values last.values = record { refer = refl; datum = same_net check.datum last.values } in
      subst (λ rs. StandsFor (latest_at kept.latest number) rs (datum_times_since before.datum check.datum (again time last ∷ last ∷ older))) (sym (untouched-refer before.refer check (again time last) last older same))
      (subst (λ ds. StandsFor (latest_at kept.latest number) (event_times_since before.refer check.refer (last ∷ older)) ds) (sym (untouched-datum before.datum check (again time last) last older same)) (s.each number l)));
}
