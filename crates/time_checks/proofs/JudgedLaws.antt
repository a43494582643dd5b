-- The violations of a check that are found from the latest times are those of the definition.
use Rattle.std.specs.Prelude.{◌≡◌, ℕ, ℤ, suc, List, [], ◌∷◌, ◌++◌, Option, Some, refl}
use Rattle.std.specs.Option.{option_to_list}
use Rattle.std.proofs.Common.{sym, ◌∙◌, ap, append_assoc}
use Rattle.std.proofs.lemmas.List.{append-nil}
use Rattle.sg_model.specs.Machine.{Violation}
use Rattle.time_checks.specs.declared.judging.Instant.{Instant}
use Rattle.time_checks.specs.Adjusted.{AdjustedCheck}
use Rattle.time_checks.specs.declared.events.Events.{Events}
use Rattle.time_checks.specs.declared.recent.Recent.{Recent}
use Rattle.time_checks.specs.declared.violations.Part.{Part}
use Rattle.time_checks.specs.declared.violations.Part.TheVariants.{Setup, Hold, Recovery, Removal, Width, Period, Skew}
use Rattle.time_checks.specs.Parts.{parts_of}
use Rattle.time_checks.specs.Falling.{Falls}
use Rattle.time_checks.specs.Times.{grown}
use Rattle.time_checks.specs.Windows.{setup, hold, size, violated}
use Rattle.time_checks.specs.Violations.{all_from, listed, limit_at, window_at, violations_at}
use Rattle.time_checks.specs.Kept.{StandsFor, datum_below, next_of, setup_kept, hold_kept, width_kept, skew_kept, violated_kept, instant_of, found_at}
use Rattle.time_checks.proofs.KeptLaws.{setup-exact, hold-exact, next_time-exact}
use Rattle.time_checks.proofs.EventLaws.{moment_by}

-- functions that agree at every place
pub all_from-same : {A B : Type 0} (f g : ℕ → A → List B) (i : ℕ) (xs : List A) → ((k : ℕ) (x : A) → f k x ≡ g k x) → all_from f i xs ≡ all_from g i xs
all_from-same f g i [] h = refl
all_from-same f g i (x ∷ xs) h = ap (λ ys. ys ++ all_from f (suc i) xs) (h i x) ∙ ap (λ ys. g i x ++ ys) (all_from-same f g (suc i) xs h)

-- a part
pub violated-exact : (part : Part) (limit : ℤ) (threshold time : ℕ) (events : Events) (latest : Recent) (rs ds : List ℕ) → Falls time rs → Falls time ds → StandsFor latest rs ds
    → violated_kept part limit threshold (instant_of time events latest) ≡ violated part limit threshold (moment_by time events rs ds)
violated-exact part limit threshold time events latest rs ds f g s =
    at part (setup-exact (size limit) time events.refer events.datum events.back latest rs ds (grown events.refer time rs) g s)
    (hold-exact (size limit) time events.refer events.datum events.back rs ds (next_of time events latest).refer (next_of time events latest).datum f g (next_time-exact events.refer time latest.refer rs f s.refer) (next_time-exact events.datum time latest.datum ds g s.datum))
  where
    at : (part : Part)
        → setup_kept (size limit) time events.refer (datum_below latest.datum latest.earlier time) ≡ setup (size limit) (moment_by time events rs ds)
        → hold_kept (size limit) time events.refer events.datum (next_of time events latest).refer (next_of time events latest).datum ≡ hold (size limit) (moment_by time events rs ds)
        → violated_kept part limit threshold (instant_of time events latest) ≡ violated part limit threshold (moment_by time events rs ds)
    at Setup set held = set
    at Removal set held = set
    at Hold set held = held
    at Recovery set held = held
    at Width set held = ap (width_kept (size limit) threshold time events.back) s.refer
    at Period set held = ap (width_kept (size limit) 0 time events.refer) s.refer
    at Skew set held = ap (skew_kept limit time events.datum) (next_time-exact events.refer time latest.refer rs f s.refer)

-- all parts
pub found-exact : (number : ℕ) (check : AdjustedCheck) (time : ℕ) (events : Events) (latest : Recent) (rs ds : List ℕ) → Falls time rs → Falls time ds → StandsFor latest rs ds
    → found_at number check (instant_of time events latest) ≡ violations_at number check (moment_by time events rs ds)
found-exact number check time events latest rs ds f g s =
    all_from-same (λ place part. listed number check part (limit_at check place) (violated_kept part (window_at check place) check.threshold (instant_of time events latest)))
    (λ place part. listed number check part (limit_at check place) (violated part (window_at check place) check.threshold (moment_by time events rs ds))) 0 (parts_of check.kind)
    (λ place part. ap (listed number check part (limit_at check place)) (violated-exact part (window_at check place) check.threshold time events latest rs ds f g s))

-- the violation of one part after that of the other
pub judged_two : (number : ℕ) (check : AdjustedCheck) (now : Instant) (first second : Part) (o : Option Part) (old mid new : List Violation) → parts_of check.kind ≡ first ∷ option_to_list o → o ≡ Some second
    → mid ≡ old ++ listed number check first (limit_at check 0) (violated_kept first (window_at check 0) check.threshold now)
    → new ≡ mid ++ listed number check second (limit_at check 1) (violated_kept second (window_at check 1) check.threshold now) → new ≡ old ++ found_at number check now
judged_two number check now first second o old mid new p q h k =
    let part : ℕ → Part → List Violation = λ place part. listed number check part (limit_at check place) (violated_kept part (window_at check place) check.threshold now) in
    let all : found_at number check now ≡ part 0 first ++ (part 1 second ++ []) = ap (all_from part 0) (p ∙ ap (λ x. first ∷ option_to_list x) q) in
    k ∙ (ap (λ ys. ys ++ part 1 second) h
    ∙ (append_assoc old (part 0 first) (part 1 second) ∙ (ap (λ ys. old ++ (part 0 first ++ ys)) (sym (append-nil (part 1 second))) ∙ ap (λ ys. old ++ ys) (sym all))))
