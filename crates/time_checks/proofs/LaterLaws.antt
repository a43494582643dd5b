-- Of the events up to a time the latest alone count after it.
use Rattle.std.specs.Prelude.{◌≡◌, ℕ, ℤ, ◌+◌, ◌<◌, ◌≤◌, nat_lt, Bool, true, false, cond, All, List, [], ◌∷◌, ◌++◌, length, Option, Some, None, refl}
use Rattle.std.specs.List.{find}
use Rattle.std.proofs.Common.{sym, ◌∙◌, ap, subst, arith, zero-add}
use Rattle.std.proofs.lemmas.Bool.Decides.{nat_tests}
use Rattle.std.proofs.lemmas.List.{ext_get_or}
use Rattle.sg_circuit.specs.declared.checks.Event.{Event}
use Rattle.sg_model.specs.Machine.{Snapshot}
use Rattle.fan_round.proofs.ListLaws.{each_from-at, length-each_from}
use Rattle.time_checks.specs.declared.events.Events.{Events}
use Rattle.time_checks.specs.declared.latest.Latest.{Latest}
use Rattle.time_checks.specs.declared.recent.Recent.{Recent}
use Rattle.time_checks.specs.declared.violations.Part.{Part}
use Rattle.time_checks.specs.declared.violations.Part.TheVariants.{Setup, Hold, Recovery, Removal, Width, Period, Skew}
use Rattle.time_checks.specs.Adjusted.{AdjustedCheck}
use Rattle.time_checks.specs.Parts.{parts_of}
use Rattle.time_checks.specs.Times.{grown, greater, greatest}
use Rattle.time_checks.specs.Falling.{Falls, DontFallSince}
use Rattle.time_checks.specs.Windows.{size}
use Rattle.time_checks.specs.Events.{happens, known, event_times_since, datum_times_since, moment_since, no_events, latest_since}
use Rattle.time_checks.specs.Violations.{earlier_at, listed, limit_at, window_at, violations_at, violations_since, latest_events}
use Rattle.time_checks.specs.Kept.{greatest_below, StandsFor, datum_below, next_time, setup_kept, hold_kept, width_kept, skew_kept, violated_kept, instant_of}
use Rattle.time_checks.specs.Checking.{check_at}
use Rattle.time_checks.proofs.TimeLaws.{greatest-falls}
use Rattle.time_checks.proofs.KeptLaws.{datum_below-exact}
use Rattle.time_checks.proofs.EventLaws.{falls-event_times, falls-datum_times, moment_by, moment-is}
use Rattle.time_checks.proofs.JudgedLaws.{all_from-same, found-exact}
use Rattle.time_checks.proofs.CheckingLaws.{all_from-agree}

-- two lists of times between which nothing after a time tells apart
record CountAlike (from : ℕ) (ts us : List ℕ) : Type 0 where
  latest : greatest ts ≡ greatest us
  below : (time : ℕ) → from < time → find (λ t. nat_lt t time) ts ≡ find (λ t. nat_lt t time) us
  falls : (time : ℕ) → Falls time ts → Falls time us

alike_grown : (b : Bool) (from t : ℕ) (ts us : List ℕ) → CountAlike from ts us → CountAlike from (grown b t ts) (grown b t us)
alike_grown false from t ts us a = a
alike_grown true from t ts us a = record {
  latest = ap (greater t) a.latest;
  below = λ time l. ap (cond (nat_lt t time) (Some t)) (a.below time l);
  falls = λ time f. (f.0, a.falls t f.1);
}

-- times and the latest of them
alike_known : (from : ℕ) (ts : List ℕ) → Falls from ts → CountAlike from ts (known (greatest ts))
alike_known from [] f = record { latest = refl; below = λ time l. refl; falls = λ time g. g }
alike_known from (t ∷ ts) f =
    let head : greatest (t ∷ ts) ≡ Some t = greatest-falls from (t ∷ ts) f in
    subst (λ o. CountAlike from (t ∷ ts) (known o)) (sym head) (record { latest = head; below = at; falls = λ time g. (g.0, tt) })
  where
    at : (time : ℕ) → from < time → find (λ u. nat_lt u time) (t ∷ ts) ≡ find (λ u. nat_lt u time) (t ∷ [])
    at time l =
        let m : t ≤ from = f.0 in
        let e : nat_lt t time ≡ true = grind (arith, nat_tests) in
        ap (λ b. cond b (Some t) (find (λ u. nat_lt u time) ts)) e ∙ sym (ap (λ b. cond b (Some t) None) e)

-- what happens at a snapshot rests on the one before it, and on none before that
happens-same : (event : Event) (now : Snapshot) (newer : List Snapshot) (last : Snapshot) (older : List Snapshot) → happens event (now ∷ newer ++ last ∷ older) ≡ happens event (now ∷ newer ++ last ∷ [])
happens-same event now [] last older = refl
happens-same event now (next ∷ newer) last older = refl

-- the times of a terminal's events, and those since a snapshot with the latest up to it
alike_events : (event : Event) (before : Option ℕ) (newer : List Snapshot) (last : Snapshot) (older : List Snapshot) → Falls last.time (event_times_since before event (last ∷ older))
    → CountAlike last.time (event_times_since before event (newer ++ last ∷ older)) (event_times_since (greatest (event_times_since before event (last ∷ older))) event (newer ++ last ∷ []))
alike_events event before [] last older f = alike_known last.time (event_times_since before event (last ∷ older)) f
alike_events event before (now ∷ newer) last older f =
    let long : List ℕ = event_times_since before event (newer ++ last ∷ older) in
    let short : List ℕ = event_times_since (greatest (event_times_since before event (last ∷ older))) event (newer ++ last ∷ []) in
    let b : Bool = happens event (now ∷ newer ++ last ∷ older) in
    subst (λ c. CountAlike last.time (grown b now.time long) (grown c now.time short)) (happens-same event now newer last older)
    (alike_grown b last.time now.time long short (alike_events event before newer last older f))

alike_data : (datum : Option Event) (before : Option ℕ) (newer : List Snapshot) (last : Snapshot) (older : List Snapshot) → Falls last.time (datum_times_since before datum (last ∷ older))
    → CountAlike last.time (datum_times_since before datum (newer ++ last ∷ older)) (datum_times_since (greatest (datum_times_since before datum (last ∷ older))) datum (newer ++ last ∷ []))
alike_data None before newer last older f = alike_known last.time (known before) f
alike_data (Some event) before newer last older f = alike_events event before newer last older f

-- what would be kept of these times
abbrev kept_of : List ℕ → List ℕ → Recent
kept_of rs ds = record { refer = greatest rs; datum = greatest ds; earlier = greatest_below (greatest ds) ds }

-- of what is kept of the data before, the latest below now is all that is looked at
violated_same : (part : Part) (limit : ℤ) (threshold time : ℕ) (events : Events) (one other : Recent) → one.refer ≡ other.refer → one.datum ≡ other.datum
    → datum_below one.datum one.earlier time ≡ datum_below other.datum other.earlier time
    → violated_kept part limit threshold (instant_of time events one) ≡ violated_kept part limit threshold (instant_of time events other)
violated_same part limit threshold time events one other r d b = at part
  where
    held : hold_kept (size limit) time events.refer events.datum (next_time events.refer time one.refer) (next_time events.datum time one.datum)
        ≡ hold_kept (size limit) time events.refer events.datum (next_time events.refer time other.refer) (next_time events.datum time other.datum)
    held =
        ap (λ t. hold_kept (size limit) time events.refer events.datum (next_time events.refer time t) (next_time events.datum time one.datum)) r
        ∙ ap (λ t. hold_kept (size limit) time events.refer events.datum (next_time events.refer time other.refer) (next_time events.datum time t)) d

    at : (part : Part) → violated_kept part limit threshold (instant_of time events one) ≡ violated_kept part limit threshold (instant_of time events other)
    at Setup = ap (setup_kept (size limit) time events.refer) b
    at Removal = ap (setup_kept (size limit) time events.refer) b
    at Hold = held
    at Recovery = held
    at Width = ap (width_kept (size limit) threshold time events.back) r
    at Period = ap (width_kept (size limit) 0 time events.refer) r
    at Skew = ap (λ t. skew_kept limit time events.datum (next_time events.refer time t)) r

-- times that are alike have the same violations
violations_alike : (number : ℕ) (check : AdjustedCheck) (time : ℕ) (events : Events) (from : ℕ) (rs ds rs' ds' : List ℕ) → from < time → Falls time rs → Falls time ds → CountAlike from rs rs' → CountAlike from ds ds'
    → violations_at number check (moment_by time events rs ds) ≡ violations_at number check (moment_by time events rs' ds')
violations_alike number check time events from rs ds rs' ds' l f g a b =
    let one : Recent = kept_of rs ds in
    let other : Recent = kept_of rs' ds' in
    let stands : StandsFor one rs ds = record { refer = refl; datum = refl; earlier = refl } in
    let stands' : StandsFor other rs' ds' = record { refer = refl; datum = refl; earlier = refl } in
    let below : datum_below one.datum one.earlier time ≡ datum_below other.datum other.earlier time =
    datum_below-exact time one rs ds g stands ∙ (b.below time l ∙ sym (datum_below-exact time other rs' ds' (b.falls time g) stands')) in
    sym (found-exact number check time events one rs ds f g stands)
    ∙ (all_from-same (λ place part. listed number check part (limit_at check place) (violated_kept part (window_at check place) check.threshold (instant_of time events one)))
    (λ place part. listed number check part (limit_at check place) (violated_kept part (window_at check place) check.threshold (instant_of time events other))) 0 (parts_of check.kind)
    (λ place part. ap (listed number check part (limit_at check place)) (violated_same part (window_at check place) check.threshold time events one other a.latest b.latest below))
    ∙ found-exact number check time events other rs' ds' (a.falls time f) (b.falls time g) stands')

seen_alike : (number : ℕ) (check : AdjustedCheck) (now next : Snapshot) (long short : List Snapshot) (from : ℕ) (before other : Latest) → from < now.time
    → Falls now.time (event_times_since before.refer check.refer (next ∷ long)) → Falls now.time (datum_times_since before.datum check.datum (next ∷ long))
    → CountAlike from (event_times_since before.refer check.refer (next ∷ long)) (event_times_since other.refer check.refer (next ∷ short))
    → CountAlike from (datum_times_since before.datum check.datum (next ∷ long)) (datum_times_since other.datum check.datum (next ∷ short))
    → violations_at number check (moment_since before check now (next ∷ long)) ≡ violations_at number check (moment_since other check now (next ∷ short))
seen_alike number check now next long short from before other l f g a b =
    ap (violations_at number check) (moment-is before check now next long)
    ∙ (violations_alike number check now.time _ from (event_times_since before.refer check.refer (next ∷ long)) (datum_times_since before.datum check.datum (next ∷ long))
    (event_times_since other.refer check.refer (next ∷ short)) (datum_times_since other.datum check.datum (next ∷ short)) l f g a b
    ∙ sym (ap (violations_at number check) (moment-is other check now next short)))

from_last : (earlier : List Latest) (time : ℕ) (newer : List Snapshot) (last : Snapshot) (older : List Snapshot) → DontFallSince earlier time (newer ++ last ∷ older) → DontFallSince earlier last.time (last ∷ older)
from_last earlier time [] last older f = let l : last.time ≤ last.time = omega arith in (l, f.1)
from_last earlier time (now ∷ newer) last older f = from_last earlier now.time newer last older f.1

module _ (earlier : List Latest) (number : ℕ) (check : AdjustedCheck) where
  -- what is known of a check before, and up to a snapshot
  abbrev before : Latest
  before = earlier_at earlier number

  abbrev up_to : Snapshot → List Snapshot → Latest
  up_to last older = latest_since before check (last ∷ older)

  alike_refer : (time : ℕ) (newer : List Snapshot) (last : Snapshot) (older : List Snapshot) → DontFallSince earlier time (newer ++ last ∷ older)
      → CountAlike last.time (event_times_since before.refer check.refer (newer ++ last ∷ older)) (event_times_since (up_to last older).refer check.refer (newer ++ last ∷ []))
  alike_refer time newer last older f =
      alike_events check.refer before.refer newer last older (falls-event_times earlier number check.refer last.time (last ∷ older) (from_last earlier time newer last older f))

  alike_datum : (time : ℕ) (newer : List Snapshot) (last : Snapshot) (older : List Snapshot) → DontFallSince earlier time (newer ++ last ∷ older)
      → CountAlike last.time (datum_times_since before.datum check.datum (newer ++ last ∷ older)) (datum_times_since (up_to last older).datum check.datum (newer ++ last ∷ []))
  alike_datum time newer last older f =
      alike_data check.datum before.datum newer last older (falls-datum_times earlier number check.datum last.time (last ∷ older) (from_last earlier time newer last older f))

  one_violates : (now : Snapshot) (newer : List Snapshot) (last : Snapshot) (older : List Snapshot) → DontFallSince earlier now.time (newer ++ last ∷ older) → last.time < now.time
      → violations_at number check (moment_since before check now (newer ++ last ∷ older)) ≡ violations_at number check (moment_since (up_to last older) check now (newer ++ last ∷ []))
  one_violates now [] last older f l =
      seen_alike number check now last older [] last.time before (up_to last older) l (falls-event_times earlier number check.refer now.time (last ∷ older) f) (falls-datum_times earlier number check.datum now.time (last ∷ older) f)
      (alike_refer now.time [] last older f) (alike_datum now.time [] last older f)
  one_violates now (next ∷ newer) last older f l =
      seen_alike number check now next (newer ++ last ∷ older) (newer ++ last ∷ []) last.time before (up_to last older) l
      (falls-event_times earlier number check.refer now.time (next ∷ newer ++ last ∷ older) f) (falls-datum_times earlier number check.datum now.time (next ∷ newer ++ last ∷ older) f)
      (alike_refer now.time (next ∷ newer) last older f) (alike_datum now.time (next ∷ newer) last older f)

  one_latest : (time : ℕ) (newer : List Snapshot) (last : Snapshot) (older : List Snapshot) → DontFallSince earlier time (newer ++ last ∷ older)
      → latest_since before check (newer ++ last ∷ older) ≡ latest_since (up_to last older) check (newer ++ last ∷ [])
  one_latest time newer last older f =
      ap (λ r. both r (greatest (datum_times_since before.datum check.datum (newer ++ last ∷ older)))) (alike_refer time newer last older f).latest
      ∙ ap (both (greatest (event_times_since (up_to last older).refer check.refer (newer ++ last ∷ [])))) (alike_datum time newer last older f).latest
    where
      both : Option ℕ → Option ℕ → Latest
      both refer datum = record { refer = refer; datum = datum }

-- the latest events of one check among those of all
latest-at : (earlier : List Latest) (checks : List AdjustedCheck) (snapshots : List Snapshot) (number : ℕ) → number < length checks
    → earlier_at (latest_events earlier checks snapshots) number ≡ latest_since (earlier_at earlier number) (check_at checks number) snapshots
latest-at earlier checks snapshots number l =
    each_from-at (λ n check. latest_since (earlier_at earlier n) check snapshots) 0 checks number _ no_events l
    ∙ ap (λ n. latest_since (earlier_at earlier n) (check_at checks number) snapshots) (zero-add number)

pub same-violations : (earlier : List Latest) (checks : List AdjustedCheck) (now : Snapshot) (newer : List Snapshot) (last : Snapshot) (older : List Snapshot)
    → DontFallSince earlier now.time (newer ++ last ∷ older) → All (λ s. last.time < s.time) (now ∷ newer)
    → violations_since earlier checks (now ∷ newer ++ last ∷ older) ≡ violations_since (latest_events earlier checks (last ∷ older)) checks (now ∷ newer ++ last ∷ [])
same-violations earlier checks now newer last older f after =
    all_from-agree (λ number check. violations_at number check (moment_since (earlier_at earlier number) check now (newer ++ last ∷ older)))
    (λ number check. violations_at number check (moment_since (earlier_at (latest_events earlier checks (last ∷ older)) number) check now (newer ++ last ∷ []))) 0 checks _
    (λ number l. (let check : AdjustedCheck = check_at checks number in
    let number' : 0 + number ≡ number = zero-add number in
    ap (λ n. violations_at n check (moment_since (earlier_at earlier n) check now (newer ++ last ∷ older))) number'
    ∙ (one_violates earlier number check now newer last older f (after 0 now (omega arith))
    ∙ (ap (λ k. violations_at number check (moment_since k check now (newer ++ last ∷ []))) (sym (latest-at earlier checks (last ∷ older) number l))
    ∙ ap (λ n. violations_at n check (moment_since (earlier_at (latest_events earlier checks (last ∷ older)) n) check now (newer ++ last ∷ []))) (sym number')))))

pub same-latest : (earlier : List Latest) (checks : List AdjustedCheck) (now : Snapshot) (newer : List Snapshot) (last : Snapshot) (older : List Snapshot)
    → DontFallSince earlier now.time (newer ++ last ∷ older) → All (λ s. last.time < s.time) (now ∷ newer)
    → latest_events earlier checks (now ∷ newer ++ last ∷ older) ≡ latest_events (latest_events earlier checks (last ∷ older)) checks (now ∷ newer ++ last ∷ [])
same-latest earlier checks now newer last older f after =
    ext_get_or no_events (latest_events earlier checks (now ∷ newer ++ last ∷ older)) (latest_events (latest_events earlier checks (last ∷ older)) checks (now ∷ newer ++ last ∷ []))
    (many earlier (now ∷ newer ++ last ∷ older) ∙ sym (many (latest_events earlier checks (last ∷ older)) (now ∷ newer ++ last ∷ [])))
    (λ number m. (let l : number < length checks = subst (λ n. number < n) (many earlier (now ∷ newer ++ last ∷ older)) m in
    let here : now.time ≤ now.time = omega arith in
    latest-at earlier checks (now ∷ newer ++ last ∷ older) number l
    ∙ (one_latest earlier number (check_at checks number) now.time (now ∷ newer) last older (here, f)
    ∙ (ap (λ k. latest_since k (check_at checks number) (now ∷ newer ++ last ∷ [])) (sym (latest-at earlier checks (last ∷ older) number l))
    ∙ sym (latest-at (latest_events earlier checks (last ∷ older)) checks (now ∷ newer ++ last ∷ []) number l)))))
  where
    many : (given : List Latest) (snapshots : List Snapshot) → length (latest_events given checks snapshots) ≡ length checks
    many given snapshots = length-each_from (λ n check. latest_since (earlier_at given n) check snapshots) 0 checks
