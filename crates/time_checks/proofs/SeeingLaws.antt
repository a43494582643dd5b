-- Going over the listed checks comes to a pass over all.
use Rattle.std.specs.Prelude.{◌≡◌, ℕ, ℤ, ◌+◌, ◌<◌, Bool, false, All, List, [], ◌∷◌, ◌++◌, length, map, take, replicate, slice_index_or, slice_set, Option, None, Result, Ok, Err, OnOk, refl}
use Rattle.std.specs.List.{flat_map}
use Rattle.std.specs.List.Sorted.{IsNonDecreasing}
use Rattle.std.proofs.Common.{sym, ◌∙◌, ap, subst, arith, append_assoc, zero-add}
use Rattle.std.proofs.lemmas.List.{take_more, append-nil, length-replicate}
use Rattle.std.proofs.lemmas.Grind.{flat_map-append}
use Rattle.sg_logic.specs.declared.values.Value.{Value}
use Rattle.time_checks.specs.Adjusted.{AdjustedCheck}
use Rattle.sg_circuit.specs.FanOut.{IsFanOut}
use Rattle.sg_model.specs.Machine.{Violation}
use Rattle.fan_round.specs.Lists.{at_places}
use Rattle.fan_round.specs.Rounds.{IsOnce}
use Rattle.fan_round.specs.Work.{mark_at, AreMarked, with_readers}
use Rattle.fan_round.proofs.ListLaws.{at_places-more, at_places-other, at_places-each}
use Rattle.fan_round.proofs.EvaluationLaws.{not_before}
use Rattle.fan_round.proofs.WorkLaws.{marked-within, length-with_readers}
use Rattle.time_checks.specs.declared.recent.Recent.{Recent}
use Rattle.time_checks.specs.declared.watches.Watch.{Watch}
use Rattle.time_checks.specs.declared.violations.Part.{Part}
use Rattle.time_checks.specs.declared.violations.Part.TheVariants.{Setup, Hold, Recovery, Removal, Width, Period, Skew}
use Rattle.time_checks.specs.Parts.{parts_of}
use Rattle.time_checks.specs.Windows.{Pair, where_true}
use Rattle.time_checks.specs.Violations.{listed, limit_at, window_at}
use Rattle.time_checks.specs.Within.{terminals, IsCheckWithin}
use Rattle.time_checks.specs.Kept.{events_at, violated_kept, instant_of, found_at, next_of}
use Rattle.time_checks.specs.Watching.{events_needed, taken_fan, watch_by}
use Rattle.time_checks.specs.Checking.{check_at, latest_at, no_times, next_at, found_in, Covers, SeesChanges}
use Rattle.time_checks.proofs.QuietLaws.{all_none}
use Rattle.time_checks.proofs.TouchLaws.{unmarked-quiet, unlisted-unmarked, marked-once, rises, listed-all}
use Rattle.time_checks.proofs.WatchLaws.{found-needed, happening}

-- one check more
pub found_more : (checks : List AdjustedCheck) (last now : List Value) (time : ℕ) (work : List ℕ) (i blank : ℕ) (latest between : List Recent) (start mid new : List Violation) → IsOnce work → i < length work
    → between ≡ at_places (next_at checks last now time) no_times (take i work) latest
    → mid ≡ start ++ flat_map (found_in checks last now time latest) (take i work)
    → new ≡ mid ++ found_in checks last now time between (slice_index_or work i blank)
    → new ≡ start ++ flat_map (found_in checks last now time latest) (take (i + 1) work)
found_more checks last now time work i blank latest between start mid new once l e f g =
    let k : ℕ = slice_index_or work i blank in
    let h : ℕ → List Violation = found_in checks last now time latest in
    let same : latest_at between k ≡ latest_at latest k =
    ap (λ ls. latest_at ls k) e ∙ at_places-other (next_at checks last now time) no_times (take i work) latest k no_times (not_before work i blank once l) in
    let here : found_in checks last now time between k ≡ h k = ap (λ x. found_at k (check_at checks k) (instant_of time (events_at (check_at checks k) last now) x)) same in
    let more : flat_map h (take (i + 1) work) ≡ flat_map h (take i work) ++ h k =
    ap (flat_map h) (take_more work i blank l) ∙ (flat_map-append h (take i work) (k ∷ []) ∙ ap (λ ys. flat_map h (take i work) ++ ys) (append-nil (h k))) in
    g ∙ (ap (λ ys. mid ++ ys) here ∙ (ap (λ ys. ys ++ h k) f ∙ (append_assoc start (flat_map h (take i work)) (h k) ∙ ap (λ ys. start ++ ys) (sym more))))

pub latest_more : (checks : List AdjustedCheck) (last now : List Value) (time : ℕ) (work : List ℕ) (i blank : ℕ) (latest between new : List Recent) → i < length work
    → between ≡ at_places (next_at checks last now time) no_times (take i work) latest
    → new ≡ slice_set between (slice_index_or work i blank) (next_at checks last now time (slice_index_or work i blank) (latest_at between (slice_index_or work i blank)))
    → new ≡ at_places (next_at checks last now time) no_times (take (i + 1) work) latest
latest_more checks last now time work i blank latest between new l e g =
    let k : ℕ = slice_index_or work i blank in
    g ∙ (ap (λ ls. slice_set ls k (next_at checks last now time k (latest_at ls k))) e ∙ sym (at_places-more (next_at checks last now time) no_times work i blank latest l))

-- where nothing happens nothing is found
nothing : (b : Bool) (pair : Option Pair) → b ≡ false → where_true b pair ≡ None
nothing b pair e = ap (λ c. where_true c pair) e

not_found : (part : Part) (limit : ℤ) (threshold time : ℕ) (latest : Recent) → violated_kept part limit threshold (instant_of time (record { refer = false; datum = false; back = false }) latest) ≡ None
not_found Setup limit threshold time latest = refl
not_found Hold limit threshold time latest = refl
not_found Recovery limit threshold time latest = refl
not_found Removal limit threshold time latest = refl
not_found Width limit threshold time latest = refl
not_found Period limit threshold time latest = refl
not_found Skew limit threshold time latest = refl

found-none : (number time : ℕ) (check : AdjustedCheck) (last now : List Value) (latest : Recent) → events_needed check last now ≡ happening false false false → found_at number check (instant_of time (events_at check last now) latest) ≡ []
found-none number time check last now latest q =
    sym (found-needed number time check last now latest)
    ∙ (ap (λ e. found_at number check (instant_of time e latest)) q
    ∙ all_none (λ place part. listed number check part (limit_at check place) (violated_kept part (window_at check place) check.threshold (instant_of time (record { refer = false; datum = false; back = false }) latest))) 0 (parts_of check.kind)
    (λ place part. ap (listed number check part (limit_at check place)) (not_found part (window_at check place) check.threshold time latest)))

-- and the latest times stay
latest-same : (check : AdjustedCheck) (time : ℕ) (last now : List Value) (latest : Recent) → events_needed check last now ≡ happening false false false → next_of time (events_at check last now) latest ≡ latest
latest-same check time last now latest q = ap (λ e. next_of time e latest) q

-- what the listed checks found and put is what all would
pub sees_changes : (checks : List AdjustedCheck) (watches : List Watch) (index : List (List ℕ)) (changed : List ℕ) (last now : List Value) (time : ℕ) (latest latest' : List Recent) (old new : List Violation) (marks : List Bool) (work : List ℕ)
    → watches ≡ map (λ c. watch_by c) checks → IsFanOut (map (λ c. terminals c) checks) index → All (λ c. IsCheckWithin c (length index)) checks → length latest ≡ length checks
    → marks ≡ with_readers (taken_fan watches last now index) changed (replicate (length checks) false) → length marks ≡ length checks → AreMarked marks work → IsNonDecreasing work
    → latest' ≡ at_places (next_at checks last now time) no_times work latest → new ≡ old ++ flat_map (found_in checks last now time latest) work
    → SeesChanges checks changed last now time latest latest' old new
sees_changes checks watches index changed last now time latest latest' old new marks work ws is within each e many are sorted l f = record {
  found = flat_map g work;
  added = f;
  whole = λ covers. listed-all g 0 checks work (rises 0 work (λ a d m. omega arith) sorted (marked-once marks work are)) below
      (λ k b m h. found-none k time (check_at checks k) last now (latest_at latest k) (quiet covers k (subst (λ n. k < n) (zero-add (length checks)) m) (unlisted-unmarked marks work k are h)));
  kept = λ covers. l ∙ at_places-each (mark_at marks) (next_at checks last now time) no_times work latest are.each
      (λ j m h. latest-same (check_at checks j) time last now (latest_at latest j) (quiet covers j (subst (λ n. j < n) each m) h));
}
  where
    g : ℕ → List Violation
    g = found_in checks last now time latest

    quiet : Covers last now changed → (k : ℕ) → k < length checks → mark_at marks k ≡ false → events_needed (check_at checks k) last now ≡ happening false false false
    quiet covers k m h = unmarked-quiet checks watches index changed last now k ws is within m covers (ap (λ ms. mark_at ms k) (sym e) ∙ h)

    below : All (λ k. k < 0 + length checks) work
    below a d m = let b : slice_index_or work a d < length marks = marked-within marks work a d are m in omega arith

-- and no more is said of a call that was refused
pub sees_changes_ok : {A E : Type 0} (r : Result A E) (checks : List AdjustedCheck) (watches : List Watch) (index : List (List ℕ)) (changed : List ℕ) (last now : List Value) (time : ℕ) (latest latest' : List Recent) (old new : List Violation) (marks : List Bool) (work seen : List ℕ)
    → watches ≡ map (λ c. watch_by c) checks → IsFanOut (map (λ c. terminals c) checks) index → All (λ c. IsCheckWithin c (length index)) checks → length latest ≡ length checks
    → marks ≡ with_readers (taken_fan watches last now index) changed (replicate (length checks) false) → AreMarked marks work → IsNonDecreasing work → seen ≡ work
    → OnOk r (latest' ≡ at_places (next_at checks last now time) no_times seen latest) → OnOk r (new ≡ old ++ flat_map (found_in checks last now time latest) seen)
    → OnOk r (SeesChanges checks changed last now time latest latest' old new)
sees_changes_ok (Ok a) checks watches index changed last now time latest latest' old new marks work seen ws is within each e are sorted same l f =
    sees_changes checks watches index changed last now time latest latest' old new marks work ws is within each e
    (ap length e ∙ (length-with_readers (taken_fan watches last now index) changed (replicate (length checks) false) ∙ length-replicate (length checks) false)) are sorted
    (subst (λ ks. latest' ≡ at_places (next_at checks last now time) no_times ks latest) same l) (subst (λ ks. new ≡ old ++ flat_map (found_in checks last now time latest) ks) same f)
sees_changes_ok (Err why) checks watches index changed last now time latest latest' old new marks work seen ws is within each e are sorted same l f = tt
