-- A checker that sees one more snapshot.
use Rattle.std.specs.Prelude.{◌≡◌, ◌≢◌, ℕ, suc, ◌+◌, ◌<◌, Bool, true, false, not, ◌==◌, ◌||◌, if◌then◌else◌, List, [], ◌∷◌, ◌++◌, length, slice_index_or, slice_set, take, Option, Some, None, refl}
use Rattle.std.proofs.Common.{sym, ◌∙◌, ap, subst, arith, inl, inr, zero-add, add-zero}
use Rattle.std.proofs.lemmas.Bool.{cases_eq}
use Rattle.std.proofs.lemmas.List.{append-nil, length-set, get_or-set_same, get_or-set_other, ext_get_or, get_or_default}
use Rattle.sg_logic.specs.declared.values.Value.{Value}
use Rattle.sg_logic.specs.declared.values.Value.TheVariants.{X}
use Rattle.sg_logic.specs.Values.{is_same}
use Rattle.sg_circuit.specs.declared.checks.Event.{Event}
use Rattle.time_checks.specs.Adjusted.{AdjustedCheck}
use Rattle.sg_circuit.specs.FanOut.{has}
use Rattle.sg_model.specs.Machine.{Snapshot, Violation}
use Rattle.sg_model.specs.Values.{value_at}
use Rattle.sg_model.proofs.PlacedLaws.{same-true}
use Rattle.fan_round.specs.Lists.{at_places}
use Rattle.fan_round.specs.Nets.{differs}
use Rattle.fan_round.proofs.ListLaws.{test_same, test_other, each_from-at, length-at_places, at_places-more}
use Rattle.time_checks.specs.declared.events.Events.{Events}
use Rattle.time_checks.specs.declared.recent.Recent.{Recent}
use Rattle.time_checks.specs.declared.latest.Latest.{Latest}
use Rattle.time_checks.specs.Falling.{DontFallSince}
use Rattle.time_checks.specs.Times.{grown}
use Rattle.time_checks.specs.Events.{known, event_times_since, datum_times_since, moment_since}
use Rattle.time_checks.specs.Violations.{all_from, earlier_at, violations_at, violations_since}
use Rattle.time_checks.specs.Kept.{StandsFor, events_at, next_of, instant_of, found_at}
use Rattle.time_checks.specs.Checking.{Kept, Stands, check_at, latest_at, no_times, next_at, found_in, Covers, LeadsTo, Sees, SeesChanges}
use Rattle.time_checks.proofs.EventLaws.{falls-event_times, falls-datum_times, datum_times-more, moment-is}
use Rattle.time_checks.proofs.KeptLaws.{next-stands}
use Rattle.time_checks.proofs.JudgedLaws.{found-exact}
use Rattle.time_checks.proofs.QuietLaws.{first-none}

-- functions that agree at each place of a list
pub all_from-agree : {A B : Type 0} (f g : ℕ → A → List B) (i : ℕ) (xs : List A) (d : A) → ((k : ℕ) → k < length xs → f (i + k) (slice_index_or xs k d) ≡ g (i + k) (slice_index_or xs k d)) → all_from f i xs ≡ all_from g i xs
all_from-agree f g i [] d h = refl
all_from-agree f g i (x ∷ xs) d h =
    let first : f i x ≡ g i x = ap (λ n. f n x) (sym (add-zero i)) ∙ (h 0 (omega arith) ∙ ap (λ n. g n x) (add-zero i)) in
    ap (λ ys. ys ++ all_from f (suc i) xs) first
    ∙ ap (λ ys. g i x ++ ys) (all_from-agree f g (suc i) xs d (λ k l. let e : suc i + k ≡ i + suc k = omega arith in ap (λ n. f n (slice_index_or xs k d)) e ∙ (h (suc k) (omega arith) ∙ ap (λ n. g n (slice_index_or xs k d)) (sym e))))

-- the changed nets are put, and so all are
put_at : (values : List Value) (ks : List ℕ) (xs : List Value) (j : ℕ) (b : Bool) → j < length xs → has j ks ≡ b
    → slice_index_or (at_places (λ net old. value_at values net) X ks xs) j X ≡ (if b then value_at values j else slice_index_or xs j X)
put_at values [] xs j true l h = cc
put_at values [] xs j false l h = refl
put_at values (k ∷ ks) xs j b l h =
    let ys : List Value = slice_set xs k (value_at values k) in
    let m : j < length ys = subst (λ n. j < n) (sym (length-set xs k (value_at values k))) l in
    at (has j ks) refl m (put_at values ks ys j (has j ks) m refl) b h
  where
    same_test : (c : Bool) → (k == j) ≡ c → (k ≡ j → c ≡ true) × (k ≢ j → c ≡ false)
    same_test c e = ((λ q. sym e ∙ test_same k j q), (λ q. sym e ∙ test_other k j q))

    at : (c : Bool) → has j ks ≡ c → j < length (slice_set xs k (value_at values k))
        → slice_index_or (at_places (λ net old. value_at values net) X ks (slice_set xs k (value_at values k))) j X ≡ (if c then value_at values j else slice_index_or (slice_set xs k (value_at values k)) j X)
        → (b : Bool) → has j (k ∷ ks) ≡ b → slice_index_or (at_places (λ net old. value_at values net) X ks (slice_set xs k (value_at values k))) j X ≡ (if b then value_at values j else slice_index_or xs j X)
    at true e m r b g = elim (cases_eq k j) [
      | inl same ↦ r ∙ ap (λ c. if c then value_at values j else slice_index_or xs j X) (sym (sym g ∙ ap (λ c. c || has j ks) (test_same k j same)))
      | inr other ↦ r ∙ ap (λ c. if c then value_at values j else slice_index_or xs j X) (sym (sym g ∙ (ap (λ c. c || has j ks) (test_other k j other) ∙ e)))
    ]
    at false e m r b g = elim (cases_eq k j) [
      | inl same ↦ (let n : k < length xs = subst (λ x. x < length xs) (sym same) l in
          r ∙ ((ap (λ x. slice_index_or (slice_set xs k (value_at values k)) x X) (sym same) ∙ (get_or-set_same xs k (value_at values k) X n ∙ ap (value_at values) same))
          ∙ ap (λ c. if c then value_at values j else slice_index_or xs j X) (sym (sym g ∙ ap (λ c. c || has j ks) (test_same k j same)))))
      | inr other ↦ (let apart : j ≢ k = (λ q. other (sym q)) in
          r ∙ (get_or-set_other xs k j (value_at values k) X apart
          ∙ ap (λ c. if c then value_at values j else slice_index_or xs j X) (sym (sym g ∙ (ap (λ c. c || has j ks) (test_other k j other) ∙ e)))))
    ]

pub followed : (last values : List Value) (changed : List ℕ) → length last ≡ length values → Covers last values changed → at_places (λ net old. value_at values net) X changed last ≡ values
followed last values changed many covers =
    ext_get_or X (at_places (λ net old. value_at values net) X changed last) values (length-at_places (λ net old. value_at values net) X changed last ∙ many)
    (λ j l. (let m : j < length last = subst (λ n. j < n) (length-at_places (λ net old. value_at values net) X changed last) l in
    put_at values changed last j (has j changed) m refl ∙ at j (has j changed) refl (differs last values j) refl))
  where
    not_false : (b : Bool) → not b ≡ false → b ≡ true
    not_false true e = refl
    not_false false e = cc

    at : (j : ℕ) (b : Bool) → has j changed ≡ b → (c : Bool) → differs last values j ≡ c → (if b then value_at values j else slice_index_or last j X) ≡ value_at values j
    at j true h c d = refl
    at j false h false d = same-true (value_at last j) (value_at values j) (not_false (is_same (value_at last j) (value_at values j)) d)
    at j false h true d = let no : false ≡ true = sym h ∙ covers.each j d in cc

-- the times of one check's events, where this is known of those before
abbrev refers : List Latest → ℕ → AdjustedCheck → List Snapshot → List ℕ
refers earlier number check snapshots = event_times_since (earlier_at earlier number).refer check.refer snapshots

abbrev data_times : List Latest → ℕ → AdjustedCheck → List Snapshot → List ℕ
data_times earlier number check snapshots = datum_times_since (earlier_at earlier number).datum check.datum snapshots

-- one check's violations
one_found : (earlier : List Latest) (number : ℕ) (check : AdjustedCheck) (latest : Recent) (time : ℕ) (values : List Value) (last : Snapshot) (older : List Snapshot) → DontFallSince earlier time (last ∷ older)
    → StandsFor latest (refers earlier number check (last ∷ older)) (data_times earlier number check (last ∷ older))
    → found_at number check (instant_of time (events_at check last.values values) latest) ≡ violations_at number check (moment_since (earlier_at earlier number) check (record { time = time; values = values }) (last ∷ older))
one_found earlier number check latest time values last older f s =
    found-exact number check time (events_at check last.values values) latest (refers earlier number check (last ∷ older)) (data_times earlier number check (last ∷ older))
    (falls-event_times earlier number check.refer time (last ∷ older) f) (falls-datum_times earlier number check.datum time (last ∷ older) f) s
    ∙ ap (violations_at number check) (sym (moment-is (earlier_at earlier number) check (record { time = time; values = values }) last older))

-- one check's latest times
one_stands : (earlier : List Latest) (number : ℕ) (check : AdjustedCheck) (latest : Recent) (time : ℕ) (values : List Value) (last : Snapshot) (older : List Snapshot) → DontFallSince earlier time (last ∷ older)
    → StandsFor latest (refers earlier number check (last ∷ older)) (data_times earlier number check (last ∷ older))
    → StandsFor (next_of time (events_at check last.values values) latest) (refers earlier number check (record { time = time; values = values } ∷ last ∷ older)) (data_times earlier number check (record { time = time; values = values } ∷ last ∷ older))
one_stands earlier number check latest time values last older f s =
    let now : Snapshot = record { time = time; values = values } in
    let events : Events = events_at check last.values values in
    let rs : List ℕ = refers earlier number check (last ∷ older) in
    let ds : List ℕ = data_times earlier number check (last ∷ older) in
    subst (λ l. StandsFor (next_of time events latest) (grown events.refer time rs) l) (sym (datum_times-more (earlier_at earlier number).datum check.datum now last older))
    (next-stands time events.refer events.datum latest (next_of time events latest) rs ds (falls-event_times earlier number check.refer time (last ∷ older) f) (falls-datum_times earlier number check.datum time (last ∷ older) f) s refl refl refl)

-- the very first snapshot
pub sees-first : (kept next : Kept) (time : ℕ) (changed : List ℕ) (values : List Value) (old : List Violation) → kept.seen ≡ false → next ≡ record kept { seen = true; last = values } → Sees kept next time changed values old old
sees-first kept next time changed values old none e = record { found = []; added = sym (append-nil old); each = at }
  where
    first : Snapshot
    first = record { time = time; values = values }

    same : (before : Option ℕ) (datum : Option Event) → datum_times_since before datum [] ≡ datum_times_since before datum (first ∷ [])
    same before None = refl
    same before (Some event) = refl

    at : (older : List Snapshot) → Stands kept older → DontFallSince kept.earlier time older → LeadsTo older changed values → ([] ≡ violations_since kept.earlier kept.checks (first ∷ older)) × Stands next (first ∷ older)
    at [] s f h = (
      sym (first-none kept.earlier kept.checks first),
      subst (λ k. Stands k (first ∷ [])) (sym e) (record {
        seen = refl;
        last = refl;
        each = λ number l. subst (λ ds. StandsFor (latest_at kept.latest number) (known (earlier_at kept.earlier number).refer) ds) (same (earlier_at kept.earlier number).datum (check_at kept.checks number).datum) (s.each number l);
      }),
    )
    at (last ∷ older) s f h = let no : false ≡ true = sym none ∙ s.seen in cc

-- a later one
pub sees-next : (kept next : Kept) (time : ℕ) (changed : List ℕ) (values : List Value) (latest : List Recent) (old new : List Violation) → kept.seen ≡ true → length kept.latest ≡ length kept.checks → length kept.last ≡ length values
    → next ≡ record kept { last = at_places (λ net before. value_at values net) X changed kept.last; latest = latest }
    → SeesChanges kept.checks changed kept.last values time kept.latest latest old new → Sees kept next time changed values old new
sees-next kept next time changed values latest old new seen each many e made = record { found = made.found; added = made.added; each = at }
  where
    now : Snapshot
    now = record { time = time; values = values }

    stands : (last : Snapshot) (older : List Snapshot) → Stands kept (last ∷ older) → DontFallSince kept.earlier time (last ∷ older) → Covers kept.last values changed
        → (number : ℕ) → number < length kept.checks
        → StandsFor (latest_at latest number) (refers kept.earlier number (check_at kept.checks number) (now ∷ last ∷ older)) (data_times kept.earlier number (check_at kept.checks number) (now ∷ last ∷ older))
    stands last older s f covers number l =
        let check : AdjustedCheck = check_at kept.checks number in
        let here : latest_at latest number ≡ next_of time (events_at check last.values values) (latest_at kept.latest number) =
        ap (λ ls. latest_at ls number) (made.kept covers)
        ∙ (each_from-at (next_at kept.checks kept.last values time) 0 kept.latest number no_times no_times (subst (λ n. number < n) (sym each) l)
        ∙ (ap (λ n. next_at kept.checks kept.last values time n (latest_at kept.latest number)) (zero-add number)
        ∙ ap (λ vs. next_of time (events_at check vs values) (latest_at kept.latest number)) s.last)) in
        subst (λ x. StandsFor x (refers kept.earlier number check (now ∷ last ∷ older)) (data_times kept.earlier number check (now ∷ last ∷ older))) (sym here)
        (one_stands kept.earlier number check (latest_at kept.latest number) time values last older f (s.each number l))

    at : (older : List Snapshot) → Stands kept older → DontFallSince kept.earlier time older → LeadsTo older changed values → (made.found ≡ violations_since kept.earlier kept.checks (now ∷ older)) × Stands next (now ∷ older)
    at [] s f h = let no : true ≡ false = sym seen ∙ s.seen in cc
    at (last ∷ older) s f h =
        let covers : Covers kept.last values changed = subst (λ vs. Covers vs values changed) (sym s.last) h in (
          made.whole covers ∙ all_from-agree (λ number check. found_in kept.checks kept.last values time kept.latest number)
              (λ number check. violations_at number check (moment_since (earlier_at kept.earlier number) check now (last ∷ older))) 0 kept.checks _
              (λ number l. let number' : 0 + number ≡ number = zero-add number in
              ap (found_in kept.checks kept.last values time kept.latest) number'
              ∙ (ap (λ vs. found_in kept.checks vs values time kept.latest number) s.last
              ∙ (one_found kept.earlier number (check_at kept.checks number) (latest_at kept.latest number) time values last older f (s.each number l)
              ∙ ap (λ n. violations_at n (check_at kept.checks number) (moment_since (earlier_at kept.earlier n) (check_at kept.checks number) now (last ∷ older))) (sym number')))),
          subst (λ k. Stands k (now ∷ last ∷ older)) (sym e) (record { seen = seen; last = followed kept.last values changed many covers; each = stands last older s f covers }),
        )

-- one net more is put
pub put_more : (last mid values : List Value) (changed : List ℕ) (i blank : ℕ) (d : Value) → slice_index_or changed i blank < length values → i < length changed
    → mid ≡ at_places (λ net old. value_at values net) X (take i changed) last
    → slice_set mid (slice_index_or changed i blank) (slice_index_or values (slice_index_or changed i blank) d) ≡ at_places (λ net old. value_at values net) X (take (i + 1) changed) last
put_more last mid values changed i blank d m l e =
    let net : ℕ = slice_index_or changed i blank in
    ap (λ v. slice_set mid net v) (get_or_default values net d X m) ∙ (ap (λ vs. slice_set vs net (value_at values net)) e ∙ sym (at_places-more (λ net old. value_at values net) X changed i blank last l))
