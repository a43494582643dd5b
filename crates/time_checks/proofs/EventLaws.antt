-- The events of a check over a list of snapshots.
use Rattle.std.specs.Prelude.{◌≡◌, ℕ, zero, suc, ◌≤◌, Bool, true, false, ◌&&◌, ◌||◌, List, [], ◌∷◌, Option, Some, None, refl}
use Rattle.std.proofs.Common.{sym, ◌∙◌, ap, subst, arith}
use Rattle.sg_logic.specs.declared.values.Value.{Value}
use Rattle.sg_logic.specs.declared.values.Value.TheVariants.{Zero, One, X, Z}
use Rattle.sg_logic.specs.declared.edges.Edge.{Edge}
use Rattle.sg_logic.specs.Edges.{edge_changes, has_change, is_change}
use Rattle.std.specs.List.{list_any, zip}
use Rattle.sg_circuit.specs.declared.checks.Event.{Event}
use Rattle.time_checks.specs.Adjusted.{AdjustedCheck}
use Rattle.sg_model.specs.Machine.{Snapshot}
use Rattle.sg_model.specs.Values.{value_at}
use Rattle.time_checks.specs.declared.events.Events.{Events}
use Rattle.time_checks.specs.Times.{grown}
use Rattle.time_checks.specs.Falling.{Falls, IsBy, AreBy, DontFallSince}
use Rattle.time_checks.specs.Windows.{Moment}
use Rattle.time_checks.specs.declared.latest.Latest.{Latest}
use Rattle.time_checks.specs.Events.{is_of_edge, is_enabled, has_event, has_opposite, happens, known, event_times_since, datum_happens, datum_times_since, moment_since}
use Rattle.time_checks.specs.Violations.{earlier_at}
use Rattle.time_checks.specs.Kept.{has_datum, events_at}
use Rattle.time_checks.proofs.TimeLaws.{falls-later}

-- none of an edge's changes is from a value to itself
abbrev NoneStays : Value → List (Value × Value) → Type 0
NoneStays v [] = Unit {0}
NoneStays v (c ∷ cs) = (is_change c v v ≡ false) × NoneStays v cs

none_listed : (v : Value) (has : List Bool) (cs : List (Value × Value)) → NoneStays v cs → list_any (λ place. is_change place.1 v v && place.0) (zip has cs) ≡ false
none_listed v [] cs h = refl
none_listed v (b ∷ bs) [] h = refl
none_listed v (b ∷ bs) (c ∷ cs) h = ap (λ t. (t && b) || list_any (λ place. is_change place.1 v v && place.0) (zip bs cs)) h.0 ∙ none_listed v bs cs h.1

none_of_edge : (edge : Edge) (v : Value) → has_change edge v v ≡ false
none_of_edge edge Zero = none_listed Zero edge.has edge_changes (refl, (refl, (refl, (refl, (refl, (refl, tt))))))
none_of_edge edge One = none_listed One edge.has edge_changes (refl, (refl, (refl, (refl, (refl, (refl, tt))))))
none_of_edge edge X = none_listed X edge.has edge_changes (refl, (refl, (refl, (refl, (refl, (refl, tt))))))
none_of_edge edge Z = none_listed Z edge.has edge_changes (refl, (refl, (refl, (refl, (refl, (refl, tt))))))

-- a value that stays is no change
pub no_change : (edge : Option Edge) (v w : Value) → v ≡ w → is_of_edge edge v w ≡ false
no_change edge v w e = subst (λ x. is_of_edge edge v x ≡ false) e (same edge v)
  where
    same : (edge : Option Edge) (v : Value) → is_of_edge edge v v ≡ false
    same None Zero = refl
    same None One = refl
    same None X = refl
    same None Z = refl
    same (Some edge) v = none_of_edge edge v

-- a terminal whose net stays has no event
pub no_event : (event : Event) (last now : List Value) → value_at last event.net ≡ value_at now event.net → has_event event last now ≡ false
no_event event last now e = ap (λ b. b && is_enabled event.condition now) (no_change event.edge (value_at last event.net) (value_at now event.net) e)

pub no_opposite : (event : Event) (last now : List Value) → value_at last event.net ≡ value_at now event.net → has_opposite event last now ≡ false
no_opposite event last now e = no_change event.edge (value_at now event.net) (value_at last event.net) (sym e)

-- what is known happened by each later time too
is_by-later : (time later : ℕ) (before : Option ℕ) → time ≤ later → IsBy time before → IsBy later before
is_by-later time later None l h = tt
is_by-later time later (Some t) l h = let m : t ≤ time = h in omega arith

are_by-later : (time later : ℕ) (earlier : List Latest) → time ≤ later → AreBy time earlier → AreBy later earlier
are_by-later time later [] l h = tt
are_by-later time later (e ∷ es) l h = ((is_by-later time later e.refer l h.0.0, is_by-later time later e.datum l h.0.1), are_by-later time later es l h.1)

-- so did what is known of one check
is_by-at : (time number : ℕ) (earlier : List Latest) → AreBy time earlier → IsBy time (earlier_at earlier number).refer × IsBy time (earlier_at earlier number).datum
is_by-at time number [] h = (tt, tt)
is_by-at time zero (e ∷ es) h = h.0
is_by-at time (suc number) (e ∷ es) h = is_by-at time number es h.1

are_by : (earlier : List Latest) (time : ℕ) (snapshots : List Snapshot) → DontFallSince earlier time snapshots → AreBy time earlier
are_by earlier time [] f = f
are_by earlier time (now ∷ older) f = are_by-later now.time time earlier f.0 (are_by earlier now.time older f.1)

-- times of events don't rise where times of snapshots don't
falls-grown : (b : Bool) (time later : ℕ) (ts : List ℕ) → time ≤ later → Falls time ts → Falls later (grown b time ts)
falls-grown true time later ts l f = (l, f)
falls-grown false time later ts l f = falls-later time later ts l f

falls-known : (time : ℕ) (before : Option ℕ) → IsBy time before → Falls time (known before)
falls-known time None h = tt
falls-known time (Some t) h = (h, tt)

falls-since : (earlier : List Latest) (before : Option ℕ) (event : Event) (time : ℕ) (snapshots : List Snapshot) → ((t : ℕ) → AreBy t earlier → IsBy t before) → DontFallSince earlier time snapshots
    → Falls time (event_times_since before event snapshots)
falls-since earlier before event time [] h f = falls-known time before (h time f)
falls-since earlier before event time (now ∷ older) h f = falls-grown (happens event (now ∷ older)) now.time time (event_times_since before event older) f.0 (falls-since earlier before event now.time older h f.1)

pub falls-event_times : (earlier : List Latest) (number : ℕ) (event : Event) (time : ℕ) (snapshots : List Snapshot) → DontFallSince earlier time snapshots
    → Falls time (event_times_since (earlier_at earlier number).refer event snapshots)
falls-event_times earlier number event time snapshots f = falls-since earlier (earlier_at earlier number).refer event time snapshots (λ t h. (is_by-at t number earlier h).0) f

pub falls-datum_times : (earlier : List Latest) (number : ℕ) (datum : Option Event) (time : ℕ) (snapshots : List Snapshot) → DontFallSince earlier time snapshots
    → Falls time (datum_times_since (earlier_at earlier number).datum datum snapshots)
falls-datum_times earlier number None time snapshots f = falls-known time (earlier_at earlier number).datum (is_by-at time number earlier (are_by earlier time snapshots f)).1
falls-datum_times earlier number (Some event) time snapshots f = falls-since earlier (earlier_at earlier number).datum event time snapshots (λ t h. (is_by-at t number earlier h).1) f

-- whether a data event happens, and its times, after one more snapshot
datum_happens-is : (datum : Option Event) (now last : Snapshot) (older : List Snapshot) → datum_happens datum (now ∷ last ∷ older) ≡ has_datum datum last.values now.values
datum_happens-is None now last older = refl
datum_happens-is (Some event) now last older = refl

pub datum_times-more : (before : Option ℕ) (datum : Option Event) (now last : Snapshot) (older : List Snapshot)
    → datum_times_since before datum (now ∷ last ∷ older) ≡ grown (has_datum datum last.values now.values) now.time (datum_times_since before datum (last ∷ older))
datum_times-more before None now last older = refl
datum_times-more before (Some event) now last older = refl

-- the moment by the times up to the snapshot before
abbrev pub moment_by : ℕ → Events → List ℕ → List ℕ → Moment
moment_by time events rs ds = record {
  time = time;
  refer = events.refer;
  datum = events.datum;
  back = events.back;
  refer_times = grown events.refer time rs;
  datum_times = grown events.datum time ds;
  refer_before = rs;
}

pub moment-is : (before : Latest) (check : AdjustedCheck) (now last : Snapshot) (older : List Snapshot)
    → moment_since before check now (last ∷ older)
    ≡ moment_by now.time (events_at check last.values now.values) (event_times_since before.refer check.refer (last ∷ older)) (datum_times_since before.datum check.datum (last ∷ older))
moment-is before check now last older =
    ap (λ b. with_datum b (datum_times_since before.datum check.datum (now ∷ last ∷ older))) (datum_happens-is check.datum now last older)
    ∙ ap (with_datum (has_datum check.datum last.values now.values)) (datum_times-more before.datum check.datum now last older)
  where
    with_datum : Bool → List ℕ → Moment
    with_datum b ds = record {
      time = now.time;
      refer = has_event check.refer last.values now.values;
      datum = b;
      back = has_opposite check.refer last.values now.values;
      refer_times = grown (has_event check.refer last.values now.values) now.time (event_times_since before.refer check.refer (last ∷ older));
      datum_times = ds;
      refer_before = event_times_since before.refer check.refer (last ∷ older);
    }
