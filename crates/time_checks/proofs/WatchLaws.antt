-- What checks look at, by the numbers of changes, is what the definitions say of edges.
use Rattle.std.specs.Prelude.{◌≡◌, ℕ, ◌<◌, ◌&&◌, Bool, true, false, List, [], ◌∷◌, length, map, Option, Some, None, IfSome, is_none, slice_index_or, refl}
use Rattle.std.specs.Option.{option_map}
use Rattle.std.proofs.Common.{sym, ◌∙◌, ap, subst}
use Rattle.std.proofs.lemmas.List.{get_or-map}
use Rattle.cond_expr.specs.Tree.{Cond}
use Rattle.cond_expr.specs.Values.{AreBelow}
use Rattle.sg_logic.specs.declared.edges.Edge.{Edge}
use Rattle.sg_logic.specs.declared.values.Value.{Value}
use Rattle.sg_logic.specs.declared.values.Value.TheVariants.{Zero, One, X, Z}
use Rattle.sg_circuit.specs.declared.checks.CheckKind.{CheckKind}
use Rattle.sg_circuit.specs.declared.checks.CheckKind.TheVariants as kind
use Rattle.sg_circuit.specs.declared.checks.Event.{Event}
use Rattle.sg_model.specs.Values.{value_at}
use Rattle.time_checks.specs.declared.adjusted.AdjustedCheck as code
use Rattle.time_checks.specs.declared.change_sets.ChangeSet.{ChangeSet}
use Rattle.time_checks.specs.declared.events.Events.{Events}
use Rattle.time_checks.specs.declared.recent.Recent.{Recent}
use Rattle.time_checks.specs.declared.watches.Watch.{Watch}
use Rattle.time_checks.specs.Adjusted.{AdjustedCheck}
use Rattle.time_checks.specs.AdjustedSeen.{adjusted_seen, all_seen, event_at}
use Rattle.time_checks.specs.ChangeSets.{change_in, change_number, edge_set, no_changes, opposite_set}
use Rattle.time_checks.specs.Checking.{check_at}
use Rattle.time_checks.specs.Events.{has_event, has_opposite, is_enabled, is_of_edge}
use Rattle.time_checks.specs.Kept.{events_at, found_at, has_datum, instant_of, violated_kept}
use Rattle.time_checks.specs.Parts.{parts_of}
use Rattle.time_checks.specs.Violations.{all_from, limit_at, listed, window_at}
use Rattle.time_checks.specs.Watching.{asks_back, back_set, change_number_at, datum_net, datum_set, events_needed, is_datum_free, is_happening, net_by, watch_by}
use Rattle.time_checks.specs.Within.{IsCheckWithin, IsEventWithin}
use Rattle.time_checks.proofs.EventLaws.{no_change}

-- an edge reads z as x; without an edge both changes are events
zero_z : (edge : Option Edge) → is_of_edge edge Zero X ≡ is_of_edge edge Zero Z
zero_z None = refl
zero_z (Some edge) = refl

z_one : (edge : Option Edge) → is_of_edge edge X One ≡ is_of_edge edge Z One
z_one None = refl
z_one (Some edge) = refl

one_z : (edge : Option Edge) → is_of_edge edge One X ≡ is_of_edge edge One Z
one_z None = refl
one_z (Some edge) = refl

z_zero : (edge : Option Edge) → is_of_edge edge X Zero ≡ is_of_edge edge Z Zero
z_zero None = refl
z_zero (Some edge) = refl

z_x : (edge : Option Edge) → is_of_edge edge X Z ≡ is_of_edge edge Z X
z_x None = refl
z_x (Some edge) = refl

stays : (edge : Option Edge) (v : Value) → false ≡ is_of_edge edge v v
stays edge v = sym (no_change edge v v refl)

-- a change is in the set of an edge where it is of the edge
pub edge-in : (edge : Option Edge) (from to : Value) → change_in (edge_set edge) (change_number from to) ≡ is_of_edge edge from to
edge-in edge Zero Zero = stays edge Zero
edge-in edge Zero One = refl
edge-in edge Zero X = refl
edge-in edge Zero Z = zero_z edge
edge-in edge One Zero = refl
edge-in edge One One = stays edge One
edge-in edge One X = refl
edge-in edge One Z = one_z edge
edge-in edge X Zero = refl
edge-in edge X One = refl
edge-in edge X X = stays edge X
edge-in edge X Z = refl
edge-in edge Z Zero = z_zero edge
edge-in edge Z One = z_one edge
edge-in edge Z X = z_x edge
edge-in edge Z Z = stays edge Z

opposite-in : (edge : Option Edge) (from to : Value) → change_in (opposite_set edge) (change_number from to) ≡ is_of_edge edge to from
opposite-in edge Zero Zero = stays edge Zero
opposite-in edge Zero One = refl
opposite-in edge Zero X = refl
opposite-in edge Zero Z = z_zero edge
opposite-in edge One Zero = refl
opposite-in edge One One = stays edge One
opposite-in edge One X = refl
opposite-in edge One Z = z_one edge
opposite-in edge X Zero = refl
opposite-in edge X One = refl
opposite-in edge X X = stays edge X
opposite-in edge X Z = refl
opposite-in edge Z Zero = zero_z edge
opposite-in edge Z One = one_z edge
opposite-in edge Z X = sym (z_x edge)
opposite-in edge Z Z = stays edge Z

none-in : (from to : Value) → change_in no_changes (change_number from to) ≡ false
none-in Zero Zero = refl
none-in Zero One = refl
none-in Zero X = refl
none-in Zero Z = refl
none-in One Zero = refl
none-in One One = refl
none-in One X = refl
none-in One Z = refl
none-in X Zero = refl
none-in X One = refl
none-in X X = refl
none-in X Z = refl
none-in Z Zero = refl
none-in Z One = refl
none-in Z X = refl
none-in Z Z = refl

back-in : (k : CheckKind) (edge : Option Edge) (from to : Value) → change_in (back_set k edge) (change_number from to) ≡ (asks_back k && is_of_edge edge to from)
back-in kind.Width edge from to = opposite-in edge from to
back-in kind.Setup edge from to = none-in from to
back-in kind.Hold edge from to = none-in from to
back-in kind.Recovery edge from to = none-in from to
back-in kind.Removal edge from to = none-in from to
back-in kind.Skew edge from to = none-in from to
back-in kind.Setuphold edge from to = none-in from to
back-in kind.Recrem edge from to = none-in from to
back-in kind.Period edge from to = none-in from to

-- so what is looked up is what happens
abbrev pub happening : Bool → Bool → Bool → Events
happening refer datum back = record { refer = refer; datum = datum; back = back }

pub refer-is : (event : Event) (last now : List Value) → (change_in (edge_set event.edge) (change_number_at last now event.net) && is_enabled event.condition now) ≡ has_event event last now
refer-is event last now = ap (λ b. b && is_enabled event.condition now) (edge-in event.edge (value_at last event.net) (value_at now event.net))

pub datum-is : (datum : Option Event) (refer : ℕ) (last now : List Value) → is_happening (datum_set datum) (change_number_at last now (net_by datum refer)) datum now ≡ has_datum datum last now
datum-is None refer last now = refl
datum-is (Some event) refer last now = refer-is event last now

pub back-is : (check : AdjustedCheck) (last now : List Value) → change_in (back_set check.kind check.refer.edge) (change_number_at last now check.refer.net) ≡ (asks_back check.kind && has_opposite check.refer last now)
back-is check last now = back-in check.kind check.refer.edge (value_at last check.refer.net) (value_at now check.refer.net)

happening-seen : (set : ChangeSet) (number net : ℕ) (datum : Option Event) (now : List Value) → is_happening set number datum now ≡ is_happening set number (option_map (event_at net) datum) now
happening-seen set number net None now = refl
happening-seen set number net (Some event) now = refl

pub events-exact : (check : code.AdjustedCheck) (watch : Watch) (last now : List Value) (rc dc : ℕ) (r d b : Bool) → watch ≡ watch_by (adjusted_seen check) → rc ≡ change_number_at last now watch.refer → dc ≡ change_number_at last now watch.datum
    → r ≡ (change_in watch.refer_changes rc && is_enabled check.timing.now.refer.condition now) → d ≡ is_happening watch.datum_changes dc check.timing.now.datum now → b ≡ change_in watch.back_changes rc
    → happening r d b ≡ events_needed (adjusted_seen check) last now
events-exact check watch last now rc dc r d b w hrc hdc hr hd hb =
    let seen : AdjustedCheck = adjusted_seen check in
    let r' : r ≡ has_event seen.refer last now =
    hr ∙ (ap (λ n. change_in watch.refer_changes n && is_enabled seen.refer.condition now) hrc
    ∙ (ap (λ (k : Watch). change_in k.refer_changes (change_number_at last now k.refer) && is_enabled seen.refer.condition now) w ∙ refer-is seen.refer last now)) in
    let d' : d ≡ has_datum seen.datum last now =
    hd ∙ (ap (λ n. is_happening watch.datum_changes n check.timing.now.datum now) hdc
    ∙ (ap (λ (k : Watch). is_happening k.datum_changes (change_number_at last now k.datum) check.timing.now.datum now) w
    ∙ (happening-seen (datum_set seen.datum) (change_number_at last now (datum_net seen)) check.datum check.timing.now.datum now ∙ datum-is seen.datum seen.refer.net last now))) in
    let b' : b ≡ (asks_back seen.kind && has_opposite seen.refer last now) =
    hb ∙ (ap (λ n. change_in watch.back_changes n) hrc ∙ (ap (λ (k : Watch). change_in k.back_changes (change_number_at last now k.refer)) w ∙ back-is seen last now)) in
    ap (λ x. happening x d b) r' ∙ (ap (λ x. happening (has_event seen.refer last now) x b) d' ∙ ap (happening (has_event seen.refer last now) (has_datum seen.datum last now)) b')

-- what a watch says of conditions and nets
free_refer : (condition : Option (Cond ℕ)) (rest : Bool) (values : List Value) → (is_none condition && rest) ≡ true → is_enabled condition values ≡ true
free_refer None rest values e = refl
free_refer (Some c) rest values e = cc

free_datum : (first : Bool) (net : ℕ) (datum : Option Event) (values : List Value) → (first && is_datum_free (option_map (event_at net) datum)) ≡ true → IfSome datum (λ event. is_enabled event.condition values ≡ true)
free_datum first net None values e = tt
free_datum first net (Some event) values e = free_refer event.condition true values (and_right first (is_none event.condition) e)
  where
    and_right : (a b : Bool) → (a && b) ≡ true → (b && true) ≡ true
    and_right true true e = refl
    and_right true false e = cc
    and_right false b e = cc

pub refer-free : (check : code.AdjustedCheck) (watch : Watch) (values : List Value) → watch ≡ watch_by (adjusted_seen check) → watch.is_free ≡ true → is_enabled check.timing.now.refer.condition values ≡ true
refer-free check watch values w e = free_refer check.timing.now.refer.condition (is_datum_free (adjusted_seen check).datum) values (sym (ap (λ (k : Watch). k.is_free) w) ∙ e)

pub datum-free : (check : code.AdjustedCheck) (watch : Watch) (values : List Value) → watch ≡ watch_by (adjusted_seen check) → watch.is_free ≡ true → IfSome check.timing.now.datum (λ event. is_enabled event.condition values ≡ true)
datum-free check watch values w e = free_datum (is_none check.timing.now.refer.condition) check.datum check.timing.now.datum values (sym (ap (λ (k : Watch). k.is_free) w) ∙ e)

datum_conditions : (net nets : ℕ) (datum : Option Event) → IfSome (option_map (event_at net) datum) (λ e. IsEventWithin e nets) → IfSome datum (λ event. IfSome event.condition (λ c. AreBelow nets c))
datum_conditions net nets None h = tt
datum_conditions net nets (Some event) h = h.condition

pub datum-conditions : (check : code.AdjustedCheck) (nets : ℕ) → IsCheckWithin (adjusted_seen check) nets → IfSome check.timing.now.datum (λ event. IfSome event.condition (λ c. AreBelow nets c))
datum-conditions check nets h = datum_conditions check.datum nets check.timing.now.datum h.datum

pub refer-within : (check : AdjustedCheck) (watch : Watch) (nets : ℕ) → watch ≡ watch_by check → IsCheckWithin check nets → watch.refer < nets
refer-within check watch nets w h = subst (λ (k : Watch). k.refer < nets) (sym w) h.refer.net

pub datum-within : (check : AdjustedCheck) (watch : Watch) (nets : ℕ) → watch ≡ watch_by check → IsCheckWithin check nets → watch.datum < nets
datum-within check watch nets w h = subst (λ (k : Watch). k.datum < nets) (sym w) (at check.datum h.datum)
  where
    at : (datum : Option Event) → IfSome datum (λ e. IsEventWithin e nets) → net_by datum check.refer.net < nets
    at None m = h.refer.net
    at (Some event) m = m.net

-- the parts of a check that doesn't ask for opposites don't look at them
by_kind : (k : CheckKind) (number time : ℕ) (check : AdjustedCheck) (r d b : Bool) (latest : Recent)
    → all_from (λ place part. listed number check part (limit_at check place) (violated_kept part (window_at check place) check.threshold (instant_of time (happening r d (asks_back k && b)) latest))) 0 (parts_of k)
    ≡ all_from (λ place part. listed number check part (limit_at check place) (violated_kept part (window_at check place) check.threshold (instant_of time (happening r d b) latest))) 0 (parts_of k)
by_kind kind.Width number time check r d b latest = refl
by_kind kind.Setup number time check r d b latest = refl
by_kind kind.Hold number time check r d b latest = refl
by_kind kind.Recovery number time check r d b latest = refl
by_kind kind.Removal number time check r d b latest = refl
by_kind kind.Skew number time check r d b latest = refl
by_kind kind.Setuphold number time check r d b latest = refl
by_kind kind.Recrem number time check r d b latest = refl
by_kind kind.Period number time check r d b latest = refl

pub found-needed : (number time : ℕ) (check : AdjustedCheck) (last now : List Value) (latest : Recent)
    → found_at number check (instant_of time (events_needed check last now) latest) ≡ found_at number check (instant_of time (events_at check last now) latest)
found-needed number time check last now latest = by_kind check.kind number time check (has_event check.refer last now) (has_datum check.datum last now) (has_opposite check.refer last now) latest

-- what each of some checks looks at
pub watch-at : (checks : List AdjustedCheck) (watches : List Watch) (number : ℕ) (d : Watch) → watches ≡ map (λ c. watch_by c) checks → number < length checks → slice_index_or watches number d ≡ watch_by (check_at checks number)
watch-at checks watches number d e l = ap (λ ws. slice_index_or ws number d) e ∙ get_or-map (λ c. watch_by c) checks number _ d l

pub watch-of : (checks : List code.AdjustedCheck) (watches : List Watch) (number : ℕ) (d : Watch) (check : code.AdjustedCheck) → watches ≡ map (λ c. watch_by c) (all_seen checks) → number < length checks → check ≡ slice_index_or checks number check
    → slice_index_or watches number d ≡ watch_by (adjusted_seen check)
watch-of checks watches number d check e l is =
    ap (λ ws. slice_index_or ws number d) (e ∙ twice checks)
    ∙ (get_or-map (λ c. watch_by (adjusted_seen c)) checks number check d l ∙ ap (λ c. watch_by (adjusted_seen c)) (sym is))
  where
    twice : (cs : List code.AdjustedCheck) → map (λ c. watch_by c) (all_seen cs) ≡ map (λ c. watch_by (adjusted_seen c)) cs
    twice [] = refl
    twice (c ∷ cs) = ap (λ ws. watch_by (adjusted_seen c) ∷ ws) (twice cs)
