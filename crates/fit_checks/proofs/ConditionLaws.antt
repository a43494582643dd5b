-- The violations of a check with a condition of its time stamp and one of its time check are those of the checks that are written for it.
use Rattle.std.specs.Prelude.{◌≡◌, ℕ, ℤ, pos, Bool, true, false, ◌&&◌, not, if◌then◌else◌, List, [], ◌∷◌, ◌++◌, Option, Some, None, refl, slice_index_or, ◌⊎◌}
use Rattle.std.specs.Option.{option_map}
use Rattle.std.proofs.Common.{sym, ◌∙◌, ap, inl, inr}
use Rattle.std.proofs.lemmas.List.{append-nil}
use Rattle.sg_logic.specs.declared.values.Value.{Value}
use Rattle.sg_logic.specs.declared.values.Value.TheVariants.{Zero, One, X, Z}
use Rattle.sg_logic.specs.Gate.{and_value, inverse, is_one, is_zero}
use Rattle.sg_logic.specs.Values.{is_same}
use Rattle.cond_expr.specs.Tree.{Cond, binary, constant}
use Rattle.cond_expr.specs.Values.{bit, enables, holds, is_equality, value_in}
use Rattle.cond_expr.specs.declared.tokens.Op.TheVariants.{CaseUnequal}
use Rattle.sg_circuit.specs.declared.checks.CheckKind.{CheckKind}
use Rattle.sg_circuit.specs.declared.checks.CheckKind.TheVariants as kind
use Rattle.sg_circuit.specs.declared.checks.CheckTiming.{CheckTiming}
use Rattle.sg_circuit.specs.declared.checks.Event.{Event}
use Rattle.sg_model.specs.Machine.{Snapshot, Violation}
use Rattle.sg_model.specs.Values.{value_at}
use Rattle.time_checks.specs.declared.violations.Part.{Part}
use Rattle.time_checks.specs.declared.violations.Part.TheVariants.{Setup, Hold, Recovery, Removal}
use Rattle.time_checks.specs.Adjusted.{AdjustedCheck, plain_check}
use Rattle.time_checks.specs.Events.{at_latest, datum_happens, datum_times, event_times, has_event, has_opposite, is_enabled, is_of_edge, moment}
use Rattle.time_checks.specs.Parts.{parts_of}
use Rattle.time_checks.specs.Times.{grown}
use Rattle.time_checks.specs.Violations.{all_from, limit_at, listed, window_at}
use Rattle.time_checks.specs.Windows.{Moment, Pair, violated}
use Rattle.fit_checks.specs.Conditioned.{Conditions, conditioned, counted_times, counts, datum_counted, datum_counts, of_datum, of_refer, part_moment}
use Rattle.fit_checks.specs.Halves.{ConditionsAreKept, IsTwofold, both, definite, first_half, of_check, on_both, part_check, second_half, under}

-- ---- one condition for two

and-one : (a b : Value) → is_one (and_value (a ∷ b ∷ [])) ≡ (is_one a && is_one b)
and-one Zero Zero = refl
and-one Zero One = refl
and-one Zero X = refl
and-one Zero Z = refl
and-one One Zero = refl
and-one One One = refl
and-one One X = refl
and-one One Z = refl
and-one X Zero = refl
and-one X One = refl
and-one X X = refl
and-one X Z = refl
and-one Z Zero = refl
and-one Z One = refl
and-one Z X = refl
and-one Z Z = refl

isnt-zero : (v : Value) → is_one (inverse (bit (is_same v Zero))) ≡ not (is_zero v)
isnt-zero Zero = refl
isnt-zero One = refl
isnt-zero X = refl
isnt-zero Z = refl

definite-enables : (values : List Value) (c : Cond ℕ) → is_one (value_in values (definite c)) ≡ enables values c
definite-enables values c = at (is_equality c)
  where
    at : (b : Bool) → is_one (value_in values (if b then binary CaseUnequal c (constant Zero) else c)) ≡ (if b then holds values c else is_one (value_in values c))
    at true = isnt-zero (value_in values c)
    at false = refl

and-true : (b : Bool) → b ≡ (b && true)
and-true true = refl
and-true false = refl

and-and : (a b c : Bool) → (a && (b && c)) ≡ ((a && b) && c)
and-and true b c = refl
and-and false b c = refl

pub both-enabled : (a b : Option (Cond ℕ)) (values : List Value) → is_enabled (both a b) values ≡ (is_enabled a values && is_enabled b values)
both-enabled None b values = refl
both-enabled (Some a) None values = and-true (enables values a)
both-enabled (Some a) (Some b) values =
    and-one (value_in values (definite a)) (value_in values (definite b))
    ∙ (ap (λ x. x && is_one (value_in values (definite b))) (definite-enables values a) ∙ ap (λ x. enables values a && x) (definite-enables values b))

-- ---- events

event-under : (c : Option (Cond ℕ)) (e : Event) (last now : List Value) → has_event (under c e) last now ≡ counts c e last now
event-under c e last now =
    let changes : Bool = is_of_edge e.edge (value_at last e.net) (value_at now e.net) in
    ap (λ b. changes && b) (both-enabled e.condition c now) ∙ and-and changes (is_enabled e.condition now) (is_enabled c now)

latest-under : (c : Option (Cond ℕ)) (e : Event) (snapshots : List Snapshot) → at_latest (has_event (under c e)) snapshots ≡ at_latest (counts c e) snapshots
latest-under c e [] = refl
latest-under c e (first ∷ []) = refl
latest-under c e (now ∷ (last ∷ older)) = event-under c e last.values now.values

times-under : (c : Option (Cond ℕ)) (e : Event) (snapshots : List Snapshot) → event_times (under c e) snapshots ≡ counted_times c e snapshots
times-under c e [] = refl
times-under c e (now ∷ older) =
    ap (λ b. grown b now.time (event_times (under c e) older)) (latest-under c e (now ∷ older))
    ∙ ap (λ ts. grown (at_latest (counts c e) (now ∷ older)) now.time ts) (times-under c e older)

datum-under : (c : Option (Cond ℕ)) (datum : Option Event) (snapshots : List Snapshot) → datum_happens (option_map (under c) datum) snapshots ≡ datum_counts c datum snapshots
datum-under c None snapshots = refl
datum-under c (Some e) snapshots = latest-under c e snapshots

datum_times-under : (c : Option (Cond ℕ)) (datum : Option Event) (snapshots : List Snapshot) → datum_times (option_map (under c) datum) snapshots ≡ datum_counted c datum snapshots
datum_times-under c None snapshots = refl
datum_times-under c (Some e) snapshots = times-under c e snapshots

-- ---- moments

abbrev moment_with : ℕ → (refer datum back : Bool) → (refer_times datum_times refer_before : List ℕ) → Moment
moment_with time refer datum back rs ds before = record { time = time; refer = refer; datum = datum; back = back; refer_times = rs; datum_times = ds; refer_before = before }

-- a check with these terminals sees what the part sees
moment-under : (c : Conditions) (part : Part) (check made : AdjustedCheck) (now : Snapshot) (older : List Snapshot)
    → made.refer ≡ under (of_refer c part) check.refer → made.datum ≡ option_map (under (of_datum c part)) check.datum
    → moment made now older ≡ part_moment c check part now older
moment-under c part check made now older r d =
    ap (λ e. by e made.datum) r ∙ (ap (λ e. by (under (of_refer c part) check.refer) e) d ∙ inside)
  where
    by : Event → Option Event → Moment
    by refer datum =
        moment_with now.time (at_latest (has_event refer) (now ∷ older)) (datum_happens datum (now ∷ older)) (at_latest (has_opposite refer) (now ∷ older))
        (event_times refer (now ∷ older)) (datum_times datum (now ∷ older)) (event_times refer older)

    refer : Option (Cond ℕ)
    refer = of_refer c part

    datum : Option (Cond ℕ)
    datum = of_datum c part

    all : List Snapshot
    all = now ∷ older

    back : Bool
    back = at_latest (has_opposite check.refer) all

    inside : by (under refer check.refer) (option_map (under datum) check.datum) ≡ part_moment c check part now older
    inside =
        ap (λ x. moment_with now.time x (datum_happens (option_map (under datum) check.datum) all) back (event_times (under refer check.refer) all) (datum_times (option_map (under datum) check.datum) all) (event_times (under refer check.refer) older)) (latest-under refer check.refer all)
        ∙ (ap (λ x. moment_with now.time (at_latest (counts refer check.refer) all) x back (event_times (under refer check.refer) all) (datum_times (option_map (under datum) check.datum) all) (event_times (under refer check.refer) older)) (datum-under datum check.datum all)
        ∙ (ap (λ x. moment_with now.time (at_latest (counts refer check.refer) all) (datum_counts datum check.datum all) back x (datum_times (option_map (under datum) check.datum) all) (event_times (under refer check.refer) older)) (times-under refer check.refer all)
        ∙ (ap (λ x. moment_with now.time (at_latest (counts refer check.refer) all) (datum_counts datum check.datum all) back (counted_times refer check.refer all) x (event_times (under refer check.refer) older)) (datum_times-under datum check.datum all)
        ∙ ap (λ x. moment_with now.time (at_latest (counts refer check.refer) all) (datum_counts datum check.datum all) back (counted_times refer check.refer all) (datum_counted datum check.datum all) x) (times-under refer check.refer older))))

-- ---- parts

listed-same : (number : ℕ) (made check : AdjustedCheck) (part : Part) (limit : ℤ) (pair : Option Pair) → made.refer_delay ≡ check.refer_delay → made.datum_delay ≡ check.datum_delay
    → listed number made part limit pair ≡ listed number check part limit pair
listed-same number made check part limit None r d = refl
listed-same number made check part limit (Some times) r d = rw r (rw d refl)

-- what is told of a part of a check with conditions
abbrev told : ℕ → Conditions → AdjustedCheck → Part → (limit window : ℤ) → ℕ → Snapshot → List Snapshot → List Violation
told number c check part limit window threshold now older = listed number check part limit (violated part window threshold (part_moment c check part now older))

told-under : (number : ℕ) (c : Conditions) (part : Part) (check made : AdjustedCheck) (limit window : ℤ) (threshold : ℕ) (now : Snapshot) (older : List Snapshot)
    → made.refer ≡ under (of_refer c part) check.refer → made.datum ≡ option_map (under (of_datum c part)) check.datum
    → made.refer_delay ≡ check.refer_delay → made.datum_delay ≡ check.datum_delay
    → listed number made part limit (violated part window threshold (moment made now older)) ≡ told number c check part limit window threshold now older
told-under number c part check made limit window threshold now older r d s e =
    ap (λ m. listed number made part limit (violated part window threshold m)) (moment-under c part check made now older r d)
    ∙ listed-same number made check part limit (violated part window threshold (part_moment c check part now older)) s e

two_parts : {A B : Type 0} (f g : ℕ → A → List B) (xs : List A) (p q : A) → xs ≡ p ∷ q ∷ [] → f 0 p ≡ g 0 p → f 1 q ≡ g 1 q → all_from f 0 xs ≡ all_from g 0 xs
two_parts f g xs p q e h k =
    ap (all_from f 0) e ∙ (ap (λ x. x ++ (f 1 q ++ [])) h ∙ (ap (λ x. g 0 p ++ (x ++ [])) k ∙ sym (ap (all_from g 0) e)))

-- ---- the same condition

kept-same : (number : ℕ) (condition : Option (Cond ℕ)) (check : AdjustedCheck) (snapshots : List Snapshot) → (check.kind ≡ kind.Setuphold) ⊎ (check.kind ≡ kind.Recrem)
    → of_check number (on_both condition check) snapshots ≡ conditioned number (record { stamp = condition; check = condition }) check snapshots
kept-same number condition check [] k = refl
kept-same number condition check (now ∷ older) k = at k
  where
    c : Conditions
    c = record { stamp = condition; check = condition }

    made : AdjustedCheck
    made = on_both condition check

    f : ℕ → Part → List Violation
    f place part = listed number made part (limit_at made place) (violated part (window_at made place) made.threshold (moment made now older))

    g : ℕ → Part → List Violation
    g place part = listed number check part (limit_at check place) (violated part (window_at check place) check.threshold (part_moment c check part now older))

    at : (check.kind ≡ kind.Setuphold) ⊎ (check.kind ≡ kind.Recrem) → all_from f 0 (parts_of check.kind) ≡ all_from g 0 (parts_of check.kind)
    at (inl e) = two_parts f g (parts_of check.kind) Setup Hold (ap parts_of e)
        (told-under number c Setup check made (limit_at check 0) (window_at check 0) check.threshold now older refl refl refl refl)
        (told-under number c Hold check made (limit_at check 1) (window_at check 1) check.threshold now older refl refl refl refl)
    at (inr e) = two_parts f g (parts_of check.kind) Recovery Removal (ap parts_of e)
        (told-under number c Recovery check made (limit_at check 0) (window_at check 0) check.threshold now older refl refl refl refl)
        (told-under number c Removal check made (limit_at check 1) (window_at check 1) check.threshold now older refl refl refl refl)

-- ---- two checks

kept-split : (number : ℕ) (c : Conditions) (t : CheckTiming) (snapshots : List Snapshot) → IsTwofold t
    → of_check number (plain_check (first_half c t)) snapshots ++ of_check number (plain_check (second_half c t)) snapshots ≡ conditioned number c (plain_check t) snapshots
kept-split number c t [] h = refl
kept-split number c t (now ∷ older) h = at h.kind
  where
    check : AdjustedCheck
    check = plain_check t

    first : ℤ
    first = slice_index_or t.limits 0 (pos 0)

    second : ℤ
    second = slice_index_or t.limits 1 (pos 0)

    one : (k : CheckKind) → Part → ℤ → List Violation
    one k part limit = of_check number (plain_check (part_check c t k part limit)) (now ∷ older)

    g : ℕ → Part → List Violation
    g place part = listed number check part (limit_at check place) (violated part (window_at check place) check.threshold (part_moment c check part now older))

    joined : (xs ys us vs : List Violation) → xs ≡ us → ys ≡ vs → (xs ++ []) ++ (ys ++ []) ≡ us ++ (vs ++ [])
    joined xs ys us vs p q = ap (λ x. x ++ (ys ++ [])) (append-nil xs) ∙ (ap (λ x. x ++ (ys ++ [])) p ∙ ap (λ x. us ++ (x ++ [])) q)

    made : CheckKind → Part → ℤ → AdjustedCheck
    made k part limit = plain_check (part_check c t k part limit)

    halves : CheckKind → List Violation
    halves k = of_check number (plain_check (first_half c (record t { kind = k }))) (now ∷ older) ++ of_check number (plain_check (second_half c (record t { kind = k }))) (now ∷ older)

    at : (t.kind ≡ kind.Setuphold) ⊎ (t.kind ≡ kind.Recrem) → halves t.kind ≡ all_from g 0 (parts_of t.kind)
    at (inl e) =
        ap halves e
        ∙ (joined (listed number (made kind.Setup Setup first) Setup first (violated Setup first 0 (moment (made kind.Setup Setup first) now older)))
        (listed number (made kind.Hold Hold second) Hold second (violated Hold second 0 (moment (made kind.Hold Hold second) now older)))
        (g 0 Setup) (g 1 Hold)
        (told-under number c Setup check (made kind.Setup Setup first) first first 0 now older refl refl refl refl)
        (told-under number c Hold check (made kind.Hold Hold second) second second 0 now older refl refl refl refl)
        ∙ sym (ap (λ k. all_from g 0 (parts_of k)) e))
    at (inr e) =
        ap halves e
        ∙ (joined (listed number (made kind.Recovery Recovery first) Recovery first (violated Recovery first 0 (moment (made kind.Recovery Recovery first) now older)))
        (listed number (made kind.Removal Removal second) Removal second (violated Removal second 0 (moment (made kind.Removal Removal second) now older)))
        (g 0 Recovery) (g 1 Removal)
        (told-under number c Recovery check (made kind.Recovery Recovery first) first first 0 now older refl refl refl refl)
        (told-under number c Removal check (made kind.Removal Removal second) second second 0 now older refl refl refl refl)
        ∙ sym (ap (λ k. all_from g 0 (parts_of k)) e))

pub conditions-kept : ConditionsAreKept
conditions-kept = record { same = kept-same; split = kept-split }
