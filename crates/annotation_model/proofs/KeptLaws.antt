-- What isn't too large stays within bounds: delays and limits below 2^60 ticks, and reject limits at most as long as error limits.
use Rattle.std.specs.Prelude.{◌≡◌, refl, ℕ, suc, ◌<◌, ◌≤◌, ◌^◌, ◌||◌, not, nat_lt, nat_le, max, ℤ, pos, negsuc, unsigned_abs, Bool, true, false, if◌then◌else◌}
use Rattle.std.specs.Prelude.{List, [], ◌∷◌, length, map, Option, Some, None}
use Rattle.std.specs.List.{AllByRecursion}
use Rattle.std.proofs.Common.{ap, sym, ◌∙◌, subst, arith, inl, inr}
use Rattle.std.proofs.Math.Nat.{max-eq_right, max-eq_left, le-max_left}
use Rattle.std.proofs.lemmas.Bool.{cases_lt, not-false, or_parts}
use Rattle.std.proofs.lemmas.List.{length-map}
use Rattle.std.proofs.lemmas.List.Elements.{All-from_recursion, recursion_from_All}
use Rattle.std.proofs.lemmas.Nat.{pow_pos}
use Rattle.sg_time.specs.Spelling.{Number}
use Rattle.sg_time.specs.Ticks.{above}
use Rattle.sg_circuit.specs.Timings.{Timing}
use Rattle.sg_circuit.specs.Closed.{IsTiming, AreTimings}
use Rattle.sdf_tree.specs.Meant.{EntryKind, io_path, device, port_delay, interconnect, path_pulse, a_check, skipped_entry, Entry}
use Rattle.annotation_model.specs.Applied.{Grid, is_large, are_large, limits_from, Change, sum_of, new_limits, changed, is_change_large, changed_each, is_each_large}
use Rattle.annotation_model.specs.Applied.{lesser, greater, with_x, spread, makes_x, with_changes, limited, with_pulses, percent, percents, with_percents, is_percent_large}
use Rattle.annotation_model.specs.Applied.{changes_of, pulse_limits, pulse_numbers, applied, applied_kind, is_too_large, is_kind_large}
use Rattle.annotation_model.proofs.TableLaws.{below_if}

-- ---- numbers

pub small : (n : ℤ) → is_large n ≡ false → unsigned_abs n < 2 ^ 60
small n e = below_if (unsigned_abs n) (2 ^ 60) (not-false (nat_lt (unsigned_abs n) (2 ^ 60)) e)

pub above-small : (n : ℤ) → unsigned_abs n < 2 ^ 60 → above n < 2 ^ 60
above-small (pos n) l = l
above-small (negsuc n) l = pow_pos 60

max-below : (a b k : ℕ) → a < k → b < k → max a b < k
max-below a b k l m = elim (cases_lt a b) [
  | inl less ↦ subst (λ n. n < k) (sym (max-eq_right (let h : a ≤ b = omega (arith, less) in h))) m
  | inr more ↦ subst (λ n. n < k) (sym (max-eq_left more)) l
]

-- ---- limits

pub record AreInBounds (l : ℕ × ℕ) : Type 0 where
  pub ordered : l.0 ≤ l.1
  pub error : l.1 < 2 ^ 60

in-bounds : (l : ℤ × ℤ) → are_large (Some l) ≡ false → AreInBounds (limits_from l)
in-bounds l e = let parts = or_parts (is_large l.0) (is_large l.1) e in record {
  ordered = le-max_left (above l.0) (above l.1);
  error = max-below (above l.0) (above l.1) (2 ^ 60) (above-small l.0 (small l.0 parts.0)) (above-small l.1 (small l.1 parts.1));
}

timing-with : (delay : ℕ) (l : ℕ × ℕ) → delay < 2 ^ 60 → AreInBounds l → IsTiming (record { delay = delay; limits = Some l })
timing-with delay l d b = record { delay = d; ordered = b.ordered; error = b.error }

-- ---- one transition

changed-kept : (increment : Bool) (c : Option Change) (t : Timing) → IsTiming t → is_change_large increment c t ≡ false → IsTiming (changed increment c t)
changed-kept increment None t is e = is
changed-kept increment (Some c) t is e =
    let first = or_parts (is_large c.delay) (are_large c.limits || is_large (sum_of increment c.delay t.delay)) e in
    let second = or_parts (are_large c.limits) (is_large (sum_of increment c.delay t.delay)) first.1 in
    with_limits c.limits second.0 (above-small (sum_of increment c.delay t.delay) (small (sum_of increment c.delay t.delay) second.1))
  where
    with_limits : (l : Option (ℤ × ℤ)) → are_large l ≡ false → above (sum_of increment c.delay t.delay) < 2 ^ 60
        → IsTiming (record { delay = above (sum_of increment c.delay t.delay); limits = new_limits l t.limits })
    with_limits None f d = record { delay = d; ordered = is.ordered; error = is.error }
    with_limits (Some l) f d = timing-with (above (sum_of increment c.delay t.delay)) (limits_from l) d (in-bounds l f)

-- ---- the transitions one after another

each-kept : (increment : Bool) (cs : List (Option Change)) (ts : List Timing) → AllByRecursion IsTiming ts → is_each_large increment cs ts ≡ false
    → AllByRecursion IsTiming (changed_each increment cs ts)
each-kept increment [] ts is e = is
each-kept increment (c ∷ cs) [] is e = is
each-kept increment (c ∷ cs) (t ∷ ts) is e =
    let parts = or_parts (is_change_large increment c t) (is_each_large increment cs ts) e in
    (changed-kept increment c t is.0 parts.0, each-kept increment cs ts is.1 parts.1)

each-length : (increment : Bool) (cs : List (Option Change)) (ts : List Timing) → length (changed_each increment cs ts) ≡ length ts
each-length increment [] ts = refl
each-length increment (c ∷ cs) [] = refl
each-length increment (c ∷ cs) (t ∷ ts) = ap suc (each-length increment cs ts)

one-of : (b : Bool) (x y : Timing) → IsTiming x → IsTiming y → IsTiming (if b then x else y)
one-of true x y p q = p
one-of false x y p q = q

lesser-kept : (a b : Timing) → IsTiming a → IsTiming b → IsTiming (lesser a b)
lesser-kept a b p q = one-of (nat_le a.delay b.delay) a b p q

greater-kept : (a b : Timing) → IsTiming a → IsTiming b → IsTiming (greater a b)
greater-kept a b p q = one-of (nat_le b.delay a.delay) a b p q

x-kept : (ts : List Timing) → AllByRecursion IsTiming ts → AllByRecursion IsTiming (with_x ts)
x-kept [] is = is
x-kept (a ∷ []) is = is
x-kept (a ∷ b ∷ []) is = is
x-kept (a ∷ b ∷ c ∷ []) is = is
x-kept (a ∷ b ∷ c ∷ d ∷ []) is = is
x-kept (a ∷ b ∷ c ∷ d ∷ e ∷ []) is = is
x-kept (a ∷ b ∷ c ∷ d ∷ e ∷ f ∷ rest) (p, (q, (r, (s, (t, (u, more)))))) =
    (p, (q, (r, (s, (t, (u, (lesser-kept c a r p, (greater-kept d a s p, (lesser-kept e b t q, (greater-kept f b u q, (greater-kept e c t r, (lesser-kept d f s u, tt))))))))))))

x-length : (ts : List Timing) → length ts ≡ 12 → length (with_x ts) ≡ 12
x-length [] n = n
x-length (a ∷ []) n = n
x-length (a ∷ b ∷ []) n = n
x-length (a ∷ b ∷ c ∷ []) n = n
x-length (a ∷ b ∷ c ∷ d ∷ []) n = n
x-length (a ∷ b ∷ c ∷ d ∷ e ∷ []) n = n
x-length (a ∷ b ∷ c ∷ d ∷ e ∷ f ∷ rest) n = refl

pub changes-kept : (increment : Bool) (cs : List (Option Change)) (ts : List Timing) → AreTimings ts → is_each_large increment (spread cs) ts ≡ false
    → AreTimings (with_changes increment cs ts)
changes-kept increment cs ts are e = by (makes_x cs)
  where
    new : List Timing
    new = changed_each increment (spread cs) ts

    each : AllByRecursion IsTiming new
    each = each-kept increment (spread cs) ts (recursion_from_All IsTiming ts are.1) e

    twelve : length new ≡ 12
    twelve = each-length increment (spread cs) ts ∙ are.0

    by : (b : Bool) → AreTimings (if b then with_x new else new)
    by true = (x-length new twelve, All-from_recursion IsTiming (with_x new) (x-kept new each))
    by false = (twelve, All-from_recursion IsTiming new each)

-- ---- limits of pulses

pulses-each : (l : ℕ × ℕ) (ts : List Timing) → AreInBounds l → AllByRecursion IsTiming ts → AllByRecursion IsTiming (map (limited l) ts)
pulses-each l [] b is = is
pulses-each l (t ∷ ts) b is = (timing-with t.delay l is.0.delay b, pulses-each l ts b is.1)

pub pulses-kept : (l : Option (ℤ × ℤ)) (ts : List Timing) → AreTimings ts → are_large l ≡ false → AreTimings (with_pulses l ts)
pulses-kept None ts are e = are
pulses-kept (Some l) ts are e = (
  length-map ts (limited (limits_from l)) ∙ are.0,
  All-from_recursion IsTiming (map (limited (limits_from l)) ts) (pulses-each (limits_from l) ts (in-bounds l e) (recursion_from_All IsTiming ts are.1)),
)

percents-each : (l : Number × Number) (ts : List Timing) → AllByRecursion IsTiming ts → is_percent_large (Some l) ts ≡ false
    → AllByRecursion IsTiming (with_percents (Some l) ts)
percents-each l [] is e = is
percents-each l (t ∷ ts) is e =
    let parts = or_parts (not (nat_lt (percents l t.delay).1 (2 ^ 60))) (is_percent_large (Some l) ts) e in
    let error : (percents l t.delay).1 < 2 ^ 60 = below_if (percents l t.delay).1 (2 ^ 60) (not-false (nat_lt (percents l t.delay).1 (2 ^ 60)) parts.0) in
    (timing-with t.delay (percents l t.delay) is.0.delay (record { ordered = le-max_left (percent l.0 t.delay) (percent l.1 t.delay); error = error }), percents-each l ts is.1 parts.1)

pub percents-kept : (l : Option (Number × Number)) (ts : List Timing) → AreTimings ts → is_percent_large l ts ≡ false → AreTimings (with_percents l ts)
percents-kept None ts are e = are
percents-kept (Some l) ts are e = (
  length-map ts (λ (t : Timing). limited (percents l t.delay) t) ∙ are.0,
  All-from_recursion IsTiming (with_percents (Some l) ts) (percents-each l ts (recursion_from_All IsTiming ts are.1) e),
)

-- ---- entries

-- After an entry that isn't too large the timings are within bounds, as they were.
pub entry-kept : (g : Grid) (e : Entry) (ts : List Timing) → AreTimings ts → is_too_large g e ts ≡ false → AreTimings (applied g e ts)
entry-kept g e ts are small = by e.kind small
  where
    by : (k : EntryKind) → is_kind_large g e.increment k ts ≡ false → AreTimings (applied_kind g e.increment k ts)
    by (io_path condition from to ds) f = changes-kept e.increment (changes_of g ds) ts are f
    by (device output ds) f = changes-kept e.increment (changes_of g ds) ts are f
    by (port_delay port ds) f = changes-kept e.increment (changes_of g ds) ts are f
    by (interconnect from to ds) f = changes-kept e.increment (changes_of g ds) ts are f
    by (path_pulse false ports reject error) f = pulses-kept (pulse_limits g reject error) ts are f
    by (path_pulse true ports reject error) f = percents-kept (pulse_numbers g reject error) ts are f
    by (a_check check) f = are
    by (skipped_entry skipped) f = are
