-- The checks that have the violations of one with both conditions: one with a condition on both terminals, or two of one limit each (IEEE 1364-2005, 15.6, 15.8.2).
use Rattle.std.specs.Prelude.{◌≡◌, ℕ, ℤ, pos, List, [], ◌∷◌, ◌++◌, Option, Some, None, if◌then◌else◌, slice_index_or, ◌⊎◌}
use Rattle.std.specs.Option.{option_map}
use Rattle.sg_logic.specs.declared.values.Value.TheVariants.{Zero}
use Rattle.cond_expr.specs.Tree.{Cond, constant, binary}
use Rattle.cond_expr.specs.Values.{is_equality}
use Rattle.cond_expr.specs.declared.tokens.Op.TheVariants.{AndAnd, CaseUnequal}
use Rattle.sg_circuit.specs.declared.checks.CheckKind.{CheckKind}
use Rattle.sg_circuit.specs.declared.checks.CheckKind.TheVariants as kind
use Rattle.sg_circuit.specs.declared.checks.CheckTiming.{CheckTiming}
use Rattle.sg_circuit.specs.declared.checks.Event.{Event}
use Rattle.sg_model.specs.Machine.{Snapshot, Violation}
use Rattle.time_checks.specs.declared.violations.Part.{Part}
use Rattle.time_checks.specs.declared.violations.Part.TheVariants.{Setup, Hold, Recovery, Removal}
use Rattle.time_checks.specs.Adjusted.{AdjustedCheck, plain_check}
use Rattle.time_checks.specs.Events.{moment}
use Rattle.time_checks.specs.Violations.{violations_at}
use Rattle.fit_checks.specs.Conditioned.{Conditions, conditioned, of_datum, of_refer}

-- == and != enable a check where they are x too, all else where it is 1 (15.6): as a part of another condition they stand as `(a == b) !== 1'b0`
abbrev pub definite : Cond ℕ → Cond ℕ
definite c = if is_equality c then binary CaseUnequal c (constant Zero) else c

-- two conditions as one, `a && b`
abbrev pub both : Option (Cond ℕ) → Option (Cond ℕ) → Option (Cond ℕ)
both None b = b
both (Some a) None = Some a
both (Some a) (Some b) = Some (binary AndAnd (definite a) (definite b))

-- an event with one more condition behind its &&&
abbrev pub under : Option (Cond ℕ) → Event → Event
under condition event = record event { condition = both event.condition condition }

-- a check with one condition on both terminals
abbrev pub on_both : Option (Cond ℕ) → AdjustedCheck → AdjustedCheck
on_both condition check = record check { refer = under condition check.refer; datum = option_map (under condition) check.datum }

-- a part of a check of two limits as a check of its own, with its conditions on the terminals
abbrev pub part_check : Conditions → CheckTiming → CheckKind → Part → ℤ → CheckTiming
part_check c t kind part limit = record {
  kind = kind;
  refer = under (of_refer c part) t.refer;
  datum = option_map (under (of_datum c part)) t.datum;
  limits = limit ∷ pos 0 ∷ [];
  threshold = 0;
  late = None;
}

-- $setup and $hold for $setuphold, $recovery and $removal for $recrem
abbrev pub first_of : CheckKind → CheckKind × Part
first_of kind.Recrem = (kind.Recovery, Recovery)
first_of _ = (kind.Setup, Setup)

abbrev pub second_of : CheckKind → CheckKind × Part
second_of kind.Recrem = (kind.Removal, Removal)
second_of _ = (kind.Hold, Hold)

abbrev pub first_half : Conditions → CheckTiming → CheckTiming
first_half c t = part_check c t (first_of t.kind).0 (first_of t.kind).1 (slice_index_or t.limits 0 (pos 0))

abbrev pub second_half : Conditions → CheckTiming → CheckTiming
second_half c t = part_check c t (second_of t.kind).0 (second_of t.kind).1 (slice_index_or t.limits 1 (pos 0))

-- the checks that can be cut in two: they have two limits, and see their signals without delay
pub record IsTwofold (t : CheckTiming) : Type 0 where
  pub kind : (t.kind ≡ kind.Setuphold) ⊎ (t.kind ≡ kind.Recrem)
  pub late : t.late ≡ None

-- the violations of a check, by its number, that belong to the latest of some snapshots
abbrev pub of_check : ℕ → AdjustedCheck → List Snapshot → List Violation
of_check number check [] = []
of_check number check (now ∷ older) = violations_at number check (moment check now older)

-- Over every list of snapshots: where both conditions are the same, the check with it on both terminals has the violations, whatever its limits and delays; and
-- where it sees its signals without delay, both halves together, those of the first limit first.
pub record ConditionsAreKept : Type 0 where
  pub same : (number : ℕ) (condition : Option (Cond ℕ)) (check : AdjustedCheck) (snapshots : List Snapshot) → (check.kind ≡ kind.Setuphold) ⊎ (check.kind ≡ kind.Recrem)
      → of_check number (on_both condition check) snapshots ≡ conditioned number (record { stamp = condition; check = condition }) check snapshots
  pub split : (number : ℕ) (c : Conditions) (t : CheckTiming) (snapshots : List Snapshot) → IsTwofold t
      → of_check number (plain_check (first_half c t)) snapshots ++ of_check number (plain_check (second_half c t)) snapshots ≡ conditioned number c (plain_check t) snapshots
