-- Which path decides a transition of an output's bit, and when it takes place (IEEE 1364-2005, clause 14): of the bit's paths
-- four filters, one after another, leave those that may decide, and the first of these does.
use Rattle.std.specs.Prelude.{ℕ, ◌+◌, ◌==◌, nat_le, Bool, true, false, ◌&&◌, not, List, max, filter, slice_get, slice_index_or}
use Rattle.std.specs.List.{list_any, list_all}
use Rattle.std.specs.declared.option.Option.{Option}
use Rattle.std.specs.declared.option.Option.TheVariants.{Some, None}
use Rattle.sg_logic.specs.declared.values.Value.{Value}
use Rattle.sg_logic.specs.declared.edges.Edge.{Edge}
use Rattle.sg_logic.specs.Edges.{has_change}
use Rattle.cond_expr.specs.Values.{holds}
use Rattle.sg_model.specs.Machine.{Stamp}
use Rattle.sg_circuit.specs.Paths.{Path, PathCondition, Always, If, IfNone}
use Rattle.sg_circuit.specs.Timings.{timing_between, limits_of}
use Rattle.path_pick.specs.declared.picking.Picked.{Picked}

-- whether it is a condition of a path's own, and isn't 0 (14.2.4)
abbrev pub is_true : List Value → PathCondition → Bool
is_true values Always = false
is_true values (If written bound) = holds values bound
is_true values IfNone = false

-- whether a path from an input has such a condition
abbrev pub some_condition : List Path → List Value → ℕ → Bool
some_condition paths values input = list_any (λ p. (p.input == input) && is_true values p.condition) paths

-- whether a path may be taken by its condition: by that of `ifnone` where none of a path from the same input is true (14.2.4.4)
abbrev pub allows : List Path → List Value → ℕ → PathCondition → Bool
allows paths values input Always = true
allows paths values input (If written bound) = holds values bound
allows paths values input IfNone = not (some_condition paths values input)

abbrev pub is_allowed : List Path → List Value → Path → Bool
is_allowed paths values p = allows paths values p.input p.condition

-- whether an edge has a net's last change; without an edge always, without a change never
abbrev pub is_of_edge : Option Edge → Option Stamp → Bool
is_of_edge None stamp = true
is_of_edge (Some edge) None = false
is_of_edge (Some edge) (Some stamp) = has_change edge stamp.before stamp.after

-- when a net changed last; one that never did counts as time 0
abbrev pub time_of : Option Stamp → ℕ
time_of None = 0
time_of (Some stamp) = stamp.time

-- the last change of a net
abbrev pub stamp_at : List (Option Stamp) → ℕ → Option Stamp
stamp_at stamps net = slice_index_or stamps net None

-- when a path's input changed last
abbrev pub input_time : List (Option Stamp) → Path → ℕ
input_time stamps p = time_of (stamp_at stamps p.input)

-- a path's delay for a transition
abbrev pub delay_of : Value → Value → Path → ℕ
delay_of from to p = (timing_between p.timings from to).delay

-- first, the paths that their conditions allow
abbrev pub allowed : List Value → List Path → List Path
allowed values paths = filter (λ p. is_allowed paths values p) paths

-- of these, the paths whose edge is the last change of their input
abbrev pub on_edge : List (Option Stamp) → List Path → List Path
on_edge stamps paths = filter (λ p. is_of_edge p.edge (stamp_at stamps p.input)) paths

-- of these, those whose input changed last of all (14.3.3)
abbrev pub latest : List (Option Stamp) → List Path → List Path
latest stamps paths = filter (λ p. list_all (λ q. nat_le (input_time stamps q) (input_time stamps p)) paths) paths

-- of these, those with the least delay (14.3.3)
abbrev pub quickest : Value → Value → List Path → List Path
quickest from to paths = filter (λ p. list_all (λ q. nat_le (delay_of from to p) (delay_of from to q)) paths) paths

abbrev pub chosen : List Path → List Value → List (Option Stamp) → Value → Value → Option Path
chosen paths values stamps from to = slice_get (quickest from to (latest stamps (on_edge stamps (allowed values paths)))) 0

-- when the transition takes place, and the limits of its pulse: by a path, counted from the change of its input, but not
-- before now; without one now, with no limits
abbrev pub picked_for : ℕ → List (Option Stamp) → Value → Value → Option Path → Picked
picked_for now stamps from to None = record { time = now; reject = 0; error = 0 }
picked_for now stamps from to (Some p) = record {
  time = max now (input_time stamps p + delay_of from to p);
  reject = (limits_of (timing_between p.timings from to)).0;
  error = (limits_of (timing_between p.timings from to)).1;
}

abbrev pub picked : List Path → List Value → List (Option Stamp) → ℕ → Value → Value → Picked
picked paths values stamps now from to = picked_for now stamps from to (chosen paths values stamps from to)
