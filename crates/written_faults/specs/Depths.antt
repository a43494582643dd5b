-- Words of contracts: conditions that nest too deep.
use Rattle.std.specs.Prelude.{ℕ, suc, ◌-◌, nat_lt, Bool, false, List, ◌++◌, Option, Some, None, slice_index_or}
use Rattle.std.specs.List.{list_any}
use Rattle.std.specs.Option.{option_map}
use Rattle.cond_expr.specs.declared.tokens.Tok.TheVariants as tok
use Rattle.cond_expr.specs.Token.{Tok}
use Rattle.sg_circuit.specs.declared.paths.PathCondition as code_condition
use Rattle.sg_circuit.specs.declared.paths.PathCondition.TheVariants as code
use Rattle.sg_circuit.specs.Timings.{Timing}
use Rattle.sg_circuit.specs.Paths as specify
use Rattle.sg_circuit.specs.Circuit.{Kind}
use Rattle.annotation_model.specs.Same.{bare}
use Rattle.annotation_model.specs.Spots.{Checked}
use Rattle.written_model.specs.Entries.{condition_of, event_key}
use Rattle.written_model.specs.Faults.{datum_conditions, depth_from, event_conditions, path_conditions}
use Rattle.written_faults.specs.Delayed.{any_delayed}

-- how many parentheses are open behind a token
abbrev pub open_behind : ℕ → Tok → ℕ
open_behind unclosed tok.Left = suc unclosed
open_behind unclosed tok.Right = unclosed - 1
open_behind unclosed _ = unclosed

abbrev pub is_deep : List Tok → Bool
is_deep ts = nat_lt 27 (depth_from 0 ts)

-- the condition of a path
abbrev pub path_deep : specify.Path → Bool
path_deep p = list_any is_deep (path_conditions (condition_of p.condition))

-- those of an element: a leg has none
abbrev pub leg_deep : List Timing → Bool
leg_deep timings = false

abbrev pub delayed_deep : Kind → Bool
delayed_deep kind = any_delayed leg_deep path_deep kind

-- those of a timing check
abbrev pub check_deep : Checked → Bool
check_deep k = list_any is_deep (event_conditions (option_map bare k.written.refer) ++ datum_conditions (option_map (λ e. event_key e k.written.datum) k.timing.datum))

-- by a list that says which conditions nest too deep: one of a place, and that of a path
abbrev pub place_deep : List Bool → Option ℕ → Bool
place_deep deep None = false
place_deep deep (Some place) = slice_index_or deep place false

abbrev pub condition_deep : List Bool → code_condition.PathCondition → Bool
condition_deep deep code.Always = false
condition_deep deep (code.If written bound) = slice_index_or deep written false
condition_deep deep code.IfNone = false
