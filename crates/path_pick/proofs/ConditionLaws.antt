-- Conditions of the code's paths, and of the paths that they stand for.
use Rattle.std.specs.Prelude.{◌≡◌, ℕ, ◌==◌, Bool, false, not, ◌&&◌, ◌||◌, List, [], ◌∷◌, slice_index_or, refl}
use Rattle.std.proofs.Common.{sym, ◌∙◌, ap}
use Rattle.sg_logic.specs.declared.values.Value.{Value}
use Rattle.cond_expr.specs.Condition.{Condition}
use Rattle.sg_circuit.specs.declared.elements.LegTiming.{LegTiming}
use Rattle.sg_circuit.specs.declared.paths.Path.{Path}
use Rattle.sg_circuit.specs.declared.paths.PathCondition.{PathCondition}
use Rattle.sg_circuit.specs.declared.paths.PathCondition.TheVariants.{Always, If, IfNone}
use Rattle.sg_circuit.specs.PathsSeen.{condition_seen, path_seen, paths_seen}
use Rattle.path_pick.specs.Choice.{allows, is_allowed, is_true, some_condition}
use Rattle.path_pick.specs.Marks.{AreMarked}
use Rattle.path_pick.specs.Pass.{condition_is_true, some_is_true}

is_true-seen : (conditions : List Condition) (values : List Value) (c : PathCondition) → condition_is_true values c ≡ is_true values (condition_seen conditions c)
is_true-seen conditions values Always = refl
is_true-seen conditions values (If written bound) = refl
is_true-seen conditions values IfNone = refl

some_is_true-seen : (paths : List Path) (values : List Value) (input : ℕ) (conditions : List Condition) (timings : List LegTiming)
    → some_is_true paths values input ≡ some_condition (paths_seen conditions timings paths) values input
some_is_true-seen [] values input conditions timings = refl
some_is_true-seen (p ∷ ps) values input conditions timings =
    ap (λ b. ((p.input == input) && b) || some_is_true ps values input) (is_true-seen conditions values p.condition)
    ∙ ap (λ b. ((p.input == input) && is_true values (condition_seen conditions p.condition)) || b) (some_is_true-seen ps values input conditions timings)

-- where the inputs of paths with a true condition are marked, an `ifnone` path whose input isn't may be taken
pub allowed-ifnone : (paths : List Path) (p : Path) (values : List Value) (flags : List Bool) (conditions : List Condition) (timings : List LegTiming) → p.condition ≡ IfNone → AreMarked paths values flags
    → not (slice_index_or flags p.input false) ≡ is_allowed (paths_seen conditions timings paths) values (path_seen conditions timings p)
allowed-ifnone paths p values flags conditions timings is are =
    ap not (are p.input ∙ some_is_true-seen paths values p.input conditions timings)
    ∙ ap (λ c. allows (paths_seen conditions timings paths) values p.input (condition_seen conditions c)) (sym is)
