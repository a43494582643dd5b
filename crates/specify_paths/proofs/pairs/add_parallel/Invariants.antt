-- What is there, followed by what is left, is the whole.
use Rattle.std.proofs.Common.{◌≡◌, ◌++◌, ◌<◌, ℕ, List, map, drop}
use Rattle.std.specs.Prelude.{zip}
use Rattle.specify_values.specs.Seen.{limits_seen}
use Rattle.elab_ends.specs.Seen.{bits_seen}
use Rattle.specify_paths.specs.Seen.{ArePathsInRow, Said, path_to_seen, path_said, said_at}
use Rattle.specify_paths.proofs.pairs.add_parallel.Given as goal

abbrev pub invariant-loop-at : goal.invariant-loop-at
invariant-loop-at l =
    ((said : List Said) → map (path_to_seen l.table said) l.list.items
    ++ map (path_said (said_at said l.origin.statement) l.origin.place (limits_seen l.limits)) (zip (bits_seen l.table (drop l.at l.ends.inputs.items)) (bits_seen l.table (drop l.at l.ends.outputs.items)))
    ≡ map (path_to_seen l.table said) l.initial.list.items
    ++ map (path_said (said_at said l.origin.statement) l.origin.place (limits_seen l.limits)) (zip (bits_seen l.table l.ends.inputs.items) (bits_seen l.table l.ends.outputs.items)))
    × ((statements : ℕ) → l.origin.statement < statements → ArePathsInRow l.table statements l.initial.list.items → ArePathsInRow l.table statements l.list.items)
