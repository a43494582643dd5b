-- What is there, followed by what is left, is the whole.
use Rattle.std.proofs.Common.{◌≡◌, ◌++◌, ◌<◌, ℕ, List, map, drop}
use Rattle.specify_values.specs.Seen.{limits_seen}
use Rattle.elab_ends.specs.Seen.{bit_seen, bits_seen}
use Rattle.specify_paths.specs.Seen.{ArePathsInRow, Said, path_to_seen, path_said, said_at}
use Rattle.specify_paths.proofs.pairs.add_from.Given as goal

abbrev pub invariant-loop-output : goal.invariant-loop-output
invariant-loop-output l =
    ((said : List Said) → map (path_to_seen l.table said) l.list.items
    ++ map (path_said (said_at said l.origin.statement) l.origin.place (limits_seen l.limits)) (map (λ o. (bit_seen l.table l.input, o)) (bits_seen l.table (drop l.output-index l.outputs)))
    ≡ map (path_to_seen l.table said) l.initial.list.items
    ++ map (path_said (said_at said l.origin.statement) l.origin.place (limits_seen l.limits)) (map (λ o. (bit_seen l.table l.input, o)) (bits_seen l.table l.outputs)))
    × ((statements : ℕ) → l.origin.statement < statements → ArePathsInRow l.table statements l.initial.list.items → ArePathsInRow l.table statements l.list.items)
