-- The parts so far and those that are left are all.
use Rattle.std.proofs.Common.{◌≡◌, ◌++◌, map, not}
use Rattle.std.specs.List.{filter}
use Rattle.std.specs.Path.{cur_dir, components_remaining}
use Rattle.std.specs.Str.{bytes_eq}
use Rattle.fit_words.proofs.paths.parts_of.Given as goal

abbrev pub invariant-loop-component : goal.invariant-loop-component
invariant-loop-component l =
    map (λ part. part.now) l.parts.items ++ filter (λ part. not (bytes_eq part cur_dir)) (components_remaining l.component-iterator)
    ≡ filter (λ part. not (bytes_eq part cur_dir)) (components_remaining l.initial.component-iterator)
