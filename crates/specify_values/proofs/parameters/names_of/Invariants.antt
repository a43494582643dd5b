-- What is there, followed by what is left, is the whole.
use Rattle.std.proofs.Common.{◌≡◌, ◌++◌, map, drop}
use Rattle.vl_tree.specs.Seen.{view_name}
use Rattle.specify_values.specs.Seen.{view_parameter}
use Rattle.specify_values.proofs.parameters.names_of.Given as goal

abbrev pub invariant-loop-parameter : goal.invariant-loop-parameter
invariant-loop-parameter l =
    map view_name l.names.items ++ map (λ p. p.name) (map view_parameter (drop l.parameter-index l.list)) ≡ map (λ p. p.name) (map view_parameter l.list)
