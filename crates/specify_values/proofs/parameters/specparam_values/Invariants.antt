-- The table stands for those so far.
use Rattle.std.proofs.Common.{◌≡◌, map, take}
use Rattle.specify_model.specs.Values.{value_of}
use Rattle.specify_values.specs.Seen.{view_parameter, named_in}
use Rattle.specify_values.proofs.parameters.specparam_values.Given as goal

abbrev pub invariant-loop-parameter : goal.invariant-loop-parameter
invariant-loop-parameter l = named_in l.values ≡ value_of (map view_parameter (take l.parameter-index l.list))
