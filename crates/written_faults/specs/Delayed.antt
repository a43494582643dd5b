-- Words of contracts: what an element has with delays, a leg or specify paths.
use Rattle.std.specs.Prelude.{Bool, false, List}
use Rattle.std.specs.List.{list_any}
use Rattle.sg_circuit.specs.Timings.{Timing}
use Rattle.sg_circuit.specs.Paths as specify
use Rattle.sg_circuit.specs.Circuit.{Kind, Leg, Path}

-- whether the timings of the leg, or one of the paths, pass a test
abbrev pub any_delayed : (leg : List Timing → Bool) → (path : specify.Path → Bool) → Kind → Bool
any_delayed leg path (Leg timings) = leg timings
any_delayed leg path (Path paths style) = list_any path paths
any_delayed leg path _ = false
