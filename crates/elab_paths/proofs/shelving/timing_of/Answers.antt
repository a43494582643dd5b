-- Twelve delays, all with the same limits.
use Rattle.std.proofs.Common.{arith}
use Rattle.std.specs.Option.{option_map}
use Rattle.specify_paths.specs.SeenOfValues.{widths_seen}
use Rattle.elab_paths.proofs.OnShelves.{timings-alike}
use Rattle.elab_paths.proofs.shelving.timing_of.Goals as goal

pub returns : goal.returns
returns c = timings-alike (option_map widths_seen c.args.limits) c.limit_of.result c.limit_of.ensures c.args.delays.now 12 (omega (arith, c.told-delays))
