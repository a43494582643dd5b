use Rattle.written_faults.specs.Sizes.{is_wrong}
use Rattle.written_faults.proofs.SizeLaws.{timing_sizes}
use Rattle.written_faults.proofs.sizes.has_timing.Goals as goal

pub returns : goal.returns
returns c = timing_sizes (is_wrong c.args.fault) c.args.timings.now c.args.place _ c.has_transitions.result c.requires.place c.index-timings-place.is c.has_transitions.ensures
