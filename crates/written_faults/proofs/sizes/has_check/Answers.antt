use Rattle.written_faults.specs.Sizes.{is_wrong}
use Rattle.written_faults.proofs.SizeLaws.{check_sizes}
use Rattle.written_faults.proofs.sizes.has_check.Goals as goal

pub returns : goal.returns
returns c = check_sizes (is_wrong c.args.fault) c.args.parts.now c.requires.closed c.args.number c.index-timing.result.now c.has_limit.result c.requires.number c.index-timing.ensures c.has_limit.ensures.count c.has_limit.ensures.wrong
