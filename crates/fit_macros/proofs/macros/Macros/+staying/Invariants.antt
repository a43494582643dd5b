-- Uses lie within fewer uses each time.
use Rattle.std.proofs.Common.{◌+◌, ◌*◌, length}
use Rattle.fit_macros.proofs.macros.Macros.+staying.Given as goal

abbrev pub decreases-stays_within : goal.decreases-stays_within
decreases-stays_within l = 2 * l.left

abbrev pub decreases-text_stays : goal.decreases-text_stays
decreases-text_stays l = 2 * l.left + 1

abbrev pub decreases-text_stays-loop-rest : goal.decreases-text_stays-loop-rest
decreases-text_stays-loop-rest l = length l.rest
