-- The remainder gets smaller.
use Rattle.fit_values.proofs.numbers.common_factor.Given as goal

abbrev pub decreases-loop-other : goal.decreases-loop-other
decreases-loop-other l = l.other
