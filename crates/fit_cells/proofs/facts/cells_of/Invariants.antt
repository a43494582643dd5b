-- Each part has tokens.
use Rattle.std.specs.Prelude.{◌-◌, length}
use Rattle.fit_cells.proofs.facts.cells_of.Given as goal

abbrev pub decreases-loop-at : goal.decreases-loop-at
decreases-loop-at l = length l.tokens - l.at
