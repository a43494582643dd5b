-- The row so far.
use Rattle.std.proofs.Common.{◌≡◌, map, take}
use Rattle.elab_laws.specs.NumberLaws.{driven_number}
use Rattle.elab_elements.specs.Words.{ends_in}
use Rattle.elab_elements.proofs.driven.drive.Given as goal

abbrev pub invariant-loop-net : goal.invariant-loop-net
invariant-loop-net l = l.driven.items ≡ map (driven_number (ends_in l.row l.bits l.ends)) (take l.net-index l.row)
