-- The first is still to come.
use Rattle.std.proofs.Common.{◌≡◌, drop}
use Rattle.elab_primitives.proofs.Among.{first_in}
use Rattle.elab_primitives.proofs.declarations.first_among.Given as goal

abbrev pub invariant-loop-name : goal.invariant-loop-name
invariant-loop-name l = first_in l.others (drop l.name-index l.names) ≡ first_in l.others l.names
