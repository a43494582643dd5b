-- The names so far are in.
use Rattle.std.proofs.Common.{◌≡◌, ℕ, List, take, map}
use Rattle.vl_tree.specs.Seen.{view_part}
use Rattle.fit_parts.specs.Below.{is_seen}
use Rattle.fit_parts.specs.Trees.{defines}
use Rattle.fit_parts.proofs.names.defined_names.Given as goal

abbrev pub invariant-loop-part : goal.invariant-loop-part
invariant-loop-part l = (n : List ℕ) → is_seen n l.names.keys ≡ defines (map view_part (take l.part-index l.parts)) n
