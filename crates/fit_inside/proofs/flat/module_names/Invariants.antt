-- The names of the modules so far are in.
use Rattle.std.proofs.Common.{◌≡◌, ℕ, List, take, map}
use Rattle.vl_tree.specs.Seen.{view_part}
use Rattle.fit_inside.specs.Inside.{is_module}
use Rattle.fit_inside.specs.Seen.{is_kept}
use Rattle.fit_inside.proofs.flat.module_names.Given as goal

abbrev pub invariant-loop-part : goal.invariant-loop-part
invariant-loop-part l = (n : List ℕ) → is_kept n l.names.keys ≡ is_module (map view_part (take l.part-index l.parts)) n
