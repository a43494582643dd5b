-- The names so far are in the set.
use Rattle.std.proofs.Common.{◌≡◌, ℕ, List, map, take}
use Rattle.vl_tree.specs.Seen.{view_name}
use Rattle.elab_model.specs.Faults.{texts_of}
use Rattle.elab_model.specs.Names.{is_among}
use Rattle.elab_declared.specs.Words.{is_seen}
use Rattle.elab_names.proofs.repeated.set_of.Given as goal

abbrev pub invariant-loop-name : goal.invariant-loop-name
invariant-loop-name l = (n : List ℕ) → is_seen n l.seen.keys ≡ is_among n (texts_of (map view_name (take l.name-index l.names)))
