-- The first name that stands twice is still to come.
use Rattle.std.proofs.Common.{◌≡◌, [], map, drop}
use Rattle.vl_tree.specs.Seen.{view_name}
use Rattle.elab_model.specs.Faults.{places_again}
use Rattle.elab_declared.specs.Words.{first_of}
use Rattle.elab_names.proofs.repeated.first_repeated.Given as goal

abbrev pub invariant-loop-name : goal.invariant-loop-name
invariant-loop-name l = first_of (places_again (map (λ k. k.now) l.seen.keys) (map view_name (drop l.name-index l.names))) ≡ first_of (places_again [] (map view_name l.names))
