-- The first that is missing is still to come.
use Rattle.std.proofs.Common.{◌≡◌, map, drop, not, find}
use Rattle.vl_tree.specs.Seen.{view_name}
use Rattle.elab_model.specs.Faults.{texts_of}
use Rattle.elab_model.specs.Names.{is_among}
use Rattle.elab_names.proofs.repeated.first_missing.Given as goal

abbrev pub invariant-loop-name : goal.invariant-loop-name
invariant-loop-name l =
    find (λ n. not (is_among n.text (texts_of (map view_name l.others)))) (map view_name (drop l.name-index l.names))
    ≡ find (λ n. not (is_among n.text (texts_of (map view_name l.others)))) (map view_name l.names)
