-- What is there, followed by what is left, is the whole.
use Rattle.std.proofs.Common.{◌≡◌, ◌++◌, map, drop}
use Rattle.vl_tree.specs.Seen.{view_term}
use Rattle.elab_model.specs.Terms.{terms_bits}
use Rattle.elab_ends.specs.Seen.{bits_seen, AreInRow}
use Rattle.elab_ends.proofs.terms.terms_bits.Given as goal

abbrev pub invariant-loop-term : goal.invariant-loop-term
invariant-loop-term l =
    (bits_seen l.table l.places.items ++ terms_bits l.table (map view_term (drop l.term-index l.terms)) ≡ terms_bits l.table (map view_term l.terms)) × AreInRow l.table l.places.items
