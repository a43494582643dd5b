-- What is left to be said makes the whole of what there is.
use Rattle.std.proofs.Common.{◌≡◌, length}
use Rattle.elab_variables.specs.Rows.{first_said, rows_with}
use Rattle.elab_variables.proofs.rows.note_all.Given as goal

abbrev pub invariant-more : goal.invariant-more
invariant-more g l =
    let d = g.D.Declaration in
    rows_with (first_said d.text d.said l.left) l.names.keys l.rows ≡ rows_with (first_said d.text d.said l.declarations) l.names.keys l.initial.rows

abbrev pub decreases-more : goal.decreases-more
decreases-more g l = length l.left
