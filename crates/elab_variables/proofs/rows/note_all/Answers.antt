-- One declaration less is left, till none is.
use Rattle.std.proofs.Common.{rules}
use Rattle.elab_variables.proofs.Telling.{one-told, all-told}
use Rattle.elab_variables.proofs.rows.note_all.Goals as goal

pub more-preserved : goal.more-preserved
more-preserved g c =
    let d = g.D.Declaration in
    one-told d.text d.said g.met.D.Declaration.hides c.args.names.now.keys c.more.rows c.note.new.rows c.more.left.now c.last-item.result _
    c.in-len1-up.len_at_least (search rules) c.note.ensures c.more.invariant

pub returns : goal.returns
returns g c =
    let d = g.D.Declaration in
    all-told d.text d.said g.met.D.Declaration.hides c.args.names.now.keys c.more.rows c.more.left.now _ (search rules) c.in_default.len_below c.more.invariant
