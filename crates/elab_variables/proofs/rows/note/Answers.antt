-- The row of the name is told, if there is one.
use Rattle.std.proofs.Common.{rules}
use Rattle.elab_variables.proofs.Telling.{noted, unnoted}
use Rattle.elab_variables.proofs.rows.note.Goals as goal

pub returns-in-Some : goal.returns-in-Some
returns-in-Some g c =
    noted (g.D.Declaration.text c.args.declaration.now) (g.D.Declaration.said c.args.declaration.now) c.args.names.now.keys c.args.rows.now c.in-Some.place c.name.result c.say.result _
    c.requires.same c.requires.distinct c.name.ensures (search rules) c.say.ensures

pub returns-in_default : goal.returns-in_default
returns-in_default g c =
    unnoted (g.D.Declaration.text c.args.declaration.now) (g.D.Declaration.said c.args.declaration.now) c.args.names.now.keys c.args.rows.now c.name.result c.requires.same c.name.ensures
    (search rules)
