-- The names on both sides.
use Rattle.std.proofs.lemmas.Result.{on_ok_weaker}
use Rattle.vl_tree.specs.Seen.{view_expression}
use Rattle.elab_variables.specs.Naming.{key_texts, names_in}
use Rattle.elab_variables.proofs.WithNames.{both-sides}
use Rattle.elab_variables.proofs.naming.JoinNaming.add_to.Goals as goal

pub returns : goal.returns
returns c =
    on_ok_weaker c.add_expression-2.result (both-sides (key_texts c.args.known.now.keys) (key_texts c.add_expression.new.known.keys) _ (names_in (view_expression c.args.self.now.left))
    (names_in (view_expression c.args.self.now.right))
    c.in_ok-add_expression.ensures)
    c.add_expression-2.ensures
