-- One that has a parent is a leaf where the next instance follows it at once.
use Rattle.std.proofs.Common.{sym, ◌∙◌}
use Rattle.elab_scopes.proofs.Leaves.{leaf-below}
use Rattle.elab_scopes.proofs.scope.is_leaf.Goals as goal

pub returns-then-is_some : goal.returns-then-is_some
returns-then-is_some c = λ source s h n t. leaf-below source c.args.placed.now s c.args.number h n t (sym c.is_some.ensures ∙ c.if-is_some.true)
