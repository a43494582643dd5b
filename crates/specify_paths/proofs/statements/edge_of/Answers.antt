-- A list of changes.
use Rattle.std.proofs.Common.{sym, ◌∙◌, ap}
use Rattle.vl_tree.specs.Seen.{view_edge}
use Rattle.vl_tree.specs.Tree.{pairs}
use Rattle.specify_model.specs.Paths as def
use Rattle.specify_paths.proofs.statements.edge_of.Goals as goal

pub returns-in-Pairs : goal.returns-in-Pairs
returns-in-Pairs c = c.edge_of_pairs.ensures ∙ ap (λ ps. def.edge_of (pairs ps)) c.deref.ensures.value ∙ ap (λ e. def.edge_of (view_edge e)) (sym c.in-Pairs.is)
