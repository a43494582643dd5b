-- The output takes the path.
use Rattle.std.proofs.Common.{◌∙◌}
use Rattle.specify_paths.proofs.grouping.add_path.Goals as goal

pub returns : goal.returns
returns c = λ ps keys group.
    let placed = c.in_ok-at.ensures ps keys group in
    (placed.keys_are, c.in_ok-push_path.ensures ∙ placed.taking)
