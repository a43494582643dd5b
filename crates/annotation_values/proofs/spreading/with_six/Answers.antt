use Rattle.std.proofs.Common.{is_some, sym, ◌∙◌}
use Rattle.annotation_values.specs.Changes.{change_seen}
use Rattle.annotation_values.specs.Seen.{grid_seen}
use Rattle.annotation_values.proofs.XLaws.{any-map, x_wanted}
use Rattle.annotation_values.proofs.spreading.with_six.Goals as goal

pub returns-in-Ok : goal.returns-in-Ok
returns-in-Ok c =
    (c.in-Ok.ensures.0, x_wanted _ _ _ _ _ c.with_x_if.ensures (c.is_some_given.ensures ∙ sym (any-map (λ o. is_some o) (change_seen (grid_seen c.args.grid)) c.args.six.now)) c.in-Ok.ensures.1)
