-- What is too large by itself is so as often as it weighs.
use Rattle.sdf_meaning.specs.MeantSeen.{view_triple}
use Rattle.annotation_model.specs.Applied as def
use Rattle.annotation_values.specs.Seen.{grid_seen}
use Rattle.annotation_values.proofs.LimitLaws.{large_weighed}
use Rattle.annotation_values.proofs.limits.chosen_limit.Goals as goal

pub returns-in-Err : goal.returns-in-Err
returns-in-Err c = large_weighed c.args.bounds (def.chosen (grid_seen c.args.grid) (view_triple c.args.limit.now)) c.in-Err.ensures.told
