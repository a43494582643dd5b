-- Sizes that are near enough tell which is less.
use Rattle.sg_time.specs.Seen.{number}
use Rattle.sdf_meaning.proofs.Sizes.{below_near}
use Rattle.sdf_meaning.proofs.comparing.is_below.Goals as goal

pub returns : goal.returns
returns c = rw (c.is_less.ensures, c.near_size-near.ensures, c.near_size-other_near.ensures) (below_near (number c.args.decimal) (number c.args.other) c.args.decimal.few c.args.other.few)
