-- Where its timing stands.
use Rattle.std.proofs.Common.{arith}
use Rattle.annotation_spots.proofs.CountLaws.{timing-within, timing-seen}
use Rattle.annotation_spots.proofs.spots.Spot.timing.Goals as goal

pub index-requires-2 : goal.index-requires-2
index-requires-2 c =
    omega (arith, c.args.parts.now.leg_timings.ok.0, timing-within c.args.parts.now c.args.self.now c.index.result.now c.deref.result.now c.timing_at.result c.requires.indexed c.requires.row c.index.ensures c.deref.ensures.value c.timing_at.ensures)

pub returns : goal.returns
returns c = timing-seen c.args.parts.now c.args.self.now c.index.result.now c.deref.result.now c.timing_at.result c.index-2.result.now c.requires.indexed c.requires.row c.index.ensures c.deref.ensures.value c.timing_at.ensures c.index-2.ensures
