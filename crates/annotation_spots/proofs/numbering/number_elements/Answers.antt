-- The rows of one element more.
use Rattle.std.proofs.Common.{◌≡◌, ◌+◌, rules}
use Rattle.annotation_spots.specs.Counts.{counts_of}
use Rattle.annotation_spots.proofs.CountLaws.{count-at, within-counts}
use Rattle.annotation_spots.proofs.RowLaws.{numbered-more}
use Rattle.annotation_spots.proofs.numbering.number_elements.Goals as goal

pub loop-number-preserved : goal.loop-number-preserved
loop-number-preserved c =
    let sum : c.in_ok-first.first ≡ c.loop-number.first + c.spot_count-count.result = search rules in
    record {
      few = search rules;
      numbered = numbered-more (counts_of c.args.elements.now) c.loop-number.number c.spot_count-count.result c.loop-number.spots.items c.add_rows.new.spots.items c.loop-number.first c.in_ok-first.first c.loop-number.firsts.items c.push.new.self.items
          (within-counts c.args.elements.now c.loop-number.number c.loop-number-test.true) c.loop-number.invariant.numbered (count-at c.args.elements.now c.loop-number.number c.index-elements-number.result c.spot_count-count.result c.loop-number-test.true c.index-elements-number.is c.spot_count-count.ensures)
          c.in_ok-add_rows.ensures sum c.in_ok-push.ensures.items;
    }
