-- An output that is there, or a new one.
use Rattle.std.proofs.Common.{map}
use Rattle.specify_paths.specs.Words.{output_kept, style_at}
use Rattle.specify_paths.proofs.Grouped.{placed-known, placed-new}
use Rattle.specify_paths.proofs.grouping.place_of_output.Goals as goal

pub returns-then-not-is_new : goal.returns-then-not-is_new
returns-then-not-is_new c = λ ps keys group.
    placed-known (style_at c.args.styles.now) ps c.args.path c.in_ok-at.at c.args.places.now.keys c.insert_full.new.self.keys (map output_kept c.args.outputs.now.items)
    c.in_ok-at.is_new keys group c.in_ok-at.ensures.added c.if-not-is_new.true c.in_ok-at.ensures.index c.in_ok-at.ensures.keys

pub returns : goal.returns
returns c = λ ps keys group.
    placed-new (style_at c.args.styles.now) ps c.args.path c.in_ok-at.at c.args.places.now.keys c.insert_full.new.self.keys (map output_kept c.args.outputs.now.items)
    (map output_kept c.add_output.new.outputs.items) c.in_ok-at.is_new keys group c.in_ok-at.ensures.added c.if-not-is_new.false c.in_ok-at.ensures.index
    c.in_ok-at.ensures.keys c.in_ok-add_output.ensures
