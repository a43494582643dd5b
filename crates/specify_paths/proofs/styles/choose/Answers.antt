-- One more bit has the style, and at the end all have.
use Rattle.std.proofs.Common.{◌==◌}
use Rattle.indexmap.specs.IndexMap.{get_by}
use Rattle.specify_paths.specs.Words.{style_at}
use Rattle.specify_paths.proofs.Chosen.{next-chosen, all-chosen}
use Rattle.specify_paths.proofs.styles.choose.Goals as goal

pub loop-bit-preserved : goal.loop-bit-preserved
loop-bit-preserved c =
    next-chosen (λ q. get_by (λ k. q == k) c.loop-bit.styles.chosen) (λ q. get_by (λ k. q == k) c.insert.new.self) (style_at c.args.styles.now) c.args.style c.args.bits.now c.loop-bit.bit-index _
    c.loop-bit-test.true c.in_ok-insert.ensures.updates.0 c.loop-bit.invariant

pub returns : goal.returns
returns c = all-chosen (style_at c.loop-bit.styles) (style_at c.args.styles.now) c.args.style c.args.bits.now c.loop-bit.bit-index c.loop-bit-test.false c.loop-bit.invariant
