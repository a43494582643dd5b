use Rattle.std.proofs.Common.{◌*◌, length}
use Rattle.wave_out.specs.Marks.{seen}
use Rattle.wave_out.proofs.ChangeLaws.{is_block, known, marked_within, readers_within}
use Rattle.wave_out.proofs.ListingLaws.{clear_seen}
use Rattle.wave_out.proofs.changes.push_changes.Goals as goal

pub mark_changed-requires-clause-within : goal.mark_changed-requires-clause-within
mark_changed-requires-clause-within g c = readers_within c.args.variables.now c.args.index.now (64 * length c.args.marks.now.words.items) c.requires.index c.requires.clear.room

pub push_block-requires-clause-within : goal.push_block-requires-clause-within
push_block-requires-clause-within g c =
    marked_within (64 * length c.args.marks.now.words.items) c.args.variables.now c.args.index.now (known c.args.count c.args.changed.now) (seen c.args.marks.now.words.items) (seen c.mark_changed.new.marks.words.items)
    c.requires.index (clear_seen (length c.args.variables.now) c.args.marks.now c.requires.clear) c.mark_changed.ensures.seen

pub returns-in-Ok-clause-block : goal.returns-in-Ok-clause-block
returns-in-Ok-clause-block g c =
    is_block c.args.time c.args.count (64 * length c.args.marks.now.words.items) c.args.variables.now c.args.index.now c.args.changed.now (seen c.args.marks.now.words.items) (seen c.mark_changed.new.marks.words.items)
    (g.N.Nets.values c.args.nets.now) c.in-Ok.some c.push_block.new.text.items c.requires.variables c.requires.index c.requires.count c.requires.clear.room
    (clear_seen (length c.args.variables.now) c.args.marks.now c.requires.clear) c.mark_changed.ensures.seen c.in-Ok.ensures.block
