-- A value is the bits that extend it, and its own.
use Rattle.vcd_stim.proofs.PutLaws.{put_value_is}
use Rattle.vcd_stim.proofs.bits.put_value.Goals as goal

pub returns : goal.returns
returns c =
    put_value_is c.args.sets.now.entries c.fill.new.sets.entries c.put_bits.new.sets.entries c.args.nets.now c.split_at.result.0.now c.split_at.result.1.now c.args.bits.now c.filler.result
    c.requires c.split_at.ensures.front c.split_at.ensures.back c.filler.ensures c.in_ok-fill.ensures c.in_ok-put_bits.ensures
