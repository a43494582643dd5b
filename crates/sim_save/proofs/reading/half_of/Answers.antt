-- Two halves that are one.
use Rattle.std.proofs.Common.{sym}
use Rattle.sim_save.proofs.ReadLaws.{not_twice, twice}
use Rattle.sim_save.proofs.reading.half_of.Goals as goal

pub returns-then-eq : goal.returns-then-eq
returns-then-eq c = twice c.args.bytes.now c.split_at.result.0.now c.split_at.result.1.now _ c.split_at.ensures.front c.split_at.ensures.back (sym c.if-eq.ensures)

pub returns-else-eq : goal.returns-else-eq
returns-else-eq c = not_twice c.args.bytes.now c.split_at.result.0.now c.split_at.result.1.now _ c.split_at.ensures.front c.split_at.ensures.back c.split_at.ensures.front_len (sym c.if-eq.ensures)
