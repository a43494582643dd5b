use Rattle.std.proofs.Common.{refl}
use Rattle.wave_out.proofs.MarkLaws.{marked, seen_set}
use Rattle.wave_out.proofs.marks.Marks.mark.Goals as goal

pub returns-clause-marks : goal.returns-clause-marks
returns-clause-marks c = marked c.args.self.now _ c.args.k _ c.index_mut-2.result.now c.requires.k c.index_mut-2.ensures.value refl refl c.requires.marks

pub returns-clause-seen : goal.returns-clause-seen
returns-clause-seen c = seen_set c.args.self.now.words.items c.args.k c.index_mut.result.now c.requires.k c.index_mut.ensures.value
