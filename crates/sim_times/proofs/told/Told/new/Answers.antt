use Rattle.std.proofs.Common.{refl}
use Rattle.sim_times.proofs.ToldLaws.{told_start}
use Rattle.sim_times.proofs.told.Told.new.Goals as goal

pub returns-clause-told : goal.returns-clause-told
returns-clause-told c = told_start _ c.args.values.now _ c.in_ok-from_slice.ensures.items refl c.in_ok-new.ensures
