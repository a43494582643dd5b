use Rattle.std.proofs.Common.{◌≡◌, map, take}
use Rattle.sim_times.specs.Told.{changes_in}
use Rattle.sim_times.specs.Watching.{net_change}
use Rattle.sim_times.proofs.told.note_all.Given as goal

abbrev pub invariant-loop-net : goal.invariant-loop-net
invariant-loop-net l = map net_change l.changes.items ≡ changes_in l.told l.values (take l.net-index l.touched)
