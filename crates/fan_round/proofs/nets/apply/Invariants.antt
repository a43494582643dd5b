use Rattle.std.proofs.Common.{◌≡◌, ◌≤◌, map, take}
use Rattle.std.specs.Vec.{vec_capacity}
use Rattle.sg_model.specs.Round.{changed_by}
use Rattle.sg_stimulus.specs.Seen.{set_seen}
use Rattle.fan_round.specs.Nets.{AreChanged}
use Rattle.fan_round.proofs.nets.apply.Given as goal

abbrev pub invariant-loop-change : goal.invariant-loop-change
invariant-loop-change l = record {
  values : l.values ≡ changed_by (map (λ c. set_seen c) (take l.change-index l.changes)) l.fn.values;
  changed : AreChanged l.before l.values l.changed.items;
  capacity : vec_capacity l.fn.changed ≤ vec_capacity l.changed;
}
