use Rattle.std.proofs.Common.{◌≡◌, take}
use Rattle.sg_logic.specs.declared.values.Value.TheVariants.{X}
use Rattle.sg_model.specs.Values.{value_at}
use Rattle.fan_round.specs.Lists.{at_places}
use Rattle.sim_times.proofs.told.settle_told.Given as goal

abbrev pub invariant-loop-net : goal.invariant-loop-net
invariant-loop-net l = l.told ≡ at_places (λ net old. value_at l.values net) X (take l.net-index l.touched) l.fn.told
