use Rattle.std.specs.Prelude.{map}
use Rattle.std.proofs.Common.{◌≡◌, take}
use Rattle.sg_model.specs.Time.{toggles as toggles_of}
use Rattle.sg_stimulus.specs.Seen.{set_seen}
use Rattle.sim_rounds.proofs.circuit_checks.add_toggles.Given as goal

-- the toggles of the nets so far
abbrev pub invariant-loop-net : goal.invariant-loop-net
invariant-loop-net l = map (λ c. set_seen c) l.toggles.items ≡ toggles_of (take l.net-index l.nets) l.values
