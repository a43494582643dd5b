-- What makes the times of a circuit, as it is in a state.
use Rattle.std.specs.Prelude.{◌≡◌, ℕ, List, length, map}
use Rattle.sg_logic.specs.declared.values.Value.{Value}
use Rattle.sg_circuit.specs.Circuit.{Circuit}
use Rattle.sg_circuit.specs.FanOut.{IsFanOut}
use Rattle.sg_circuit.specs.declared.checks.Check.{Check}
use Rattle.sg_model.specs.Machine.{Snapshot, State}
use Rattle.fan_round.specs.declared.nets.Nets.{Nets}
use Rattle.fan_round.specs.declared.work.WorkList.{WorkList}
use Rattle.fan_round.specs.Nets.{stamp_seen, AreNets}
use Rattle.fan_round.specs.States.{IsIdle}
use Rattle.time_checks.specs.declared.latest.Latest.{Latest}
use Rattle.time_checks.specs.Adjusted.{adjusted_checks}
use Rattle.time_checks.specs.Checking.{Kept, Stands}
use Rattle.sim_times.specs.declared.told.Told.{Told}
use Rattle.sim_times.specs.Told.{IsTold}
use Rattle.sim_machine.specs.Elements.{ElementsSeen}
use Rattle.sim_machine.specs.Simulated.{machine_of}

-- its nets, elements and what they have pending are those of the state, where this was known of the events of its checks before
pub record IsEngineAt (circuit : Circuit) (earlier : List Latest) (state : State) (nets : Nets) (last_told : Told) (work : WorkList) (parts : ElementsSeen) (pending : List (List (ℕ × Value))) (fan : List (List ℕ)) (driven : List ℕ) : Type 0 where
  pub circuit_of : parts.circuit ≡ circuit
  pub earlier_of : parts.earlier ≡ earlier
  pub states : parts.states ≡ state.states
  pub values : nets.values.items ≡ state.values
  pub before : nets.before.items ≡ state.values
  pub stamps : map stamp_seen nets.stamps.items ≡ state.stamps
  pub nets_are : AreNets nets
  pub told : IsTold last_told nets.values.items
  pub values_told : last_told.values.items ≡ nets.values.items
  pub idle : IsIdle work (length circuit.elements)
  pub lists : pending ≡ state.lists
  pub fan_out : IsFanOut (machine_of circuit).inputs fan
  pub each_net : length fan ≡ length circuit.nets
  pub outputs : driven ≡ (machine_of circuit).outputs

-- its checks have seen these snapshots, and no net changed since
pub record AreChecksAt (circuit : Circuit) (earlier_events : List Latest) (snapshots : List Snapshot) (checks : List Check) (kept : Kept) (touched named : WorkList) : Type 0 where
  pub checks_are : checks ≡ circuit.checks
  pub timings_are : kept.checks ≡ adjusted_checks circuit
  pub earlier : kept.earlier ≡ earlier_events
  pub last : length kept.last ≡ length circuit.nets
  pub stands : Stands kept snapshots
  pub untouched : IsIdle touched (length circuit.nets)
  pub unnamed : IsIdle named (length circuit.nets)

-- they are a circuit's, by a checker, and no net changed since its last snapshot
pub record AreChecksBy (circuit : Circuit) (checker : Kept) (checks : List Check) (kept : Kept) (touched named : WorkList) : Type 0 where
  pub checks_are : checks ≡ circuit.checks
  pub checker_is : kept ≡ checker
  pub untouched : IsIdle touched (length circuit.nets)
  pub unnamed : IsIdle named (length circuit.nets)
