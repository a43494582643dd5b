-- What a call asks of paths: that what they name is there, and that their delays aren't too long.
use Rattle.std.specs.Prelude.{ℕ, ◌<◌, ◌^◌, All, List, length}
use Rattle.sg_circuit.specs.PathFitting.{IsConditionWithin}
use Rattle.sg_circuit.specs.Timings.{Timing}
use Rattle.sg_circuit.specs.TimingsSeen.{timings_at}
use Rattle.sg_circuit.specs.declared.elements.LegTiming.{LegTiming}
use Rattle.sg_circuit.specs.declared.paths.Path.{Path}

-- the delays are below 2^60
abbrev pub AreNear : List Timing → Type 0
AreNear timings = All (λ t. t.delay < 2 ^ 60) timings

-- what a path names is among so many nets, and in a table of delays and limits
pub record IsPathWithin (nets : ℕ) (timings : List LegTiming) (path : Path) : Type 0 where
  pub condition : IsConditionWithin nets path.condition
  pub timing : path.timing < length timings
  pub near : AreNear (timings_at timings path.timing)
