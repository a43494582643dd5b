-- What comes of the dump of a run: the run again.
use Rattle.std.specs.Prelude.{◌≡◌, ◌≤◌, ℕ, List, Option, None, Result, Ok, Err, length}
use Rattle.sg_circuit.specs.Circuit.{Circuit, scope_at}
use Rattle.sg_delay.specs.declared.corners.Corner.{Corner}
use Rattle.sg_stimulus.specs.Applied.{IsApplied}
use Rattle.sg_stimulus.specs.Seen.{stimulus_seen}
use Rattle.sg_stimulus.specs.Stimulus.{Stimulus}
use Rattle.sg_stimulus.specs.declared.steps.Stimulus as code
use Rattle.sg_text.specs.declared.refusals.Refused.{Refused}
use Rattle.sg_text.specs.declared.refusals.Refused.TheVariants as refused
use Rattle.sim_rounds.specs.Simulated.{run_of_circuit}
use Rattle.vcd_laws.specs.Reading as netlist
use Rattle.vcd_model.specs.Reading.{most_bytes}
use Rattle.vcd_model.specs.declared.kinds.VcdKind.{VcdKind}
use Rattle.vcd_laws.specs.Again.{MakesAgain, dump_of}
use Rattle.vcd_laws.specs.Alike.{AreAlike}

-- a stimulus that makes a run again, unless memory ran out
abbrev pub IsAgain : Circuit → (rounds : ℕ) → Stimulus → Result code.Stimulus (Refused VcdKind) → Type 0
IsAgain circuit rounds stimulus (Ok s) = MakesAgain circuit rounds stimulus (stimulus_seen s)
IsAgain circuit rounds stimulus (Err refused.NoMemory) = Unit {0}
IsAgain circuit rounds stimulus (Err (refused.Fault kind place)) = ⊥

-- The circuit is that of a netlist but for delays and limits, and its run under a stimulus ended whole. The text is the dump of this run, not larger
-- than a file may be, and is read in the scope of the top's name.
abbrev pub ReadsBack : List ℕ → Circuit → (scope : List ℕ) → Result code.Stimulus (Refused VcdKind) → Type 0
ReadsBack text circuit scope result = (texts : List (List ℕ)) (name : Option (List ℕ)) (corner : Corner) (made : Circuit) (rounds : ℕ) (stimulus : Stimulus)
    → netlist.IsRead texts name corner made → AreAlike circuit made
    → IsApplied circuit stimulus → (run_of_circuit circuit rounds stimulus).spent ≡ None
    → text ≡ dump_of circuit rounds stimulus → length text ≤ most_bytes → scope ≡ (scope_at circuit 0).name
    → IsAgain circuit rounds stimulus result
