-- The law of a dump that is read back, as a statement: read as a stimulus, the dump of a run makes the run again.
use Rattle.std.specs.Prelude.{◌≡◌, ◌≤◌, ℕ, List, Option, None, length}
use Rattle.sg_circuit.specs.Circuit.{Circuit, scope_at}
use Rattle.sg_delay.specs.declared.corners.Corner.{Corner}
use Rattle.sg_stimulus.specs.Applied.{IsApplied}
use Rattle.sg_stimulus.specs.Stimulus.{Stimulus}
use Rattle.sim_rounds.specs.Simulated.{run_of_circuit}
use Rattle.netlist_read.specs.Reading as netlist
use Rattle.vcd_model.specs.Reading.{IsRead, most_bytes}
use Rattle.vcd_laws.specs.Again.{MakesAgain, dump_of}
use Rattle.vcd_laws.specs.Alike.{AreAlike}

-- A circuit is that of a netlist but for delays and limits, and its run under a stimulus ended whole. Then its dump, if it isn't larger than a
-- file may be, is read as a stimulus in the top's scope, and this makes the run again.
abbrev pub DumpIsReadBack : Type 0
DumpIsReadBack = (texts : List (List ℕ)) (name : Option (List ℕ)) (corner : Corner) (made circuit : Circuit) (rounds : ℕ) (stimulus : Stimulus)
    → netlist.IsRead texts name corner made → AreAlike circuit made
    → IsApplied circuit stimulus → (run_of_circuit circuit rounds stimulus).spent ≡ None
    → length (dump_of circuit rounds stimulus) ≤ most_bytes
    → (wave : Stimulus) × IsRead (dump_of circuit rounds stimulus) circuit (scope_at circuit 0).name wave × MakesAgain circuit rounds stimulus wave
