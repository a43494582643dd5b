-- The program's tasks as the definition sees them, and what is so of what is asked.
use Rattle.std.specs.Prelude.{◌≤◌, ◌<◌, length, map}
use Rattle.sg_circuit.specs.Closed.{IsClosed}
use Rattle.sg_stimulus.specs.Applied.{IsApplied}
use Rattle.sg_stimulus.specs.Seen.{stimulus_seen}
use Rattle.run_report.specs.Reporting.{unmatched_seen}
use Rattle.run_words.specs.declared.words.Command as code_command
use Rattle.run_words.specs.declared.words.Asked as code_asked
use Rattle.run_words.specs.declared.words.Asked.TheVariants as asked
use Rattle.signoff_phases.specs.AnnotatedSeen.{annotated_seen}
use Rattle.signoff_top.specs.declared.phases.Task as code_task
use Rattle.signoff_top.specs.declared.writing.Written as code_written
use Rattle.sim_rounds.specs.MomentsSeen.{moment_seen}
use Rattle.signoff_top.specs.declared.stopping.Rest as code_rest
use Rattle.signoff_top.specs.Phases.{Rest, Task, Written}

abbrev pub task_seen : code_task.Task → Task
task_seen t = record { circuit = t.circuit; unmatched = map (unmatched_seen t.sdf.items) t.unmatched.items; rounds = t.rounds; input = stimulus_seen t.input; vcd = t.vcd.now }

-- a task as it is made: the parts of its circuit fit together, and its stimulus sets inputs of that
abbrev pub IsSound : Task → Type 0
IsSound task = IsClosed task.circuit × IsApplied task.circuit task.input

abbrev pub written_seen : code_written.Written → Written
written_seen w = record { unmatched = (annotated_seen w.annotated).unmatched; text = w.text.items }

abbrev pub rest_seen : code_rest.Rest → Rest
rest_seen r = record { task = task_seen r.task; moment = moment_seen r.moment }

-- a design has a netlist, and the numbers of a run are in their ranges
abbrev pub IsRunReady : code_command.Command → Type 0
IsRunReady c = ((1 ≤ c.rounds) × (1 ≤ c.wheel) × (c.wheel ≤ 1048576)) × (0 < length c.design.netlists.items)

abbrev pub IsReady : code_asked.Asked → Type 0
IsReady (asked.Run c) = IsRunReady c
IsReady (asked.Stop c s) = IsRunReady c
IsReady (asked.Rest c state) = IsRunReady c
IsReady (asked.Writing w) = 0 < length w.design.netlists.items
IsReady (asked.Bounds d) = 0 < length d.netlists.items
IsReady (asked.Case stages) = Unit {0}
