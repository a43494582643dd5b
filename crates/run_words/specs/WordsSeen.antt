-- Joins `Words` to the code.
use Rattle.std.specs.Prelude.{map, option_map}
use Rattle.run_words.specs.declared.designs.Design as code_design
use Rattle.run_words.specs.declared.designs.Writing as code_writing
use Rattle.run_words.specs.declared.words.Command as code
use Rattle.run_words.specs.declared.inputs.Input as code_input
use Rattle.run_words.specs.declared.inputs.Input.TheVariants as input
use Rattle.run_words.specs.declared.words.Asked as code_asked
use Rattle.run_words.specs.declared.words.Asked.TheVariants as asked
use Rattle.run_words.specs.declared.stops.Stop as code_stop
use Rattle.run_words.specs.Words.{Asked, a_run, a_stop, a_rest, a_writing, the_bounds, a_case, a_stimulus, a_wave, Command, Design, Input, Stop, Writing}

abbrev pub input_seen : code_input.Input → Input
input_seen (input.Stimulus file) = a_stimulus file.now
input_seen (input.Wave file scope) = a_wave file.now (option_map (λ path. path.now) scope)

abbrev pub design_seen : code_design.Design → Design
design_seen d = record {
  netlists = map (λ name. name.now) d.netlists.items;
  sdf = option_map (λ name. name.now) d.sdf;
  top = option_map (λ name. name.now) d.top;
  corner = d.corner;
}

abbrev pub command_seen : code.Command → Command
command_seen c = record { design = design_seen c.design; input = input_seen c.input; vcd = c.vcd.now; rounds = c.rounds; wheel = c.wheel }

abbrev pub stop_seen : code_stop.Stop → Stop
stop_seen s = record { time = s.time; save = s.save.now }

abbrev pub writing_seen : code_writing.Writing → Writing
writing_seen w = record { design = design_seen w.design; out = w.out.now }

abbrev pub asked_seen : code_asked.Asked → Asked
asked_seen (asked.Run c) = a_run (command_seen c)
asked_seen (asked.Stop c s) = a_stop (command_seen c) (stop_seen s)
asked_seen (asked.Rest c state) = a_rest (command_seen c) state.now
asked_seen (asked.Writing w) = a_writing (writing_seen w)
asked_seen (asked.Bounds d) = the_bounds (design_seen d)
asked_seen (asked.Case stages) = a_case stages
