-- The step that a paired step stands for: nothing rests on this but the code.
use Rattle.udp_rows.specs.Meaning.{Step}
use Rattle.udp_table.specs.declared.paired.PairedStep.{PairedStep}
use Rattle.udp_table.specs.Compiled.{inputs_of}

abbrev pub step_of_pairs : PairedStep → Step
step_of_pairs a = record { input = a.input; old = a.old; inputs = inputs_of a.code; state = a.state }
