-- What a writer keeps of the variables of its circuit.
use Rattle.std.specs.Prelude.{◌≡◌, ◌<◌, ◌^◌, All, length, map}
use Rattle.sg_circuit.specs.Circuit.{Circuit}
use Rattle.sg_circuit.specs.FanOut.{IsFanOut}
use Rattle.wave_out.specs.Marks.{AreClear}
use Rattle.wave_out.specs.Ready.{AreLines}
use Rattle.wave_out.specs.Scopes.{variables_of}
use Rattle.wave_out.specs.declared.shown.Shown.{Shown}

-- how many variables there are, the bits and the line of each, the variables that have each net, and no marks
pub record IsShown (circuit : Circuit) (s : Shown) : Type 0 where
  pub count : s.count ≡ length s.variables
  pub few : length s.variables < 2 ^ 32
  pub bits : s.variables ≡ map (λ x. x.bits) (variables_of circuit)
  pub lines : AreLines s.variables s.lines.items
  pub within : All (λ b. All (λ n. n < length circuit.nets) b) s.variables
  pub index : IsFanOut s.variables s.index
  pub nets : length s.index ≡ length circuit.nets
  pub clear : AreClear (length s.variables) s.marks
