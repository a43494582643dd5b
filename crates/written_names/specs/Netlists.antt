-- Circuits as netlist files make them, whatever delays and limits they have.
use Rattle.std.specs.Prelude.{ℕ, List, Option}
use Rattle.sg_circuit.specs.Circuit.{Circuit}
use Rattle.sg_delay.specs.declared.corners.Corner.{Corner}
use Rattle.vcd_laws.specs.Reading.{IsRead}
use Rattle.written_giving.specs.AnnotatedBack.{IsLike}

pub record IsOfNetlist (c : Circuit) : Type 0 where
  pub texts : List (List ℕ)
  pub top : Option (List ℕ)
  pub corner : Corner
  pub made : Circuit
  pub read : IsRead texts top corner made
  pub like : IsLike made c
