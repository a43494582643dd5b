-- What is written of each circuit that is read of a netlist is named.
use Rattle.std.specs.Prelude.{ℕ, List, All, Option}
use Rattle.sg_circuit.specs.Circuit.{Circuit}
use Rattle.sg_delay.specs.declared.corners.Corner.{Corner}
use Rattle.vcd_laws.specs.Reading.{IsRead}
use Rattle.annotation_model.specs.Spots.{all_checked, spots}
use Rattle.written_reading.specs.Named.{IsNamedCheck, IsNamedSpot}
use Rattle.written_names.proofs.NoFaultBelow.{none_below}
use Rattle.written_names.proofs.WrittenChecks.{checks-named}
use Rattle.written_names.proofs.WrittenSpots.{spots-named}

pub read-spots : (texts : List (List ℕ)) (top : Option (List ℕ)) (corner : Corner) (c : Circuit) → IsRead texts top corner c → All (IsNamedSpot c) (spots c)
read-spots texts top corner c r = let e = r.is_elaborated in spots-named r.tree e.top corner c (none_below r.tree top corner c e) e.is_circuit

pub read-checks : (texts : List (List ℕ)) (top : Option (List ℕ)) (corner : Corner) (c : Circuit) → IsRead texts top corner c → All (IsNamedCheck c) (all_checked c)
read-checks texts top corner c r = let e = r.is_elaborated in checks-named r.tree e.top corner c (none_below r.tree top corner c e) e.is_circuit
