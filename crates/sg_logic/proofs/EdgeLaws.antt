-- The directions of the two edges, by all pairs of values.
use Rattle.std.proofs.Common.{◌≡◌, refl}
use Rattle.std.specs.Prelude.{nat_lt}
use Rattle.sg_logic.specs.declared.values.Value.{Value}
use Rattle.sg_logic.specs.declared.values.Value.TheVariants.{Zero, One, X, Z}
use Rattle.sg_logic.specs.declared.edges.TheConstants.{POSEDGE, NEGEDGE}
use Rattle.sg_logic.specs.Edges.{has_change, level, DirectionsOfEdges}

posedge : (from to : Value) → has_change POSEDGE from to ≡ nat_lt (level from) (level to)
posedge Zero Zero = refl
posedge Zero One = refl
posedge Zero X = refl
posedge Zero Z = refl
posedge One Zero = refl
posedge One One = refl
posedge One X = refl
posedge One Z = refl
posedge X Zero = refl
posedge X One = refl
posedge X X = refl
posedge X Z = refl
posedge Z Zero = refl
posedge Z One = refl
posedge Z X = refl
posedge Z Z = refl

negedge : (from to : Value) → has_change NEGEDGE from to ≡ nat_lt (level to) (level from)
negedge Zero Zero = refl
negedge Zero One = refl
negedge Zero X = refl
negedge Zero Z = refl
negedge One Zero = refl
negedge One One = refl
negedge One X = refl
negedge One Z = refl
negedge X Zero = refl
negedge X One = refl
negedge X X = refl
negedge X Z = refl
negedge Z Zero = refl
negedge Z One = refl
negedge Z X = refl
negedge Z Z = refl

pub directions : DirectionsOfEdges
directions = record { posedge = posedge; negedge = negedge }
