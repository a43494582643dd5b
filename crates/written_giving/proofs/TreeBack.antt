-- The law: the entries of the tree, wherever they stand, give the circuit back.
use Rattle.std.proofs.Common.{◌≡◌, List, ◌∙◌, ap}
use Rattle.std.specs.Prelude.{pos, neg_ℤ, map, length}
use Rattle.std.specs.List.{flat_map, range_with_len}
use Rattle.sg_delay.specs.declared.corners.Corner.{Corner}
use Rattle.sg_circuit.specs.Circuit.{Circuit}
use Rattle.sg_circuit.specs.Closed.{IsClosed}
use Rattle.sdf_tree.specs.declared.words.Divider.TheVariants.{Slash, Point}
use Rattle.sdf_tree.specs.Meant.{Sdf, sdf_of, cells_in, units_in, dividers_in, last_or}
use Rattle.sdf_tree.specs.Written.{FilePart}
use Rattle.annotation_model.specs.Given.{given_in, given}
use Rattle.written_model.specs.Faults.{IsFaultless}
use Rattle.written_model.specs.Tree.{tree}
use Rattle.written_reading.specs.Named.{IsNamed}
use Rattle.written_reading.specs.Placeless.{placeless}
use Rattle.written_giving.specs.AnnotatedBack.{IsLike, IsSettled, Gives}
use Rattle.written_giving.proofs.BackLaws.{given-back}
use Rattle.written_giving.proofs.PlaceLaws.{unplaced, given-same, units-same, dividers-same}
use Rattle.written_giving.proofs.FileLaws.{all-small, all-matched}
use Rattle.written_giving.proofs.TreeLaws.{given_of, tree-given, tree-units, tree-dividers}

pub tree_back : (c : Circuit) → IsClosed c → IsNamed c → IsSettled c → IsFaultless c → (ps : List FilePart) → placeless ps ≡ tree c → (from : Circuit) → IsClosed from → IsLike c from → (corner : Corner) → Gives (sdf_of ps) corner from c
tree_back c closed named settled faultless ps is from start like corner =
    let sdf : Sdf = sdf_of ps in
    let unit : sdf.unit ≡ c.tick = ap (λ us. last_or (neg_ℤ (pos 9)) us) (units-same ps ∙ (ap (flat_map units_in) is ∙ tree-units c)) in
    let divider : sdf.divider ≡ Slash = ap (λ ds. last_or Point ds) (dividers-same ps ∙ (ap (flat_map dividers_in) is ∙ tree-dividers c)) in
    let all : map unplaced (given sdf) ≡ flat_map (given_of c) (range_with_len 0 (length c.scopes)) = given-same ps ∙ (ap (λ qs. flat_map given_in (flat_map cells_in qs)) is ∙ tree-given c) in
    record {
      small = all-small c from closed named faultless.scopes like sdf corner unit divider (given sdf) all;
      matched = all-matched c from closed named faultless.scopes like sdf corner unit divider (given sdf) all;
      gives = given-back c from closed named settled faultless.scopes start like sdf corner unit divider (given sdf) all;
    }
