-- The places that an entry is for, by their numbers.
use Rattle.std.specs.Prelude.{ℕ, ◌&&◌, nat_lt, Bool, [], length, slice_index_or, None}
use Rattle.sg_circuit.specs.Circuit.{Circuit}
use Rattle.sg_circuit.specs.declared.checks.CheckKind.TheVariants.{Setup}
use Rattle.sdf_tree.specs.Meant.{Sdf}
use Rattle.annotation_model.specs.Given.{Given}
use Rattle.annotation_model.specs.Spots.{Spot, leg_spot, spots, is_for_spot, Checked, all_checked, is_for_check}

abbrev pub no_spot : Spot
no_spot = leg_spot 0 [] 0 []

abbrev pub no_check : Checked
no_check = record {
  check = record { scope = 0; kind = Setup; refer = record { name = []; bit = None }; datum = None; notifier = None; place = record { file = 0; byte = 0 } };
  timing = record { kind = Setup; refer = record { net = 0; edge = None; condition = None }; datum = None; limits = []; threshold = 0; late = None };
  written = record { refer = None; datum = None };
}

-- what stands at a place of the tables; past the end a blank
abbrev pub spot_at : Circuit → ℕ → Spot
spot_at c k = slice_index_or (spots c) k no_spot

abbrev pub check_at : Circuit → ℕ → Checked
check_at c k = slice_index_or (all_checked c) k no_check

abbrev pub is_found_spot : Circuit → Sdf → Given → ℕ → Bool
is_found_spot c sdf g k = nat_lt k (length (spots c)) && is_for_spot c sdf.divider g (spot_at c k)

abbrev pub is_found_check : Circuit → Sdf → Given → ℕ → Bool
is_found_check c sdf g k = nat_lt k (length (all_checked c)) && is_for_check c sdf.divider g (check_at c k)
