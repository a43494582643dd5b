-- The parts of timing checks (IEEE 1364-2005, 15.2, 15.3).
use Rattle.std.specs.Prelude.{ℕ, List, [], ◌∷◌}
use Rattle.sg_circuit.specs.declared.checks.CheckKind.{CheckKind}
use Rattle.sg_circuit.specs.declared.checks.CheckKind.TheVariants as check
use Rattle.time_checks.specs.declared.violations.Part.{Part}
use Rattle.time_checks.specs.declared.violations.Part.TheVariants.{Setup, Hold, Recovery, Removal, Width, Period, Skew}

-- the parts by their numbers, in the order in which a check's violations are reported
abbrev pub part_number : Part → ℕ
part_number Setup = 0
part_number Hold = 1
part_number Recovery = 2
part_number Removal = 3
part_number Width = 4
part_number Period = 5
part_number Skew = 6

-- the parts of a check
abbrev pub parts_of : CheckKind → List Part
parts_of check.Setup = Setup ∷ []
parts_of check.Hold = Hold ∷ []
parts_of check.Recovery = Recovery ∷ []
parts_of check.Removal = Removal ∷ []
parts_of check.Skew = Skew ∷ []
parts_of check.Setuphold = Setup ∷ Hold ∷ []
parts_of check.Recrem = Recovery ∷ Removal ∷ []
parts_of check.Width = Width ∷ []
parts_of check.Period = Period ∷ []
