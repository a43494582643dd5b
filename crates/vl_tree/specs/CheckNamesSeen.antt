-- The code's table of checks, as the definitions see it.
use Rattle.std.specs.Prelude.{ℕ, List}
use Rattle.std.specs.Borrow.{Bor}
use Rattle.vl_tree.specs.declared.check_names.CheckName.{CheckName}
use Rattle.vl_tree.specs.CheckNames.{CheckRow}

abbrev pub row : Bor (List ℕ) × CheckName → CheckRow
row r = record { text = r.0.now; name = r.1 }
