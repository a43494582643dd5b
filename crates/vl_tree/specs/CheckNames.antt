-- The names of timing checks (IEEE 1364-2005, clause 15).
use Rattle.std.specs.Prelude.{ℕ, List, [], ◌∷◌, Option, Some, None, codes, nat_eq, if◌then◌else◌}
use lib.Pointwise.{pointwise}
use Rattle.vl_tree.specs.declared.check_names.CheckName.{CheckName}
use Rattle.vl_tree.specs.declared.check_names.CheckName.TheVariants.{OneLimit, TwoLimits, Width, Period}
use Rattle.vl_tree.specs.declared.check_names.OneLimitCheck.TheVariants.{Setup, Hold, Recovery, Removal, Skew}
use Rattle.vl_tree.specs.declared.check_names.TwoLimitCheck.TheVariants.{SetupHold, RecRem}

-- a check and its name
pub record CheckRow : Type 0 where
  pub text : List ℕ
  pub name : CheckName

abbrev pub names : List ℕ → CheckName → CheckRow
names text name = record { text = text; name = name }

unfoldable pub check_rows : List CheckRow
check_rows =
    names (codes "$setup") (OneLimit Setup) ∷ names (codes "$hold") (OneLimit Hold) ∷
    names (codes "$recovery") (OneLimit Recovery) ∷ names (codes "$removal") (OneLimit Removal) ∷
    names (codes "$skew") (OneLimit Skew) ∷ names (codes "$setuphold") (TwoLimits SetupHold) ∷
    names (codes "$recrem") (TwoLimits RecRem) ∷ names (codes "$width") Width ∷
    names (codes "$period") Period ∷ []

-- the check of the first of some rows with a name
abbrev pub check_in : List ℕ → List CheckRow → Option CheckName
check_in text [] = None
check_in text (r ∷ rs) = if pointwise nat_eq r.text text then Some r.name else check_in text rs

-- the check that a text names
abbrev pub check_of : List ℕ → Option CheckName
check_of text = check_in text check_rows
