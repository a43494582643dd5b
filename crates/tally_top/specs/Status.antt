-- The program's statuses: their numbers, and what they say.
use Rattle.std.specs.Prelude.{ℕ, Bool, true, false, IsTrue}
use Rattle.tally_top.specs.declared.status.Status.{Status}
use Rattle.tally_top.specs.declared.status.Status.TheVariants as status

abbrev pub code_of : Status → ℕ
code_of status.Clear = 0
code_of status.Left = 1
code_of status.Usage = 2
code_of status.Refused = 5
code_of status.Fault = 6
code_of status.NoMemory = 9
code_of status.Missing = 11

-- the report is one of figures
abbrev pub is_report : Status → Bool
is_report status.Clear = true
is_report status.Left = true
is_report _ = false

abbrev pub IsReport : Status → Type 0
IsReport how = IsTrue (is_report how)
