-- The program's statuses: their numbers, and what they say.
use Rattle.std.specs.Prelude.{ℕ, Bool, true, false, IsTrue}
use Rattle.fit_top.specs.declared.status.Status.{Status}
use Rattle.fit_top.specs.declared.status.Status.TheVariants as status

abbrev pub code_of : Status → ℕ
code_of status.Same = 0
code_of status.Told = 1
code_of status.Usage = 2
code_of status.Netlist = 3
code_of status.Sdf = 4
code_of status.Fault = 6
code_of status.NoMemory = 9
code_of status.Missing = 11

-- the report is one of changes
abbrev pub is_report : Status → Bool
is_report status.Same = true
is_report status.Told = true
is_report _ = false

abbrev pub IsReport : Status → Type 0
IsReport how = IsTrue (is_report how)

-- nothing is made
abbrev pub IsRefusal : Status → Type 0
IsRefusal status.Usage = Unit {0}
IsRefusal status.Netlist = Unit {0}
IsRefusal status.Sdf = Unit {0}
IsRefusal status.Missing = Unit {0}
IsRefusal _ = ⊥
