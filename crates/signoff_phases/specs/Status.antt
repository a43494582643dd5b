-- The program's statuses: their numbers, and what they say.
use Rattle.std.specs.Prelude.{ℕ, Bool, true, false, IsTrue}
use Rattle.signoff_phases.specs.declared.status.Status.{Status}
use Rattle.signoff_phases.specs.declared.status.Status.TheVariants as status

abbrev pub code_of : Status → ℕ
code_of status.Clean = 0
code_of status.Violations = 1
code_of status.Usage = 2
code_of status.Netlist = 3
code_of status.Sdf = 4
code_of status.Stimulus = 5
code_of status.Fault = 6
code_of status.Rounds = 7
code_of status.Unwritable = 8
code_of status.NoMemory = 9
code_of status.Save = 10
code_of status.Missing = 11

-- the run came to its end
abbrev pub is_run_end : Status → Bool
is_run_end status.Clean = true
is_run_end status.Violations = true
is_run_end _ = false

abbrev pub IsRunEnd : Status → Type 0
IsRunEnd how = IsTrue (is_run_end how)

-- every status but those of a fault and of want of memory says what the definition says
abbrev pub IsDecided : Status → Type 0
IsDecided status.Fault = ⊥
IsDecided status.NoMemory = ⊥
IsDecided _ = Unit {0}
