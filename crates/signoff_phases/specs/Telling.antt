-- The lines of faults, and how a report is put.
use Rattle.std.specs.Prelude.{ℕ, ◌++◌, List, Option, codes}
use Rattle.wave_out.specs.Texts.{line}
use Rattle.signoff_phases.specs.declared.status.Status.{Status}
use Rattle.sg_io.specs.Files.{File}
use Rattle.sg_io.specs.Put.{SinkTold}
use Rattle.signoff_phases.specs.Putting.{PutsAll, PutsTillFault}
use Rattle.signoff_phases.specs.Status.{IsRunEnd}

-- the lines of a fault, of a fault of the report's own sink, and of want of memory
abbrev pub fault_line : List ℕ → List ℕ
fault_line name = line (codes "fault: " ++ name)

abbrev pub report_fault_line : List ℕ
report_fault_line = fault_line (codes "report")

abbrev pub no_memory_line : List ℕ
no_memory_line = line (codes "no memory")

-- a report was put: all of it; or, but at the end of a run, its first bytes till a call failed
pub data PutsReport (how : Status) (text : List ℕ) (old new : SinkTold) : Type 0 where
  whole : PutsAll text old new → PutsReport how text old new
  till_fault : (IsRunEnd how → ⊥) → PutsTillFault text old new → PutsReport how text old new

-- what a shelf tells: its files, where it does; how many calls failed, and the name in the last of them
pub record ShelfTold : Type 0 where
  pub files : Option (List File)
  pub faults : ℕ
  pub last : Option (List ℕ)
