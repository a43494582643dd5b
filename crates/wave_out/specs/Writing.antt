-- What a writer of a value change dump keeps, and what its file holds after the calls that it got.
use Rattle.std.specs.Prelude.{ℕ, ◌≡◌, ◌⊎◌, ◌<◌, ◌==◌, ◌++◌, All, List, [], ◌∷◌, Option, Some, None, Result, Ok, Err, drop, length, map, if◌then◌else◌}
use Rattle.sg_io.specs.Files.{Appends, File}
use Rattle.sg_io.specs.declared.outside.ShelfError.{ShelfError}
use Rattle.sg_model.specs.Machine.{Snapshot}
use Rattle.sg_circuit.specs.Circuit.{Circuit, Variable}
use Rattle.sim_times.specs.Watching.{Call, NetChange}
use Rattle.wave_out.specs.Changes.{IsText}
use Rattle.wave_out.specs.Files.{FileBegins, FileHolds}
use Rattle.wave_out.specs.Scopes.{variables_of}
use Rattle.wave_out.specs.Vcd.{Dump, dump_text, dump_with, header, time_line}

-- the nets as a call tells them
abbrev pub snapshot_of : Call → Snapshot
snapshot_of c = record { time = c.time; values = c.values }

-- the end of a dump at a time: its line, unless that time has a block
abbrev pub dump_at_end : ℕ → Dump → Dump
dump_at_end time d = if d.time == time then d else record d { text = d.text ++ time_line time; time = time }

-- a later call with changes adds its block, if it has one; one without changes is the end
abbrev pub later : List Variable → Call → List NetChange → Dump → Option Dump
later variables c [] d = Some (dump_at_end c.time d)
later variables c (n ∷ ns) d = dump_with variables (snapshot_of c) (Some d)

-- one call more
abbrev pub with_call : List Variable → Call → Option Dump → Option Dump
with_call variables c None = dump_with variables (snapshot_of c) None
with_call variables c (Some d) = later variables c c.changed d

-- what was written after calls
abbrev pub dump_after : List Variable → Option Dump → List Call → Option Dump
dump_after variables d [] = d
dump_after variables d (c ∷ cs) = dump_after variables (with_call variables c d) cs

-- the text of a dump after these calls
abbrev pub text_after : Circuit → List Call → List ℕ
text_after circuit calls = header circuit ++ dump_text (dump_after (variables_of circuit) None calls)

abbrev pub time_of : Option Dump → Option ℕ
time_of None = None
time_of (Some d) = Some d.time

-- a writer: the name of its file, the circuit, and the time that it wrote last, if any
pub record Writer : Type 0 where
  pub name : List ℕ
  pub circuit : Circuit
  pub last : Option ℕ

-- the text of a call
abbrev pub IsTextOf : Writer → Call → Option (List ℕ) → Type 0
IsTextOf w c text = IsText w.last c.time (map (λ x. x.bits) (variables_of w.circuit)) c.changed c.values text

-- what adding a text leaves, if there is one
abbrev pub AddsText : Option (List ℕ) → ℕ → Writer → Writer → Option (List File) → Option (List File) → Type 0
AddsText None time w w' old new = (w' ≡ w) × (new ≡ old)
AddsText (Some t) time w w' old new = (w' ≡ record w { last = Some time }) × Appends w.name t old new (Ok tt)

-- the text of a call wasn't added whole
pub record BreaksOff (c : Call) (w : Writer) (old new : Option (List File)) : Type 0 where
  pub text : List ℕ
  pub is : IsTextOf w c (Some text)
  pub error : ShelfError
  pub put : Appends w.name text old new (Err error)

-- what a call leaves: its text was added, or it wasn't made, or not added whole
abbrev pub LeavesText : Call → Writer → Writer → Option (List File) → Option (List File) → Result Unit ShelfError → Type 0
LeavesText c w w' old new (Ok u) = (text : Option (List ℕ)) × IsTextOf w c text × AddsText text c.time w w' old new
LeavesText c w w' old new (Err e) = (w' ≡ w) × ((new ≡ old) ⊎ BreaksOff c w old new)

-- the file holds a text, and the writer keeps the last time of these calls
pub record HoldsText (w : Writer) (told : Option (List File)) (calls : List Call) (text : List ℕ) : Type 0 where
  pub file : FileHolds w.name text told
  pub last : w.last ≡ time_of (dump_after (variables_of w.circuit) None calls)

-- it is the text of these calls
abbrev pub Holds : Writer → Option (List File) → List Call → Type 0
Holds w told calls = HoldsText w told calls (text_after w.circuit calls)

-- what the text of some calls has behind that of the first of them
abbrev pub text_behind : Circuit → List Call → List Call → List ℕ
text_behind circuit first calls = drop (length (text_after circuit first)) (text_after circuit calls)

-- a writer that goes on has, of calls that are all later than the first of them, what their text has behind that of the first; it was told no list without one
abbrev pub HoldsRest : Writer → Option (List File) → List Call → Type 0
HoldsRest w told [] = ⊥
HoldsRest w told (first ∷ later) = All (λ c. first.time < c.time) later → HoldsText w told (first ∷ later) (text_behind w.circuit (first ∷ []) (first ∷ later))

-- the file holds the first bytes of that
abbrev pub BeginsRest : Writer → Option (List File) → List Call → Type 0
BeginsRest w told [] = ⊥
BeginsRest w told (first ∷ later) = All (λ c. first.time < c.time) later → FileBegins w.name (text_behind w.circuit (first ∷ []) (first ∷ later)) told
