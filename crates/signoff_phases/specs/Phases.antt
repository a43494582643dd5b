-- What is read before a run, phase by phase. Each phase has its outcomes, over what the phases before it gave: a value for
-- the phases after it, or a refusal, with which the work ends.
use Rattle.std.specs.Prelude.{ℕ, ◌≡◌, ◌++◌, ◌+◌, ◌^◌, List, [], ◌∷◌, Option, Some, None, Result, Ok, Err, codes, decimal, map, slice_index_or, take}
use Rattle.sg_io.specs.Files.{File, bytes_of}
use Rattle.sg_text.specs.declared.places.Place.{Place}
use Rattle.sg_delay.specs.declared.corners.Corner.{Corner}
use Rattle.sg_circuit.specs.Circuit.{Circuit, scope_at}
use Rattle.sg_stimulus.specs.Stimulus.{Stimulus}
use Rattle.sdf_tree.specs.Meant.{Sdf}
use Rattle.annotation_model.specs.Annotated as annotation
use Rattle.late_limits.specs.Adjusted.{IsAdjustedFrom}
use Rattle.run_report.specs.Report.{Unmatched}
use Rattle.wave_out.specs.Texts.{line}
use Rattle.run_report.specs.Texts.{line_of}
use Rattle.run_words.specs.Words.{Design, Input, a_stimulus, a_wave, file_of}
use Rattle.netlist_read.specs.Kinds.{Kind, kind_text}
use Rattle.netlist_read.specs.Reading as netlist_text
use Rattle.sdf_read.specs.Outcomes.{Fault}
use Rattle.sdf_read.specs.Reads.{Reads}
use Rattle.sdf_read.specs.declared.faults.SdfKind.{SdfKind}
use Rattle.sdf_read.specs.declared.faults.SdfKind.TheVariants as delays
use Rattle.stim_read.specs.Reading as stimulus_text
use Rattle.stim_read.specs.declared.kinds.StimKind.{StimKind}
use Rattle.stim_read.specs.declared.kinds.StimKind.TheVariants as stim
use Rattle.vcd_model.specs.Faults as wave
use Rattle.vcd_model.specs.Reading as wave_text
use Rattle.vcd_model.specs.declared.kinds.VcdKind.{VcdKind}
use Rattle.vcd_model.specs.declared.kinds.VcdKind.TheVariants as vcd
use Rattle.sim_save.specs.declared.kinds.SaveKind.{SaveKind}
use Rattle.sim_save.specs.declared.kinds.SaveKind.TheVariants as saved_kind
use Rattle.signoff_phases.specs.declared.status.Status.{Status}
use Rattle.signoff_phases.specs.declared.status.Status.TheVariants as status

-- why the work ends before the run
pub data Refusal : Type 0 where
  words : Refusal
  -- the file's name
  missing : List ℕ → Refusal
  -- the file's name, the line, and the kind as it is written
  netlist : List ℕ → ℕ → List ℕ → Refusal
  sdf : List ℕ → ℕ → List ℕ → Refusal
  stimulus : List ℕ → ℕ → List ℕ → Refusal
  save : List ℕ → ℕ → List ℕ → Refusal
  -- why delays can't be written, and the path of an instance in which that is so
  unwritten : List ℕ → List ℕ → Refusal

abbrev pub status_of_refusal : Refusal → Status
status_of_refusal words = status.Usage
status_of_refusal (missing name) = status.Missing
status_of_refusal (netlist name n kind) = status.Netlist
status_of_refusal (sdf name n kind) = status.Sdf
status_of_refusal (stimulus name n kind) = status.Stimulus
status_of_refusal (save name n kind) = status.Save
status_of_refusal (unwritten kind path) = status.Unwritable

-- what is refused: the file's name, the line and the kind, with colons between them
abbrev pub located_line : List ℕ → List ℕ → ℕ → List ℕ → List ℕ
located_line what name n kind = line (what ++ name ++ codes ":" ++ decimal n ++ codes ": " ++ kind)

-- a refusal as it is told, by a program of this usage
abbrev pub refusal_line : (usage : List ℕ) → Refusal → List ℕ
refusal_line usage words = line usage
refusal_line usage (missing name) = line (codes "missing: " ++ name)
refusal_line usage (netlist name n kind) = located_line (codes "netlist refused: ") name n kind
refusal_line usage (sdf name n kind) = located_line (codes "sdf refused: ") name n kind
refusal_line usage (stimulus name n kind) = located_line (codes "stimulus refused: ") name n kind
refusal_line usage (save name n kind) = located_line (codes "save refused: ") name n kind
refusal_line usage (unwritten kind path) = line (codes "not written: " ++ kind ++ codes " at " ++ path)

-- a phase and then another, over what the first gave; a refusal of the first is that of both
pub data Then {A B : Type 0} (first : Result A Refusal → Type 0) (next : A → Result B Refusal → Type 0) : Result B Refusal → Type 0 where
  stops : (r : Refusal) → first (Err r) → Then first next (Err r)
  goes_on : (a : A) (o : Result B Refusal) → first (Ok a) → next a o → Then first next o

-- the words
abbrev pub WordsOutcome : {A : Type 0} → Option A → Result A Refusal → Type 0
WordsOutcome None outcome = outcome ≡ Err words
WordsOutcome (Some asked) outcome = outcome ≡ Ok asked

-- a file is read: the first bytes of it, up to the limit, which is one above what an input file may have
abbrev pub read_limit : ℕ
read_limit = 2 ^ 28 + 1

abbrev pub FileWithin : (limit : ℕ) → List ℕ → Option (List ℕ) → Result (List ℕ) Refusal → Type 0
FileWithin limit name None outcome = outcome ≡ Err (missing name)
FileWithin limit name (Some bytes) outcome = outcome ≡ Ok (take limit bytes)

abbrev pub FileOutcome : List ℕ → Option (List ℕ) → Result (List ℕ) Refusal → Type 0
FileOutcome name bytes outcome = FileWithin read_limit name bytes outcome

-- the files of some names are read in order; the first that isn't held is missing
abbrev pub FilesOutcome : List (List ℕ) → List File → Result (List (List ℕ)) Refusal → Type 0
FilesOutcome [] files outcome = outcome ≡ Ok []
FilesOutcome (n ∷ ns) files outcome = Then (FileOutcome n (bytes_of n files)) (λ text. Then (FilesOutcome ns files) (λ texts o. o ≡ Ok (text ∷ texts))) outcome

-- a fault of a netlist, named by the file in which it stands: names and texts of the files are those of the words, in order
abbrev pub refused_at : List (List ℕ) → List (List ℕ) → Kind → Place → Refusal
refused_at names texts kind place = netlist (slice_index_or names place.file []) (line_of (slice_index_or texts place.file []) place.byte) (kind_text kind)

-- the netlist's texts are read in, with a top of this name, if one is given, and the values of this corner
abbrev pub NetlistOutcome : List (List ℕ) → List (List ℕ) → Option (List ℕ) → Corner → Result Circuit Refusal → Type 0
NetlistOutcome names texts top corner (Ok circuit) = netlist_text.IsRead texts top corner circuit
NetlistOutcome names texts top corner (Err r) = (kind : Kind) × (place : Place) × netlist_text.FaultStands texts top corner kind place × (r ≡ refused_at names texts kind place)

-- the kinds of an SDF file's faults as they are written
abbrev pub sdf_kind : SdfKind → List ℕ
sdf_kind delays.BadByte = codes "BadByte"
sdf_kind delays.Syntax = codes "Syntax"
sdf_kind delays.BadCount = codes "BadCount"
sdf_kind delays.BadNumber = codes "BadNumber"
sdf_kind delays.TooDeep = codes "TooDeep"
sdf_kind delays.FileTooLarge = codes "FileTooLarge"
sdf_kind delays.LimitsCross = codes "LimitsCross"

-- and that of an entry that is too large for the circuit
abbrev pub too_large_kind : List ℕ
too_large_kind = codes "TooLarge"

-- the SDF file's text is read in
abbrev pub SdfOutcome : List ℕ → List ℕ → Result Sdf Refusal → Type 0
SdfOutcome name text (Ok file) = Reads text (Ok file)
SdfOutcome name text (Err r) = (fault : Fault) × Reads text (Err fault) × (r ≡ sdf name (line_of text fault.place.byte) (sdf_kind fault.kind))

-- a circuit as its entries leave it, and those that are for nothing in it, by line and word
pub record Annotated : Type 0 where
  pub circuit : Circuit
  pub unmatched : List Unmatched

abbrev pub unmatched_at : List ℕ → Place × List ℕ → Unmatched
unmatched_at text told = record { line = line_of text told.0.byte; word = told.1 }

-- the entries are applied with the values of this corner: none of them is too large; the circuit is adjusted to its new limits
pub record IsAnnotatedBy (text : List ℕ) (file : Sdf) (corner : Corner) (c : Circuit) (a : Annotated) : Type 0 where
  pub fine : annotation.too_large c file corner ≡ None
  pub circuit : IsAdjustedFrom (annotation.annotated c file corner) a.circuit
  pub unmatched : a.unmatched ≡ map (unmatched_at text) (annotation.unmatched c file)

-- or the first of them that is too large is told
pub record TellsTooLarge (name text : List ℕ) (file : Sdf) (corner : Corner) (c : Circuit) (r : Refusal) : Type 0 where
  pub place : Place
  pub stands : annotation.too_large c file corner ≡ Some place
  pub told : r ≡ sdf name (line_of text place.byte) too_large_kind

abbrev pub AnnotationOutcome : List ℕ → List ℕ → Sdf → Corner → Circuit → Result Annotated Refusal → Type 0
AnnotationOutcome name text file corner circuit (Ok a) = IsAnnotatedBy text file corner circuit a
AnnotationOutcome name text file corner circuit (Err r) = TellsTooLarge name text file corner circuit r

-- the kinds of a stimulus's faults as they are written
abbrev pub stimulus_kind : StimKind → List ℕ
stimulus_kind stim.Syntax = codes "Syntax"
stimulus_kind stim.UnknownInput = codes "UnknownInput"
stimulus_kind stim.WidthMismatch = codes "WidthMismatch"
stimulus_kind stim.TimeNotRising = codes "TimeNotRising"
stimulus_kind stim.NotWholeTick = codes "NotWholeTick"
stimulus_kind stim.NoEnd = codes "NoEnd"
stimulus_kind stim.TooLarge = codes "TooLarge"

-- the stimulus's text is read in
abbrev pub StimulusOutcome : List ℕ → List ℕ → Circuit → Result Stimulus Refusal → Type 0
StimulusOutcome name text circuit (Ok s) = stimulus_text.IsRead text circuit s
StimulusOutcome name text circuit (Err r) =
    (kind : StimKind) × (place : Place) × stimulus_text.FaultStands text circuit kind place × (r ≡ stimulus name (line_of text place.byte) (stimulus_kind kind))

-- the kinds of the faults of a value change dump as they are written
abbrev pub wave_kind : VcdKind → List ℕ
wave_kind vcd.Syntax = codes "Syntax"
wave_kind vcd.UnknownCode = codes "UnknownCode"
wave_kind vcd.WidthMismatch = codes "WidthMismatch"
wave_kind vcd.TimeFalls = codes "TimeFalls"
wave_kind vcd.NotWholeTick = codes "NotWholeTick"
wave_kind vcd.TooLarge = codes "TooLarge"
wave_kind vcd.NoScope = codes "NoScope"

-- the scope of a path; where none is given, that of the top's name
abbrev pub scope_or_top : Option (List ℕ) → Circuit → List ℕ
scope_or_top None circuit = (scope_at circuit 0).name
scope_or_top (Some path) circuit = path

-- the dump's text is read in
abbrev pub WaveOutcome : List ℕ → List ℕ → Circuit → (scope : List ℕ) → Result Stimulus Refusal → Type 0
WaveOutcome name text circuit scope (Ok s) = wave_text.IsRead text circuit scope s
WaveOutcome name text circuit scope (Err r) =
    (fault : wave.Fault) × wave_text.FaultStands text circuit scope fault × (r ≡ stimulus name (line_of text fault.place.byte) (wave_kind fault.kind))

-- what drives the inputs, by the text of its file
abbrev pub DrivingOutcome : Input → List ℕ → Circuit → Result Stimulus Refusal → Type 0
DrivingOutcome (a_stimulus file) text circuit = StimulusOutcome file text circuit
DrivingOutcome (a_wave file scope) text circuit = WaveOutcome file text circuit (scope_or_top scope circuit)

-- the netlist of a design: its files are read, and then their texts
abbrev pub CircuitOutcome : Design → List File → Result Circuit Refusal → Type 0
CircuitOutcome design files = Then (FilesOutcome design.netlists files) (λ texts. NetlistOutcome design.netlists texts design.top design.corner)

-- the text of an SDF file is read in, and its entries are applied
abbrev pub EntriesOutcome : List ℕ → List ℕ → Corner → Circuit → Result Annotated Refusal → Type 0
EntriesOutcome name text corner circuit = Then (SdfOutcome name text) (λ file. AnnotationOutcome name text file corner circuit)

-- the SDF file of this name, where there is one; without it the circuit is as it was
abbrev pub AnnotatedOutcome : Option (List ℕ) → Corner → List File → Circuit → Result Annotated Refusal → Type 0
AnnotatedOutcome None corner files circuit outcome = outcome ≡ Ok (record { circuit = circuit; unmatched = [] })
AnnotatedOutcome (Some name) corner files circuit outcome = Then (FileOutcome name (bytes_of name files)) (λ text. EntriesOutcome name text corner circuit) outcome

-- a design: its netlist, and the delays where it names an SDF file
abbrev pub DesignOutcome : Design → List File → Result Annotated Refusal → Type 0
DesignOutcome design files = Then (CircuitOutcome design files) (λ circuit. AnnotatedOutcome design.sdf design.corner files circuit)

-- the file of what drives the inputs is read, and then its text
abbrev pub InputOutcome : Input → List File → Circuit → Result Stimulus Refusal → Type 0
InputOutcome input files circuit = Then (FileOutcome (file_of input) (bytes_of (file_of input) files)) (λ text. DrivingOutcome input text circuit)

-- the kinds of the faults of a saved moment as they are written
abbrev pub save_kind : SaveKind → List ℕ
save_kind saved_kind.TooLarge = codes "TooLarge"
save_kind saved_kind.Damaged = codes "Damaged"
save_kind saved_kind.Syntax = codes "Syntax"
save_kind saved_kind.OtherCircuit = codes "OtherCircuit"
save_kind saved_kind.BadMoment = codes "BadMoment"
save_kind saved_kind.PastEnd = codes "PastEnd"
