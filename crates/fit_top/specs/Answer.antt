-- What the program answers: its status, the files that it makes, and the report.
use Rattle.std.specs.Prelude.{ℕ, ◌≡◌, ◌==◌, not, ◌<◌, ◌+◌, ◌^◌, ◌++◌, ◌&&◌, List, [], ◌∷◌, Bool, true, false, Option, Some, None, Result, Ok, Err, codes, decimal, flat_map, if◌then◌else◌, length, map, slice_index_or, take, zip}
use Rattle.std.specs.List.{list_any}
use Rattle.sg_io.specs.Files.{File, bytes_of}
use Rattle.sdf_read.specs.declared.faults.SdfKind.{SdfKind}
use Rattle.sdf_read.specs.declared.faults.SdfKind.TheVariants as delays
use Rattle.fit_words.specs.Words.{Asked, inputs_of, made_name, made_of}
use Rattle.fit_changes.specs.Changes.{AreInOrder, Change, ChangedText, changed}
use Rattle.fit_changes.specs.Lines.{Line, lines_from}
use Rattle.fit_changes.specs.Report.{are_told, counts_text, first_told, lines_text}
use Rattle.fit_changes.specs.Rounds.{written}
use Rattle.fit_changes.specs.declared.unfit.Unfit as code
use Rattle.fit_inside.specs.Inside.{IsInside}
use Rattle.fit_netlist.specs.Fitted.{IsFitted}
use Rattle.fit_sdf.specs.Counts.{SdfCount, sdf_counts_text}
use Rattle.fit_sdf.specs.Fitted.{IsReadable, RefusesWith}
use Rattle.fit_sdf.specs.declared.unfit.SdfUnfit.TheVariants as unfit
use Rattle.fit_top.specs.declared.status.Status.{Status}
use Rattle.fit_top.specs.declared.status.Status.TheVariants as status

pub record Answer : Type 0 where
  pub status : Status
  pub made : List File
  pub report : List ℕ

-- ---- lines

abbrev pub line : List ℕ → List ℕ
line text = text ++ 10 ∷ []

abbrev pub usage_line : List ℕ
usage_line = line (codes "usage: fit NETLIST.. --out FOLDER [--sdf FILE].. [--define NAME[=TEXT]].. [--include FOLDER].. [--top NAME] [--supply0 NET].. [--supply1 NET].. [--cut INSTANCE[:PIN,..]].. [--drop CELL].. [--drop-missing] [--no-checks PATH].. [--no-notifier PATH].. [--strict]")

abbrev pub missing_line : List ℕ → List ℕ
missing_line name = line (codes "missing: " ++ name)

abbrev pub fault_line : List ℕ → List ℕ
fault_line name = line (codes "fault: " ++ name)

abbrev pub report_fault_line : List ℕ
report_fault_line = fault_line (codes "report")

abbrev pub no_memory_line : List ℕ
no_memory_line = line (codes "no memory")

-- a line of a file, and what is there
abbrev pub place_text : (name : List ℕ) (number : ℕ) (kind : List ℕ) → List ℕ
place_text name number kind = name ++ codes ":" ++ decimal number ++ codes ": " ++ kind

-- the module or primitive in which it is, if it is in one
abbrev pub part_text : List ℕ → List ℕ
part_text [] = []
part_text (b ∷ bs) = codes " in " ++ b ∷ bs

-- a place that isn't taken, of files with these names
abbrev pub unfit_line : List (List ℕ) → code.Unfit → List ℕ
unfit_line names place = line (place_text (slice_index_or names place.file []) place.line place.kind.items ++ part_text place.part.items)

-- the kinds of an SDF file's faults as they are written
abbrev pub sdf_kind : SdfKind → List ℕ
sdf_kind delays.BadByte = codes "BadByte"
sdf_kind delays.Syntax = codes "Syntax"
sdf_kind delays.BadCount = codes "BadCount"
sdf_kind delays.BadNumber = codes "BadNumber"
sdf_kind delays.TooDeep = codes "TooDeep"
sdf_kind delays.FileTooLarge = codes "FileTooLarge"
sdf_kind delays.LimitsCross = codes "LimitsCross"

-- ---- files that are read

-- one byte above what a file may have
abbrev pub read_limit : ℕ
read_limit = 2 ^ 28 + 1

-- one file more, unless it isn't held
abbrev pub with_file : (name : List ℕ) → Option (List ℕ) → Result (List File) (List ℕ) → Result (List File) (List ℕ)
with_file name None more = Err name
with_file name (Some bytes) (Ok files) = Ok (record { name = name; bytes = take read_limit bytes } ∷ files)
with_file name (Some bytes) (Err missing) = Err missing

-- the files of these names, or the first name of which none is held
abbrev pub files_of : (names : List (List ℕ)) → (held : List File) → Result (List File) (List ℕ)
files_of [] held = Ok []
files_of (n ∷ ns) held = with_file n (bytes_of n held) (files_of ns held)

abbrev pub texts_of : List File → List (List ℕ)
texts_of files = map (λ f. f.bytes) files

-- ---- the netlist

-- no option asks for a change
abbrev pub asks_nothing : Asked → Bool
asks_nothing asked =
    length asked.defines == 0 && (length asked.supply0 == 0 && (length asked.supply1 == 0 && (length asked.cut == 0 && (length asked.dropped == 0
    && (not asked.drop_missing && (length asked.no_checks == 0 && length asked.no_notifier == 0))))))

-- no rule concerns a netlist, and no option asks for a change of it
pub record IsUntouched (asked : Asked) (texts : List (List ℕ)) : Type 0 where
  pub nothing : asks_nothing asked ≡ true
  pub inside : IsInside texts

-- A netlist is fitted: these texts are written, and these lines told. Where no rule concerns it, and no option asks for a change, it stays.
pub record IsFittedFor (asked : Asked) (texts made : List (List ℕ)) (lines : List Line) : Type 0 where
  pub fitted : IsFitted asked.top texts made lines
  pub unchanged : IsUntouched asked texts → (made ≡ texts) × (lines ≡ [])

-- or it isn't, and these places are told: there are some, and a rule concerns it, or an option asks for a change
pub record IsUnfit (asked : Asked) (texts : List (List ℕ)) (places : List code.Unfit) : Type 0 where
  pub some : 0 < length places
  pub refused : IsUntouched asked texts → ⊥

-- ---- SDF files

-- the line of a fault in an SDF file
abbrev pub sdf_fault_line : (name : List ℕ) (number : ℕ) → SdfKind → List ℕ
sdf_fault_line name number kind = line (place_text name number (sdf_kind kind))

-- an SDF file is fitted: with these changes, which are in order, it is read
pub record IsFittedSdf (text : List ℕ) (changes : List Change) : Type 0 where
  pub are_in_order : AreInOrder 0 text changes
  pub is_readable : IsReadable (changed text changes)

-- what is told of an SDF file: nothing, where it is fitted; or its fault
pub data TellsSdf (name text : List ℕ) : List ℕ → Type 0 where
  is_fitted : (changes : List Change) → IsFittedSdf text changes → TellsSdf name text []
  is_faulty : (kind : SdfKind) (number : ℕ) → RefusesWith text (unfit.Fault kind number) → TellsSdf name text (sdf_fault_line name number kind)

-- of several
abbrev pub TellAllSdf : List File → List ℕ → Type 0
TellAllSdf [] told = told ≡ []
TellAllSdf (f ∷ fs) told = (own : List ℕ) × (more : List ℕ) × TellsSdf f.name f.bytes own × TellAllSdf fs more × (told ≡ own ++ more)

-- several are fitted, each by changes of its text
abbrev pub AreFittedSdf : List File → List ChangedText → Type 0
AreFittedSdf [] files = files ≡ []
AreFittedSdf (f ∷ fs) files =
    (changes : List Change) × (more : List ChangedText) × IsFittedSdf f.bytes changes × AreFittedSdf fs more × (files ≡ record { text = f.bytes; changes = changes } ∷ more)

-- ---- the report of changes

abbrev pub report_text : (names : List (List ℕ)) → List Line → List SdfCount → List ℕ
report_text names lines counts = lines_text names lines ++ counts_text lines ++ sdf_counts_text counts

-- the lines of a netlist's changes, and then those of the changes of SDF files, whose numbers come behind those of the netlist's files
abbrev pub all_lines : Asked → List Line → List ChangedText → List Line
all_lines asked lines sdf = lines ++ lines_from (length asked.netlists) sdf

-- ---- the answer

abbrev pub refusal : Status → List ℕ → Answer
refusal how text = record { status = how; made = []; report = text }

-- a file that is made of one that is read, with its text
abbrev pub made_file : (out : List ℕ) → List ℕ × List ℕ → File
made_file out f = record { name = made_name out f.0; bytes = f.1 }

-- those of the netlist, and then those of SDF files
abbrev pub made_files : Asked → (made sdf : List (List ℕ)) → List File
made_files asked made sdf = map (made_file asked.out) (zip asked.netlists made) ++ map (made_file asked.out) (zip asked.sdf sdf)

abbrev pub status_of : List Line → Status
status_of lines = if are_told lines then status.Told else status.Same

abbrev pub fitted_answer : Asked → (made sdf : List (List ℕ)) → List Line → List SdfCount → Answer
fitted_answer asked made sdf lines counts = record {
  status = status_of lines;
  made = made_files asked made sdf;
  report = report_text (inputs_of asked) lines counts;
}

-- where nothing is to be written that is told
abbrev pub changed_answer : Asked → (made sdf : List (List ℕ)) → List Line → List SdfCount → Answer
changed_answer asked made sdf lines counts =
    if asked.is_strict && are_told lines then refusal status.Told (first_told (inputs_of asked) lines) else fitted_answer asked made sdf lines counts

-- an answer for the texts of a netlist and of SDF files
pub data IsTextAnswer (asked : Asked) (texts : List (List ℕ)) (sdf : List File) : Answer → Type 0 where
  -- the netlist has places that aren't taken
  is_unfit : (places : List code.Unfit) → IsUnfit asked texts places → IsTextAnswer asked texts sdf (refusal status.Netlist (flat_map (unfit_line asked.netlists) places))
  -- the netlist is fitted, and an SDF file has a fault
  has_faults : (made : List (List ℕ)) (lines : List Line) (b : ℕ) (told : List ℕ) → IsFittedFor asked texts made lines → TellAllSdf sdf (b ∷ told) → IsTextAnswer asked texts sdf (refusal status.Sdf (b ∷ told))
  -- all are fitted; where there is no SDF file, no entries are counted
  is_right : (made : List (List ℕ)) (lines : List Line) (files : List ChangedText) (counts : List SdfCount) → IsFittedFor asked texts made lines → AreFittedSdf sdf files → (sdf ≡ [] → counts ≡ [])
      → IsTextAnswer asked texts sdf (changed_answer asked made (written files) (all_lines asked lines files) counts)

-- whether two names reach one file, where that is told
abbrev pub Meeting : Type 0
Meeting = Option (List ℕ → List ℕ → Bool)

-- whether a file that is made is one that is read
abbrev pub meets : (List ℕ → List ℕ → Bool) → Asked → Bool
meets is_one asked = list_any (λ m. list_any (is_one m) (inputs_of asked)) (made_of asked)

-- where it isn't told, it may be so or not
abbrev pub Meets : Meeting → Asked → Bool → Type 0
Meets meeting asked met = (is_one : List ℕ → List ℕ → Bool) → meeting ≡ Some is_one → met ≡ meets is_one asked

-- an answer to what is asked, over the files that are held
pub data IsAnswerFor (asked : Asked) (meeting : Meeting) (held : List File) : Answer → Type 0 where
  meets_one : Meets meeting asked true → IsAnswerFor asked meeting held (refusal status.Usage usage_line)
  misses_netlist : (name : List ℕ) → Meets meeting asked false → files_of asked.netlists held ≡ Err name → IsAnswerFor asked meeting held (refusal status.Missing (missing_line name))
  misses_sdf : (name : List ℕ) (netlists : List File) → Meets meeting asked false → files_of asked.netlists held ≡ Ok netlists → files_of asked.sdf held ≡ Err name
      → IsAnswerFor asked meeting held (refusal status.Missing (missing_line name))
  has_files : (netlists sdf : List File) (answer : Answer) → Meets meeting asked false → files_of asked.netlists held ≡ Ok netlists → files_of asked.sdf held ≡ Ok sdf
      → IsTextAnswer asked (texts_of netlists) sdf answer → IsAnswerFor asked meeting held answer

-- or the words are refused
abbrev pub IsAnswerTo : Option Asked → Meeting → List File → Answer → Type 0
IsAnswerTo None meeting files answer = answer ≡ refusal status.Usage usage_line
IsAnswerTo (Some asked) meeting files answer = IsAnswerFor asked meeting files answer
