-- The words of SDF files (IEEE 1497-2001, annex A).
use Rattle.std.specs.Prelude.{ℕ, Bool, List, [], ◌∷◌, Option, Some, None, codes, bytes_eq, if◌then◌else◌}
use Rattle.std.specs.Str.{str_to_ascii_lowercase}
use Rattle.sdf_tree.specs.declared.keywords.Keyword.{Keyword}
use Rattle.sdf_tree.specs.declared.keywords.Keyword.TheVariants as word

-- each word in lower case
abbrev pub spelling : Keyword → List ℕ
spelling word.DelayFile = codes "delayfile"
spelling word.SdfVersion = codes "sdfversion"
spelling word.Design = codes "design"
spelling word.Date = codes "date"
spelling word.Vendor = codes "vendor"
spelling word.Program = codes "program"
spelling word.Version = codes "version"
spelling word.Process = codes "process"
spelling word.Divider = codes "divider"
spelling word.TimeScale = codes "timescale"
spelling word.Voltage = codes "voltage"
spelling word.Temperature = codes "temperature"
spelling word.Cell = codes "cell"
spelling word.CellType = codes "celltype"
spelling word.Instance = codes "instance"
spelling word.Delay = codes "delay"
spelling word.TimingCheck = codes "timingcheck"
spelling word.TimingEnv = codes "timingenv"
spelling word.Label = codes "label"
spelling word.Absolute = codes "absolute"
spelling word.Increment = codes "increment"
spelling word.PathPulse = codes "pathpulse"
spelling word.PathPulsePercent = codes "pathpulsepercent"
spelling word.IoPath = codes "iopath"
spelling word.Cond = codes "cond"
spelling word.CondElse = codes "condelse"
spelling word.Port = codes "port"
spelling word.Interconnect = codes "interconnect"
spelling word.Device = codes "device"
spelling word.NetDelay = codes "netdelay"
spelling word.Retain = codes "retain"
spelling word.Setup = codes "setup"
spelling word.Hold = codes "hold"
spelling word.Recovery = codes "recovery"
spelling word.Removal = codes "removal"
spelling word.Skew = codes "skew"
spelling word.SetupHold = codes "setuphold"
spelling word.RecRem = codes "recrem"
spelling word.Width = codes "width"
spelling word.Period = codes "period"
spelling word.BidirectSkew = codes "bidirectskew"
spelling word.NoChange = codes "nochange"
spelling word.Posedge = codes "posedge"
spelling word.Negedge = codes "negedge"
spelling word.Edge01 = codes "01"
spelling word.Edge10 = codes "10"
spelling word.Edge0z = codes "0z"
spelling word.EdgeZ1 = codes "z1"
spelling word.Edge1z = codes "1z"
spelling word.EdgeZ0 = codes "z0"

-- all words
abbrev pub all_words : List Keyword
all_words =
    word.DelayFile ∷ word.SdfVersion ∷ word.Design ∷ word.Date ∷ word.Vendor ∷ word.Program ∷ word.Version ∷
    word.Process ∷ word.Divider ∷ word.TimeScale ∷ word.Voltage ∷ word.Temperature ∷ word.Cell ∷
    word.CellType ∷ word.Instance ∷ word.Delay ∷ word.TimingCheck ∷ word.TimingEnv ∷ word.Label ∷
    word.Absolute ∷ word.Increment ∷ word.PathPulse ∷ word.PathPulsePercent ∷ word.IoPath ∷ word.Cond ∷
    word.CondElse ∷ word.Port ∷ word.Interconnect ∷ word.Device ∷ word.NetDelay ∷ word.Retain ∷ word.Setup ∷
    word.Hold ∷ word.Recovery ∷ word.Removal ∷ word.Skew ∷ word.SetupHold ∷ word.RecRem ∷ word.Width ∷
    word.Period ∷ word.BidirectSkew ∷ word.NoChange ∷ word.Posedge ∷ word.Negedge ∷ word.Edge01 ∷
    word.Edge10 ∷ word.Edge0z ∷ word.EdgeZ1 ∷ word.Edge1z ∷ word.EdgeZ0 ∷ []

-- a text is a word in whatever case
abbrev pub is_spelled : Keyword → List ℕ → Bool
is_spelled word text = bytes_eq (spelling word) (str_to_ascii_lowercase text)

-- the first of some words that is spelled so in lower case
abbrev pub word_in : List Keyword → List ℕ → Option Keyword
word_in [] lowered = None
word_in (w ∷ ws) lowered = if bytes_eq (spelling w) lowered then Some w else word_in ws lowered

-- the word that a text is, if it is one
unfoldable pub keyword_of : List ℕ → Option Keyword
keyword_of text = word_in all_words (str_to_ascii_lowercase text)

-- words are told apart by their numbers
abbrev pub word_number : Keyword → ℕ
word_number word.DelayFile = 0
word_number word.SdfVersion = 1
word_number word.Design = 2
word_number word.Date = 3
word_number word.Vendor = 4
word_number word.Program = 5
word_number word.Version = 6
word_number word.Process = 7
word_number word.Divider = 8
word_number word.TimeScale = 9
word_number word.Voltage = 10
word_number word.Temperature = 11
word_number word.Cell = 12
word_number word.CellType = 13
word_number word.Instance = 14
word_number word.Delay = 15
word_number word.TimingCheck = 16
word_number word.TimingEnv = 17
word_number word.Label = 18
word_number word.Absolute = 19
word_number word.Increment = 20
word_number word.PathPulse = 21
word_number word.PathPulsePercent = 22
word_number word.IoPath = 23
word_number word.Cond = 24
word_number word.CondElse = 25
word_number word.Port = 26
word_number word.Interconnect = 27
word_number word.Device = 28
word_number word.NetDelay = 29
word_number word.Retain = 30
word_number word.Setup = 31
word_number word.Hold = 32
word_number word.Recovery = 33
word_number word.Removal = 34
word_number word.Skew = 35
word_number word.SetupHold = 36
word_number word.RecRem = 37
word_number word.Width = 38
word_number word.Period = 39
word_number word.BidirectSkew = 40
word_number word.NoChange = 41
word_number word.Posedge = 42
word_number word.Negedge = 43
word_number word.Edge01 = 44
word_number word.Edge10 = 45
word_number word.Edge0z = 46
word_number word.EdgeZ1 = 47
word_number word.Edge1z = 48
word_number word.EdgeZ0 = 49
