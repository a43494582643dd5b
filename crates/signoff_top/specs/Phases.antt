-- The answer to a command line, phase by phase: what each command does with the phases that programs share.
use Rattle.std.specs.Prelude.{ℕ, ◌≡◌, ◌+◌, ◌^◌, List, [], ◌∷◌, Option, Some, None, Result, Ok, Err, codes}
use Rattle.sg_io.specs.Files.{File, bytes_of}
use Rattle.sg_circuit.specs.Circuit.{Circuit}
use Rattle.sg_stimulus.specs.Stimulus.{Stimulus}
use Rattle.run_report.specs.Report.{Unmatched, path_of}
use Rattle.wave_out.specs.Texts.{line}
use Rattle.run_report.specs.Texts.{line_of}
use Rattle.run_words.specs.Words.{Command, Writing, default_corner, default_rounds}
use Rattle.gen_case.specs.Case.{netlist_of, sdf_of, stimulus_of}
use Rattle.signoff_phases.specs.Phases.{Refusal, DesignOutcome, EntriesOutcome, FileWithin, InputOutcome, NetlistOutcome, StimulusOutcome, Then, save, save_kind, unwritten}
use Rattle.sim_rounds.specs.Moments.{Moment}
use Rattle.sim_save.specs.Faults as saved
use Rattle.sim_save.specs.Reading as saved_text
use Rattle.sim_save.specs.declared.kinds.SaveKind.{SaveKind}
use Rattle.written_model.specs.Faults as written
use Rattle.written_model.specs.Text as written_text
use Rattle.written_model.specs.declared.errors.WriteError.{WriteError}
use Rattle.written_model.specs.declared.errors.WriteError.TheVariants as error

-- the program's usage
abbrev pub usage : List ℕ
usage = codes "usage: signoff run NETLIST.. (--stim F | --wave F [--scope PATH]) --vcd F [--stop T --save F] [--sdf F] [--top NAME] [--corner min|typ|max] [--rounds N] [--wheel N] | signoff gen N | signoff annotate NETLIST.. --out F [--sdf F] [--top NAME] [--corner min|typ|max] | signoff settle NETLIST.. [--sdf F] [--top NAME] [--corner min|typ|max] | signoff resume NETLIST.. --state F (--stim F | --wave F [--scope PATH]) --vcd F [--sdf F] [--top NAME] [--corner min|typ|max] [--rounds N] [--wheel N]"

abbrev pub usage_line : List ℕ
usage_line = line usage

-- what is run
pub record Task : Type 0 where
  pub circuit : Circuit
  pub unmatched : List Unmatched
  pub rounds : ℕ
  pub input : Stimulus
  pub vcd : List ℕ

-- a fault of delays that are to be written, as it is told
abbrev pub unwritten_by : Circuit → WriteError → Option Refusal
unwritten_by c (error.Ambiguous s) = Some (unwritten (codes "Ambiguous") (path_of c s))
unwritten_by c (error.OffGrid s) = Some (unwritten (codes "OffGrid") (path_of c s))
unwritten_by c (error.TooDeep s) = Some (unwritten (codes "TooDeep") (path_of c s))
unwritten_by c (error.TooLong s) = Some (unwritten (codes "TooLong") (path_of c s))
unwritten_by c (error.TooLarge s) = Some (unwritten (codes "TooLarge") (path_of c s))
unwritten_by c error.NoMemory = None

-- the delays of a circuit are a text, or one of the faults that stand is told
abbrev pub TextOutcome : Circuit → Result (List ℕ) Refusal → Type 0
TextOutcome circuit (Ok text) = written.IsFaultless circuit × (text ≡ written_text.text circuit)
TextOutcome circuit (Err r) = (fault : WriteError) × written.FaultStands circuit fault × (unwritten_by circuit fault ≡ Some r)

-- what is written of a design, and the entries that were for nothing in it
pub record Written : Type 0 where
  pub unmatched : List Unmatched
  pub text : List ℕ

abbrev pub WritingOutcome : Writing → List File → Result Written Refusal → Type 0
WritingOutcome writing files =
    Then (DesignOutcome writing.design files) (λ annotated.
    Then (TextOutcome annotated.circuit) (λ text outcome.
    outcome ≡ Ok (record { unmatched = annotated.unmatched; text = text })))

-- The generated case of so many stages: its texts are read in, applied and read as files are, and no file is. Their names would tell where a fault is, if one stood.
abbrev pub case_netlist : List ℕ
case_netlist = codes "generated.v"

abbrev pub case_sdf : List ℕ
case_sdf = codes "generated.sdf"

abbrev pub case_stimulus : List ℕ
case_stimulus = codes "generated.st"

abbrev pub CaseOutcome : ℕ → Result Task Refusal → Type 0
CaseOutcome stages =
    Then (NetlistOutcome (case_netlist ∷ []) (netlist_of stages ∷ []) None default_corner) (λ circuit.
    Then (EntriesOutcome case_sdf (sdf_of stages) default_corner circuit) (λ annotated.
    Then (StimulusOutcome case_stimulus (stimulus_of stages) annotated.circuit) (λ input outcome.
    outcome ≡ Ok (record { circuit = annotated.circuit; unmatched = annotated.unmatched; rounds = default_rounds; input = input; vcd = [] }))))

-- All phases of a command up to its run, over the files that are held: those of its design, and that of what drives the inputs. How
-- many buckets the wheel of events has is no part of it: the answer is the same.
abbrev pub CommandOutcome : Command → List File → Result Task Refusal → Type 0
CommandOutcome command files =
    Then (DesignOutcome command.design files) (λ annotated.
    Then (InputOutcome command.input files annotated.circuit) (λ input outcome.
    outcome ≡ Ok (record { circuit = annotated.circuit; unmatched = annotated.unmatched; rounds = command.rounds; input = input; vcd = command.vcd })))

-- the text of a saved moment is read in, for a circuit and a run with this end
abbrev pub SaveOutcome : List ℕ → List ℕ → Circuit → (end : ℕ) → Result Moment Refusal → Type 0
SaveOutcome name text circuit end (Ok m) = saved_text.IsRead text circuit end m
SaveOutcome name text circuit end (Err r) =
    (kind : SaveKind) × (byte : ℕ) × saved.FaultStands text circuit end kind byte × (r ≡ save name (line_of text byte) (save_kind kind))

-- one byte above what a saved moment may have
abbrev pub save_limit : ℕ
save_limit = 2 ^ 30 + 1

-- the rest of a run: its task, and the moment from which it goes on
pub record Rest : Type 0 where
  pub task : Task
  pub moment : Moment

-- all phases of the rest of a run: those of a run, and then the saved moment
abbrev pub RestOutcome : Command → (state : List ℕ) → List File → Result Rest Refusal → Type 0
RestOutcome command state files =
    Then (CommandOutcome command files) (λ task.
    Then (FileWithin save_limit state (bytes_of state files)) (λ text.
    Then (SaveOutcome state text task.circuit task.input.end) (λ moment outcome.
    outcome ≡ Ok (record { task = task; moment = moment }))))
