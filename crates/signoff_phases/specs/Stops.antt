-- What the program's phases return, beside the outcomes that the definition has.
use Rattle.std.specs.Prelude.{ℕ, ◌≡◌, ◌⊎◌, ◌++◌, List, ◌∷◌, Option, Some, None, Result, Ok, Err}
use Rattle.sg_io.specs.Files.{File}
use Rattle.sg_io.specs.declared.outside.ShelfError.{ShelfError}
use Rattle.sg_io.specs.declared.outside.ShelfError.TheVariants as shelf
use Rattle.sg_circuit.specs.Circuit.{Circuit}
use Rattle.run_words.specs.Words.{Design}
use Rattle.signoff_phases.specs.Phases.{Refusal, CircuitOutcome, FilesOutcome, words, missing, netlist, sdf, sdf_kind, too_large_kind, save, save_kind, stimulus, stimulus_kind, unwritten, wave_kind}
use Rattle.signoff_phases.specs.declared.stop.Stop as code_stop
use Rattle.signoff_phases.specs.declared.stop.Stop.TheVariants as stop
use Rattle.signoff_phases.specs.declared.stop.SdfFault.{SdfFault}
use Rattle.signoff_phases.specs.declared.stop.SdfFault.TheVariants as sdf_fault
use Rattle.signoff_phases.specs.declared.stop.Refusal as code_refusal
use Rattle.signoff_phases.specs.declared.stop.Refusal.TheVariants as refusal

abbrev pub sdf_fault_seen : SdfFault → List ℕ
sdf_fault_seen (sdf_fault.Text kind) = sdf_kind kind
sdf_fault_seen sdf_fault.TooLarge = too_large_kind

abbrev pub refusal_seen : code_refusal.Refusal → Refusal
refusal_seen refusal.Words = words
refusal_seen (refusal.Missing name) = missing name.now
refusal_seen (refusal.Netlist name line kind) = netlist name.now line kind.items
refusal_seen (refusal.Sdf name line fault) = sdf name.now line (sdf_fault_seen fault)
refusal_seen (refusal.Stimulus name line kind) = stimulus name.now line (stimulus_kind kind)
refusal_seen (refusal.Wave name line kind) = stimulus name.now line (wave_kind kind)
refusal_seen (refusal.Save name line kind) = save name.now line (save_kind kind)
refusal_seen (refusal.Unwritten kind path) = unwritten kind.now path.items

-- the outcome that a phase returned, unless memory ran out or a call outside failed
abbrev pub IfOutcome : {X A : Type 0} → (X → A) → (Result A Refusal → Type 0) → Result X code_stop.Stop → Type 0
IfOutcome view phase (Ok x) = phase (Ok (view x))
IfOutcome view phase (Err (stop.Refused r)) = phase (Err (refusal_seen r))
IfOutcome view phase (Err stop.Failed) = Unit {0}
IfOutcome view phase (Err stop.NoMemory) = Unit {0}

-- what a phase returned is an outcome that it may have, unless memory ran out or a call outside failed
pub record Gives {X A : Type 0} (view : X → A) (phase : Result A Refusal → Type 0) (result : Result X code_stop.Stop) : Type 0 where
  pub outcome : IfOutcome view phase result

-- how a phase ended, as calls outside end: a refusal is no failure of them
abbrev pub end_of_phase : {X : Type 0} → Result X code_stop.Stop → Result Unit ShelfError
end_of_phase (Ok x) = Ok tt
end_of_phase (Err (stop.Refused r)) = Ok tt
end_of_phase (Err stop.Failed) = Err shelf.Failed
end_of_phase (Err stop.NoMemory) = Err shelf.NoMemory

-- a phase that calls nothing outside doesn't fail
abbrev pub NeverFails : {X : Type 0} → Result X code_stop.Stop → Type 0
NeverFails (Ok x) = Unit {0}
NeverFails (Err (stop.Refused r)) = Unit {0}
NeverFails (Err stop.Failed) = ⊥
NeverFails (Err stop.NoMemory) = Unit {0}

-- after a failure outside
abbrev pub IfFailed : {X : Type 0} → Type 0 → Result X code_stop.Stop → Type 0
IfFailed P (Ok x) = Unit {0}
IfFailed P (Err (stop.Refused r)) = Unit {0}
IfFailed P (Err stop.Failed) = P
IfFailed P (Err stop.NoMemory) = Unit {0}

-- unless a call outside failed, or memory ran out
abbrev pub UnlessCut : {X : Type 0} → Type 0 → Result X code_stop.Stop → Type 0
UnlessCut P (Ok x) = P
UnlessCut P (Err (stop.Refused r)) = P
UnlessCut P (Err stop.Failed) = Unit {0}
UnlessCut P (Err stop.NoMemory) = Unit {0}

-- the shelf names one of these files in the last call that failed; where it tells its files, those before were read
pub record FailsAtOne (names : List (List ℕ)) (held : Option (List File)) (last : Option (List ℕ)) : Type 0 where
  pub before : List (List ℕ)
  pub name : List ℕ
  pub after : List (List ℕ)
  pub split : names ≡ before ++ name ∷ after
  pub told : last ≡ Some name
  pub read : (files : List File) → held ≡ Some files → (texts : List (List ℕ)) × FilesOutcome before files (Ok texts)

-- the shelf names the file that was given in the last call that failed
pub record FailsAtGiven (given last : Option (List ℕ)) : Type 0 where
  pub name : List ℕ
  pub is : given ≡ Some name
  pub told : last ≡ Some name

-- the shelf names a file of a design in the last call that failed: one of the netlist's; or the SDF file, where the netlist was accepted
pub data FailsAtDesign (d : Design) (held : Option (List File)) (last : Option (List ℕ)) : Type 0 where
  in_netlist : FailsAtOne d.netlists held last → FailsAtDesign d held last
  in_sdf : (circuit : Circuit) → ((files : List File) → held ≡ Some files → CircuitOutcome d files (Ok circuit)) → FailsAtGiven d.sdf last → FailsAtDesign d held last

-- the words aren't refused
abbrev pub SparesWords : code_stop.Stop → Type 0
SparesWords (stop.Refused refusal.Words) = ⊥
SparesWords (stop.Refused (refusal.Missing name)) = Unit {0}
SparesWords (stop.Refused (refusal.Netlist name line kind)) = Unit {0}
SparesWords (stop.Refused (refusal.Sdf name line fault)) = Unit {0}
SparesWords (stop.Refused (refusal.Stimulus name line kind)) = Unit {0}
SparesWords (stop.Refused (refusal.Wave name line kind)) = Unit {0}
SparesWords (stop.Refused (refusal.Save name line kind)) = Unit {0}
SparesWords (stop.Refused (refusal.Unwritten kind path)) = Unit {0}
SparesWords stop.Failed = Unit {0}
SparesWords stop.NoMemory = Unit {0}

-- the words alone say whether they are refused, unless there was no memory; of a value that comes they say P
abbrev pub StopWords : {A X : Type 0} → Option A → (A → X → Type 0) → Result X code_stop.Stop → Type 0
StopWords None P (Ok x) = ⊥
StopWords None P (Err s) = (s ≡ stop.Refused refusal.Words) ⊎ (s ≡ stop.NoMemory)
StopWords (Some asked) P (Ok x) = P asked x
StopWords (Some asked) P (Err s) = SparesWords s
