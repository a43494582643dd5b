-- The tick of a circuit that is read is one of the eighteen that there are.
use Rattle.std.proofs.Common.{sym, ap, subst, List, ℕ}
use Rattle.std.specs.Prelude.{Option, Some, None, Result, Ok, Err}
use Rattle.sg_io.specs.Files.{File, bytes_of}
use Rattle.sg_circuit.specs.Circuit.{Circuit}
use Rattle.sg_delay.specs.declared.corners.Corner.{Corner}
use Rattle.sdf_tree.specs.Meant.{Sdf}
use Rattle.run_words.specs.Words.{Command, Design}
use Rattle.sdf_write.proofs.ScopeLaws.{read-has_named_scopes}
use Rattle.written_reading.specs.Named.{IsTick}
use Rattle.signoff_phases.specs.Phases.{Annotated, Refusal, AnnotatedOutcome, AnnotationOutcome, CircuitOutcome, DesignOutcome, EntriesOutcome, FileOutcome, FilesOutcome, InputOutcome, NetlistOutcome, SdfOutcome}
use Rattle.signoff_top.specs.Phases.{Task, CommandOutcome}
use Rattle.signoff_phases.proofs.Outcomes.{OfValue, then_value}

abbrev CircuitTick : Circuit → Type 0
CircuitTick c = IsTick c.tick

abbrev AnnotatedTick : Annotated → Type 0
AnnotatedTick a = IsTick a.circuit.tick

abbrev pub TaskTick : Task → Type 0
TaskTick task = IsTick task.circuit.tick

netlist_tick : (names texts : List (List ℕ)) (top : Option (List ℕ)) (corner : Corner) (p : Result Circuit Refusal) → NetlistOutcome names texts top corner p → OfValue CircuitTick p
netlist_tick names texts top corner (Ok c) h = (read-has_named_scopes texts top corner c h).tick
netlist_tick names texts top corner (Err r) h = tt

circuit_tick : (d : Design) (files : List File) (p : Result Circuit Refusal) → CircuitOutcome d files p → OfValue CircuitTick p
circuit_tick d files = then_value CircuitTick (FilesOutcome d.netlists files) _ (λ texts _ p h. netlist_tick d.netlists texts d.top d.corner p h)

-- annotation leaves it
annotation_tick : (name text : List ℕ) (file : Sdf) (corner : Corner) (c : Circuit) → IsTick c.tick → (p : Result Annotated Refusal) → AnnotationOutcome name text file corner c p → OfValue AnnotatedTick p
annotation_tick name text file corner c tick (Ok a) h = subst IsTick (sym (ap (λ (x : Circuit). x.tick) h.circuit.made_is)) tick
annotation_tick name text file corner c tick (Err r) h = tt

entries_tick : (name text : List ℕ) (corner : Corner) (c : Circuit) → IsTick c.tick → (p : Result Annotated Refusal) → EntriesOutcome name text corner c p → OfValue AnnotatedTick p
entries_tick name text corner c tick = then_value AnnotatedTick (SdfOutcome name text) _ (λ file _ p h. annotation_tick name text file corner c tick p h)

annotated_tick : (sdf : Option (List ℕ)) (corner : Corner) (files : List File) (c : Circuit) → IsTick c.tick → (p : Result Annotated Refusal) → AnnotatedOutcome sdf corner files c p → OfValue AnnotatedTick p
annotated_tick None corner files c tick p h = subst (OfValue AnnotatedTick) (sym h) tick
annotated_tick (Some name) corner files c tick p h = then_value AnnotatedTick (FileOutcome name (bytes_of name files)) _ (λ text _ q k. entries_tick name text corner c tick q k) p h

design_tick : (d : Design) (files : List File) (p : Result Annotated Refusal) → DesignOutcome d files p → OfValue AnnotatedTick p
design_tick d files = then_value AnnotatedTick (CircuitOutcome d files) _ (λ c read p h. annotated_tick d.sdf d.corner files c (circuit_tick d files (Ok c) read) p h)

pub command_tick : (c : Command) (files : List File) (p : Result Task Refusal) → CommandOutcome c files p → OfValue TaskTick p
command_tick c files =
    then_value TaskTick (DesignOutcome c.design files) _ (λ annotated made.
    then_value TaskTick (InputOutcome c.input files annotated.circuit) _ (λ input _ p e. subst (OfValue TaskTick) (sym e) (design_tick c.design files (Ok annotated) made)))
