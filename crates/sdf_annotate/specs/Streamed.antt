-- What is so of an annotator, which is told of a file's entries.
use Rattle.std.specs.Prelude.{◌≡◌, ℕ, List, [], length, map, None, Ok, replicate}
use Rattle.annotation_model.specs.Given.{Given}
use Rattle.annotation_places.specs.Places.{ArePlaces}
use Rattle.sdf_meaning.specs.MeantSeen.{view_sdf}
use Rattle.sdf_stream.specs.Told.{Told}
use Rattle.sdf_read.specs.Reads.{Reads}
use Rattle.sdf_tree.specs.Meant as meant
use Rattle.sdf_tree.specs.declared.tree.Cell as code_cell
use Rattle.sg_circuit.specs.Circuit.{Circuit}
use Rattle.sg_circuit.specs.declared.checks.CheckTiming.{CheckTiming}
use Rattle.sg_delay.specs.declared.corners.Corner.{Corner}
use Rattle.sg_text.specs.declared.places.Place.{Place}
use Rattle.annotation_model.specs.Spots.{spots}
use Rattle.sdf_annotate.specs.Progress.{AreSized, CameTo}
use Rattle.sdf_annotate.specs.Search.{IsReady, IsReadyFor}
use Rattle.sdf_annotate.specs.Seen.{AreCounted, circuit_of}
use Rattle.sdf_annotate.specs.Told.{IsAnnotated, told_seen}
use Rattle.sdf_annotate.specs.Whole.{AreAfter}
use Rattle.sdf_annotate.specs.declared.streamed.Annotator as code_annotator
use Rattle.sdf_annotate.specs.declared.tasks.Task as code_task
use Rattle.sdf_annotate.specs.declared.values.NewValues.{NewValues}

-- an entry that is told, with what its cell says
abbrev pub given_of_told : Told → Given
given_of_told t = record { cell_type = t.cell_type; instance = t.instance; entry = t.entry }

-- its places and its tables are those of the circuit
pub record IsAnnotator (a : code_annotator.Annotator) : Type 0 where
  pub places : ArePlaces a.task.places.now
  pub signals : AreCounted a.task
  pub sized : AreSized (circuit_of a.task) a.values
  pub ready : IsReady a.task a.search

-- and its scopes are those of a cell
pub record IsAnnotatorIn (a : code_annotator.Annotator) (cell : code_cell.Cell) : Type 0 where
  pub annotator : IsAnnotator a
  pub scopes : IsReadyFor a.task cell a.search

-- it has applied these entries
pub record HasApplied (old new : code_annotator.Annotator) (ts : List Told) : Type 0 where
  pub task : new.task ≡ old.task
  pub came : CameTo (circuit_of old.task) (view_sdf old.task.sdf.now) old.task.corner (map given_of_told ts) old.values new.values

-- it was told of nothing: its tables are those of the circuit
pub record IsFirst (task : code_task.Task) (a : code_annotator.Annotator) : Type 0 where
  pub is : a.task ≡ task
  pub annotator : IsAnnotator a
  pub timings : a.values.timings.items ≡ replicate (length (spots (circuit_of task))) None
  pub limits : a.values.limits.items ≡ map (λ (t : CheckTiming). t.limits) (circuit_of task).check_timings
  pub none : told_seen a.values.unmatched.items ≡ []

-- a text means a file, and these are the values after it
pub record AreAfterText (c : Circuit) (text : List ℕ) (corner : Corner) (v : NewValues) : Type 0 where
  pub sdf : meant.Sdf
  pub read : Reads text (Ok sdf)
  pub after : AreAfter c sdf corner v

-- a text means a file, and the circuit is annotated with it
pub record IsAnnotatedBy (text : List ℕ) (c : Circuit) (corner : Corner) (new : Circuit) (told : List (Place × List ℕ)) : Type 0 where
  pub sdf : meant.Sdf
  pub read : Reads text (Ok sdf)
  pub annotated : IsAnnotated c sdf corner new told
