-- Entries that are told of a file are its entries, whether or not its cells are there.
use Rattle.std.specs.Prelude.{◌≡◌, refl, ℕ, ℤ, List, [], ◌∷◌, ◌++◌, map, length, None, Option, Some, if◌then◌else◌, replicate}
use Rattle.std.specs.List.{flat_map}
use Rattle.std.proofs.Common.{ap, sym, ◌∙◌, subst}
use Rattle.std.proofs.lemmas.List.{map-append}
use Rattle.sg_circuit.specs.Circuit.{Circuit}
use Rattle.sg_circuit.specs.Closed.{IsClosed}
use Rattle.sg_circuit.specs.declared.checks.CheckTiming.{CheckTiming}
use Rattle.sg_delay.specs.declared.corners.Corner.{Corner}
use Rattle.sg_text.specs.declared.places.Place.{Place}
use Rattle.sdf_meaning.specs.MeantSeen.{view_meant, view_meant_cell, view_sdf}
use Rattle.sdf_stream.specs.Streams.{IsTellable}
use Rattle.sdf_stream.specs.Told.{Told, told, told_in}
use Rattle.sdf_stream.proofs.Filing.{reads_parts}
use Rattle.sdf_tree.specs.Meant.{Cell, Entry, Sdf, sdf_of}
use Rattle.sdf_tree.specs.declared.words.Divider.{Divider}
use Rattle.sdf_tree.specs.declared.tree.Cell as code_cell
use Rattle.sdf_tree.specs.declared.tree.Entry as code_entry
use Rattle.annotation_finder.specs.Finding.{given_seen}
use Rattle.annotation_model.specs.Annotated.{first_too_large, is_too_large_after}
use Rattle.annotation_model.specs.Given.{Given, given_in}
use Rattle.annotation_model.specs.Spots.{spots}
use Rattle.sdf_annotate.specs.Progress.{CameTo, HasAll}
use Rattle.sdf_annotate.specs.Seen.{circuit_of}
use Rattle.sdf_annotate.specs.Streamed.{AreAfterText, HasApplied, IsFirst, given_of_told}
use Rattle.sdf_annotate.specs.Told.{told_seen}
use Rattle.sdf_annotate.specs.declared.streamed.Annotator as code_annotator
use Rattle.sdf_annotate.specs.declared.tasks.Task as code_task
use Rattle.sdf_annotate.specs.declared.values.NewValues.{NewValues}
use Rattle.sdf_annotate.proofs.WholeSteps.{given-after}

-- ---- what is told

pub entries-told : (cell : code_cell.Cell) (es : List code_entry.Entry) → map given_of_told (told cell (map view_meant es)) ≡ map (λ e. given_seen cell e) es
entries-told cell [] = refl
entries-told cell (e ∷ es) = ap (λ (gs : List Given). given_seen cell e ∷ gs) (entries-told cell es)

cell-told : (cell : Cell) → map given_of_told (told_in cell) ≡ given_in cell
cell-told cell = each cell.entries
  where
    each : (es : List Entry) → map given_of_told (map (λ e. record { cell_type = cell.cell_type; instance = cell.instance; entry = e }) es) ≡ map (λ e. record { cell_type = cell.cell_type; instance = cell.instance; entry = e }) es
    each [] = refl
    each (e ∷ es) = ap (λ (gs : List Given). record { cell_type = cell.cell_type; instance = cell.instance; entry = e } ∷ gs) (each es)

pub cells-told : (cells : List Cell) → map given_of_told (flat_map told_in cells) ≡ flat_map given_in cells
cells-told [] = refl
cells-told (cell ∷ cells) = map-append given_of_told (told_in cell) (flat_map told_in cells) ∙ (ap (λ (gs : List Given). gs ++ map given_of_told (flat_map told_in cells)) (cell-told cell) ∙ ap (λ (gs : List Given). given_in cell ++ gs) (cells-told cells))

-- ---- a file without its cells

abbrev pub heads_of : Sdf → Sdf
heads_of sdf = record { unit = sdf.unit; divider = sdf.divider; cells = [] }

module _ (c : Circuit) (sdf : Sdf) (corner : Corner) where
  first-same : (before gs : List Given) → first_too_large c (heads_of sdf) corner before gs ≡ first_too_large c sdf corner before gs
  first-same before [] = refl
  first-same before (g ∷ gs) = ap (λ (o : Option Place). if is_too_large_after c sdf corner before g then Some g.entry.place else o) (first-same (before ++ g ∷ []) gs)

  with_cells : (done : List Given) (v : NewValues) → HasAll c (heads_of sdf) corner done v → HasAll c sdf corner done v
  with_cells done v h = record { each_spot = h.each_spot; each_check = h.each_check }

  without_cells : (done : List Given) (v : NewValues) → HasAll c sdf corner done v → HasAll c (heads_of sdf) corner done v
  without_cells done v h = record { each_spot = h.each_spot; each_check = h.each_check }

  -- what entries came to without the cells they came to with them
  pub came-whole : (gs : List Given) (a b : NewValues) → CameTo c (heads_of sdf) corner gs a b → CameTo c sdf corner gs a b
  came-whole gs a b came = record {
    tables = λ done h. with_cells (done ++ gs) b (came.tables done (without_cells done a h));
    fine = λ done h. record { on = λ rest. sym (first-same done (gs ++ rest)) ∙ ((came.fine done (without_cells done a h)).on rest ∙ first-same (done ++ gs) rest) };
    told = came.told;
    sized = came.sized;
  }

-- ---- all entries of a text

abbrev bare : ℤ → Divider → Sdf
bare unit divider = record { unit = unit; divider = divider; cells = [] }

module _ (c : Circuit) (text : List ℕ) (corner : Corner) (closed : IsClosed c) (old new : NewValues) (none : old.timings.items ≡ replicate (length (spots c)) None) (limits : old.limits.items ≡ map (λ (t : CheckTiming). t.limits) c.check_timings) (empty : told_seen old.unmatched.items ≡ []) where
  pub told-after : (unit : ℤ) (divider : Divider) (Came : List Told → Type 0) → IsTellable text unit divider Came → ((ts : List Told) → Came ts → CameTo c (record { unit = unit; divider = divider; cells = [] }) corner (map given_of_told ts) old new)
      → AreAfterText c text corner new
  told-after unit divider Came t on = record {
    sdf = sdf;
    read = reads_parts text t.parts t.read t.fine;
    after = given-after c sdf corner closed old none limits gs (cells-told sdf.cells) new empty (came-whole c sdf corner gs old new came);
  }
    where
      sdf : Sdf
      sdf = sdf_of t.parts

      gs : List Given
      gs = map given_of_told (flat_map told_in sdf.cells)

      heads : bare unit divider ≡ heads_of sdf
      heads = ap (λ (u : ℤ). bare u divider) (sym t.unit_is) ∙ ap (λ (d : Divider). bare sdf.unit d) (sym t.divider_is)

      came : CameTo c (heads_of sdf) corner gs old new
      came = subst (λ (h : Sdf). CameTo c h corner gs old new) heads (on (flat_map told_in sdf.cells) t.came)

pub text-after : (task : code_task.Task) (a b : code_annotator.Annotator) (text : List ℕ) → IsClosed (circuit_of task) → task.sdf.now.cells.items ≡ [] → IsFirst task a → IsTellable text task.sdf.now.unit.power task.sdf.now.divider (HasApplied a b)
    → AreAfterText (circuit_of task) text task.corner b.values
text-after task a b text closed empty first t =
    told-after (circuit_of task) text task.corner closed a.values b.values first.timings first.limits first.none task.sdf.now.unit.power task.sdf.now.divider (HasApplied a b) t came
  where
    came : (ts : List Told) → HasApplied a b ts → CameTo (circuit_of task) (bare task.sdf.now.unit.power task.sdf.now.divider) task.corner (map given_of_told ts) a.values b.values
    came ts h =
        subst (λ (cells : List Cell). CameTo (circuit_of task) (record { unit = task.sdf.now.unit.power; divider = task.sdf.now.divider; cells = cells }) task.corner (map given_of_told ts) a.values b.values) (ap (map view_meant_cell) empty)
        (subst (λ (t : code_task.Task). CameTo (circuit_of t) (view_sdf t.sdf.now) t.corner (map given_of_told ts) a.values b.values) first.is h.came)
