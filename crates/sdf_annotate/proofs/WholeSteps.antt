-- All cells of a file.
use Rattle.std.specs.Prelude.{◌≡◌, refl, ℕ, List, [], ◌∷◌, ◌++◌, map, length, None, Option, replicate, suc, zero}
use Rattle.std.specs.List.{flat_map}
use Rattle.std.specs.Global.{Box}
use Rattle.std.proofs.Common.{ap, sym, ◌∙◌, subst}
use Rattle.std.proofs.lemmas.List.{append-nil, length-map}
use Rattle.sg_delay.specs.declared.corners.Corner.{Corner}
use Rattle.sg_circuit.specs.Circuit.{Circuit}
use Rattle.sg_circuit.specs.Closed.{IsClosed}
use Rattle.sg_circuit.specs.declared.checks.CheckTiming.{CheckTiming}
use Rattle.sg_circuit.specs.declared.elements.LegTiming.{LegTiming}
use Rattle.sdf_tree.specs.Meant.{Sdf}
use Rattle.sdf_tree.specs.Seen.{view_instance}
use Rattle.sdf_tree.specs.declared.tree.Cell as code_cell
use Rattle.sdf_tree.specs.declared.tree.Entry as code_entry
use Rattle.sdf_meaning.specs.MeantSeen.{view_meant, view_meant_cell}
use Rattle.annotation_model.specs.Annotated.{first_too_large, too_large, unmatched_in}
use Rattle.annotation_model.specs.Given.{Given, given, given_in}
use Rattle.annotation_model.specs.Spots.{Checked, Spot, all_checked, spots, timings_of}
use Rattle.annotation_finder.specs.Finding.{given_seen}
use Rattle.annotation_setting.specs.Table.{timings_seen}
use Rattle.sdf_annotate.specs.Progress.{AreSized, CameTo, HasAll, StoppedAt}
use Rattle.sdf_annotate.specs.Seen.{given_of_all}
use Rattle.sdf_annotate.specs.Told.{IsTooLargeAt, told_seen}
use Rattle.sdf_annotate.specs.Whole.{AreAfter}
use Rattle.sdf_annotate.specs.declared.unmatched.AnnotError.{AnnotError}
use Rattle.sdf_annotate.specs.declared.unmatched.AnnotError.TheVariants.{TooLarge, NoMemory}
use Rattle.sdf_annotate.specs.declared.values.NewValues.{NewValues}
use Rattle.sdf_annotate.proofs.BoundLaws.{timings-fit}
use Rattle.sdf_annotate.proofs.CheckLaws.{check-limits}
use Rattle.sdf_annotate.proofs.LimitBounds.{limits-fit}

entries-same : (cell : code_cell.Cell) (es : List code_entry.Entry) → map (λ e. given_seen cell e) es ≡ map (λ e. record { cell_type = cell.cell_type.now; instance = view_instance cell.instance; entry = e }) (map view_meant es)
entries-same cell [] = refl
entries-same cell (e ∷ es) = ap (λ gs. given_seen cell e ∷ gs) (entries-same cell es)

pub cells-same : (cells : List code_cell.Cell) → given_of_all cells ≡ flat_map given_in (map view_meant_cell cells)
cells-same [] = refl
cells-same (cell ∷ cells) = ap (λ gs. gs ++ given_of_all cells) (entries-same cell cell.entries.items) ∙ ap (λ gs. given_in (view_meant_cell cell) ++ gs) (cells-same cells)

none-seen : (ss : List Spot) → timings_seen ss (replicate (length ss) None) ≡ map timings_of ss
none-seen [] = refl
none-seen (s ∷ ss) = ap (λ ts. timings_of s ∷ ts) (none-seen ss)

none-length : (n : ℕ) → length (replicate {A = Option (Box LegTiming)} n None) ≡ n
none-length zero = refl
none-length (suc n) = ap suc (none-length n)

module _ (c : Circuit) (sdf : Sdf) (corner : Corner) (closed : IsClosed c) (old : NewValues) (none : old.timings.items ≡ replicate (length (spots c)) None) (limits : old.limits.items ≡ map (λ (t : CheckTiming). t.limits) c.check_timings) where
  -- the values that a circuit has
  pub values-sized : AreSized c old
  values-sized = record {
    timings = ap length none ∙ none-length (length (spots c));
    limits = ap length (limits ∙ check-limits c closed) ∙ length-map (all_checked c) (λ (k : Checked). k.timing.limits);
  }

  values-first : HasAll c sdf corner [] old
  values-first = record {
    each_spot = ap (timings_seen (spots c)) none ∙ none-seen (spots c);
    each_check = limits ∙ check-limits c closed;
  }

  -- after all entries of a file
  module _ (gs : List Given) (same : gs ≡ given sdf) where
    pub given-after : (new : NewValues) → told_seen old.unmatched.items ≡ [] → CameTo c sdf corner gs old new → AreAfter c sdf corner new
    given-after new empty came = record {
      fine = fine;
      each_spot = has.each_spot;
      each_check = has.each_check;
      told = came.told ∙ (ap (λ us. us ++ unmatched_in c sdf gs) empty ∙ ap (unmatched_in c sdf) same);
      sized = came.sized;
      timings = timings-fit c sdf corner closed fine new.timings.items came.sized.timings has.each_spot;
      limits = limits-fit c closed sdf corner fine new.limits.items has.each_check;
    }
      where
        has : HasAll c sdf corner (given sdf) new
        has = subst (λ gs. HasAll c sdf corner gs new) same (came.tables [] values-first)

        fine : too_large c sdf corner ≡ None
        fine = ap (λ gs. first_too_large c sdf corner [] gs) (sym same ∙ sym (append-nil gs)) ∙ (came.fine [] values-first).on []

  module _ (cells : List code_cell.Cell) (are : map view_meant_cell cells ≡ sdf.cells) where
    same : given_of_all cells ≡ given sdf
    same = cells-same cells ∙ ap (flat_map given_in) are

    pub values-after : (new : NewValues) → told_seen old.unmatched.items ≡ [] → CameTo c sdf corner (given_of_all cells) old new → AreAfter c sdf corner new
    values-after new empty came = given-after (given_of_all cells) same new empty came

    pub values-told : (e : AnnotError) → StoppedAt c sdf corner (given_of_all cells) old e → IsTooLargeAt c sdf corner e
    values-told NoMemory s = tt
    values-told (TooLarge place) s = ap (λ gs. first_too_large c sdf corner [] gs) (sym same ∙ sym (append-nil (given_of_all cells))) ∙ (s [] values-first).here []
