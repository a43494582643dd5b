-- A bridge, on which no public clause rests: entries that were applied, and others behind them.
use Rattle.std.specs.Prelude.{◌≡◌, refl, List, [], ◌++◌, map}
use Rattle.std.proofs.Common.{ap, sym, ◌∙◌, subst}
use Rattle.std.proofs.lemmas.List.{append_assoc, append-nil, map-append}
use Rattle.sg_delay.specs.declared.corners.Corner.{Corner}
use Rattle.sg_circuit.specs.Circuit.{Circuit}
use Rattle.sdf_meaning.specs.MeantSeen.{view_sdf}
use Rattle.sdf_stream.specs.Told.{Told}
use Rattle.sdf_tree.specs.Meant.{Sdf}
use Rattle.annotation_model.specs.Annotated.{unmatched_in}
use Rattle.annotation_model.specs.Given.{Given}
use Rattle.annotation_model.proofs.ProgressLaws.{fine-more, fine-none, unmatched-append}
use Rattle.sdf_annotate.specs.Progress.{AreSized, CameTo, HasAll}
use Rattle.sdf_annotate.specs.Seen.{circuit_of}
use Rattle.sdf_annotate.specs.Streamed.{HasApplied, IsAnnotator, given_of_told}
use Rattle.sdf_annotate.specs.Told.{told_seen}
use Rattle.sdf_annotate.specs.declared.streamed.Annotator as code_annotator
use Rattle.sdf_annotate.specs.declared.tasks.Task as code_task
use Rattle.sdf_annotate.specs.declared.values.NewValues.{NewValues}

module _ (c : Circuit) (sdf : Sdf) (corner : Corner) where
  pub came-none : (v : NewValues) → AreSized c v → CameTo c sdf corner [] v v
  came-none v sized = record {
    tables = λ done h. subst (λ gs. HasAll c sdf corner gs v) (sym (append-nil done)) h;
    fine = λ done h. fine-none c sdf corner done;
    told = sym (append-nil (told_seen v.unmatched.items));
    sized = sized;
  }

  pub came-more : (xs ys : List Given) (a b d : NewValues) → CameTo c sdf corner xs a b → CameTo c sdf corner ys b d → CameTo c sdf corner (xs ++ ys) a d
  came-more xs ys a b d one two = record {
    tables = λ done h. subst (λ gs. HasAll c sdf corner gs d) (append_assoc done xs ys) (two.tables (done ++ xs) (one.tables done h));
    fine = λ done h. fine-more c sdf corner done xs ys (one.fine done h) (two.fine (done ++ xs) (one.tables done h));
    told = two.told ∙ (ap (λ us. us ++ unmatched_in c sdf ys) one.told ∙ (append_assoc (told_seen a.unmatched.items) (unmatched_in c sdf xs) (unmatched_in c sdf ys)
        ∙ ap (λ us. told_seen a.unmatched.items ++ us) (sym (unmatched-append c sdf corner xs ys))));
    sized = two.sized;
  }

-- an annotator that looks elsewhere has applied nothing
pub applied-nothing : (a b : code_annotator.Annotator) → IsAnnotator a → b.task ≡ a.task → b.values ≡ a.values → HasApplied a b []
applied-nothing a b is task values = record {
  task = task;
  came = subst (λ (v : NewValues). CameTo (circuit_of a.task) (view_sdf a.task.sdf.now) a.task.corner [] a.values v) (sym values) (came-none (circuit_of a.task) (view_sdf a.task.sdf.now) a.task.corner a.values is.sized);
}

pub applied-none : (a : code_annotator.Annotator) → IsAnnotator a → HasApplied a a []
applied-none a is = applied-nothing a a is refl refl

pub applied-more : (a b d : code_annotator.Annotator) (xs ys : List Told) → HasApplied a b xs → HasApplied b d ys → HasApplied a d (xs ++ ys)
applied-more a b d xs ys p q = record {
  task = q.task ∙ p.task;
  came = subst (λ (gs : List Given). CameTo c sdf corner gs a.values d.values) (sym (map-append given_of_told xs ys)) (came-more c sdf corner (map given_of_told xs) (map given_of_told ys) a.values b.values d.values p.came behind);
}
  where
    c : Circuit
    c = circuit_of a.task

    sdf : Sdf
    sdf = view_sdf a.task.sdf.now

    corner : Corner
    corner = a.task.corner

    behind : CameTo c sdf corner (map given_of_told ys) b.values d.values
    behind = subst (λ (t : code_task.Task). CameTo (circuit_of t) (view_sdf t.sdf.now) t.corner (map given_of_told ys) b.values d.values) p.task q.came
