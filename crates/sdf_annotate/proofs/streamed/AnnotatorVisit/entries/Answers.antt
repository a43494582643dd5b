-- The entries that are told are those of the cell.
use Rattle.std.proofs.Common.{List, refl, subst, sym}
use Rattle.annotation_model.specs.Given.{Given}
use Rattle.sdf_meaning.specs.MeantSeen.{view_sdf}
use Rattle.sdf_annotate.specs.Progress.{CameTo}
use Rattle.sdf_annotate.specs.Seen.{circuit_of}
use Rattle.sdf_annotate.proofs.StreamedSteps.{entries-told}
use Rattle.sdf_annotate.proofs.streamed.AnnotatorVisit.entries.Goals as goal

pub returns-in-Ok-clause-came : goal.returns-in-Ok-clause-came
returns-in-Ok-clause-came c =
    let a = c.args.self.now in
    record {
      task = refl;
      came = subst (λ (gs : List Given). CameTo (circuit_of a.task) (view_sdf a.task.sdf.now) a.task.corner gs a.values c.annotate_entries.new.values) (sym (entries-told c.args.cell.now c.args.entries.now)) c.in-Ok.ensures.came;
    }
