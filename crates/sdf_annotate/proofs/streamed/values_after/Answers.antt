-- All entries were told, and applied.
use Rattle.sdf_annotate.proofs.StreamedSteps.{text-after}
use Rattle.sdf_annotate.proofs.streamed.values_after.Goals as goal

pub returns : goal.returns
returns c = λ text o. text-after _ c.in-Ok-new_annotator.annotator c.tell.new.visitor text c.requires.closed c.new-cells.ensures.items c.in-Ok-new_annotator.ensures (c.in_ok-tell.ensures text o)
