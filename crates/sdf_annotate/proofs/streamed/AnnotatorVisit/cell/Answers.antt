-- The task and the values stay.
use Rattle.std.proofs.Common.{refl}
use Rattle.sdf_annotate.specs.AppliedLaws.{applied-nothing}
use Rattle.sdf_annotate.proofs.streamed.AnnotatorVisit.cell.Goals as goal

pub returns-in-Ok-clause-came : goal.returns-in-Ok-clause-came
returns-in-Ok-clause-came c = applied-nothing c.args.self.now _ c.requires refl refl
