-- The places are those of the circuit.
use Rattle.std.proofs.Common.{subst}
use Rattle.sg_circuit.specs.Circuit.{Circuit}
use Rattle.sdf_annotate.specs.Streamed.{AreAfterText}
use Rattle.sdf_annotate.proofs.streamed.rows_and_values.Goals as goal

pub returns-clause-after : goal.returns-clause-after
returns-clause-after c = subst (λ (circuit : Circuit). AreAfterText circuit c.args.text.now c.args.corner c.in_ok-values.values) c.in-Ok.ensures.seen (c.in_ok-values.ensures c.args.text.now c.in_ok-stream.ensures)
