-- The limits after the text are short in each scope, and the circuit is annotated with what it means.
use Rattle.std.proofs.Common.{◌∙◌, List, ap, subst, sym, ℤ}
use Rattle.sg_circuit.specs.Signals.{AreShort}
use Rattle.late_limits.specs.Adjustments.{with_limits}
use Rattle.annotation_model.specs.Given.{given}
use Rattle.annotation_model.specs.Spots.{spots}
use Rattle.annotation_setting.specs.Table.{timings_seen}
use Rattle.sdf_annotate.proofs.LimitBounds.{limits-short}
use Rattle.sdf_annotate.proofs.streamed.annotate_text.Goals as goal

pub adjust-requires-clause-short : goal.adjust-requires-clause-short
adjust-requires-clause-short c = λ scope.
    let circuit = c.args.circuit.now in
    subst (λ (ls : List (List ℤ)). AreShort circuit.checks (with_limits circuit.check_timings ls) scope) (sym c.deref.ensures.value)
    (limits-short circuit c.in_ok-rows.values.limits.items c.in_ok-rows.ensures.after.after.limits scope)

pub returns-in-Ok-set_all-clause-annotated : goal.returns-in-Ok-set_all-clause-annotated
returns-in-Ok-set_all-clause-annotated c =
    let a = c.in_ok-rows.ensures.after in
    record {
      sdf = a.sdf;
      read = a.read;
      annotated = record {
        fine = a.after.fine;
        circuit = c.in-Ok-set_all.ensures.annotated a.sdf c.args.corner (given a.sdf) (ap (timings_seen (spots c.args.circuit.now)) c.deref-3.ensures.value ∙ a.after.each_spot) (c.deref-4.ensures.value ∙ a.after.each_check);
        unmatched = a.after.told;
      };
    }
