-- Each section keeps to what is known of those before; at their end the scope is found.
use Rattle.std.proofs.Common.{map, take, sym, subst}
use Rattle.std.proofs.lemmas.Result.{err_from_is_err_and}
use Rattle.vcd_form.specs.Seen.{section_seen}
use Rattle.vcd_stim.specs.Meant.{RefusesOneOf}
use Rattle.vcd_stim.proofs.IndexLaws.{known-next, next-fails, scope-missing}
use Rattle.vcd_stim.proofs.Refusals.{exit-match}
use Rattle.vcd_stim.proofs.sections.table_of.Goals as goal

pub returns-in_err-add_section : goal.returns-in_err-add_section
returns-in_err-add_section c =
    exit-match _ _ c.from_residual.result c.in_err-add_section.field-0.0 (err_from_is_err_and c.from_residual.result c.from_residual.ensures.1)
    (next-fails section_seen c.args.sections.now c.loop-section.section-index _ c.args.inputs.now.circuit.now c.args.scope.now _ c.in_err-add_section.field-0.0 c.loop-section-test.true
    (c.in_err-add_section.ensures (map section_seen (take c.loop-section.section-index c.args.sections.now)) c.loop-section.invariant))

pub loop-section-preserved : goal.loop-section-preserved
loop-section-preserved c =
    known-next section_seen c.args.sections.now c.loop-section.section-index _ c.args.inputs.now.circuit.now c.args.scope.now _ _ _ c.loop-section-test.true
    (c.in_ok-add_section.ensures (map section_seen (take c.loop-section.section-index c.args.sections.now)) c.loop-section.invariant)

pub returns-then-not-walk : goal.returns-then-not-walk
returns-then-not-walk c =
    subst (RefusesOneOf _) (sym c.fault.ensures)
    (scope-missing section_seen c.args.sections.now c.loop-section.section-index c.args.inputs.now.circuit.now c.args.scope.now _ _ _ c.args.definitions c.loop-section-test.false c.loop-section.invariant c.if-not-walk.true)
