-- Each check refuses one of the faults.
use Rattle.std.proofs.Common.{map, ap, sym, ◌∙◌}
use Rattle.std.proofs.lemmas.Result.{err_from_is_err_and}
use Rattle.vl_tree.specs.Seen.{view_module}
use Rattle.elab_model.specs.NameFaults.{declaration_faults}
use Rattle.elab_names.specs.GivenRanges.{view_range, width_faults}
use Rattle.elab_names.proofs.DeclarationFaults.{faultless, refused-range, refused-width}
use Rattle.elab_declared.proofs.Refusals.{exit}
use Rattle.elab_names.proofs.declarations.check_declarations.Goals as goal

pub returns-in_err-check_agreement-clause-refused : goal.returns-in_err-check_agreement-clause-refused
returns-in_err-check_agreement-clause-refused c =
    let m = view_module c.args.definition.now in
    exit c.from_residual-in_err-check_agreement.result (declaration_faults m) c.in_err-check_agreement.field-0.0
    (err_from_is_err_and c.from_residual-in_err-check_agreement.result c.from_residual-in_err-check_agreement.ensures.1)
    (refused-range m (map view_range c.deref.result.now) c.in_err-check_agreement.field-0.0 (ap (map view_range) c.deref.ensures.value ∙ c.in_ok-ranges.ensures) c.in_ok-check_names.ensures.faultless c.in_err-check_agreement.ensures.refused)

pub returns-in_err-check_widths-clause-refused : goal.returns-in_err-check_widths-clause-refused
returns-in_err-check_widths-clause-refused c =
    let m = view_module c.args.definition.now in
    exit c.from_residual-in_err-check_widths.result (declaration_faults m) c.in_err-check_widths.field-0.0
    (err_from_is_err_and c.from_residual-in_err-check_widths.result c.from_residual-in_err-check_widths.ensures.1)
    (refused-width m (map view_range c.deref-2.result.now) c.in_err-check_widths.field-0.0 (ap (map view_range) c.deref-2.ensures.value ∙ c.in_ok-ranges.ensures) c.in_err-check_widths.ensures.refused)

pub returns-clause-faultless : goal.returns-clause-faultless
returns-clause-faultless c =
    faultless (view_module c.args.definition.now) (map view_range c.deref.result.now) (ap (map view_range) c.deref.ensures.value ∙ c.in_ok-ranges.ensures) c.in_ok-check_names.ensures.faultless c.in_ok-check_agreement.ensures.faultless
    (ap (λ xs. width_faults (map view_range xs)) (c.deref.ensures.value ∙ sym c.deref-2.ensures.value) ∙ c.in_ok-check_widths.ensures.faultless)
