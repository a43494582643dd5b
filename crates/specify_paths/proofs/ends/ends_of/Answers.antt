-- The first side that has a fault is refused, and then sides whose widths differ.
use Rattle.std.specs.Prelude.{◌≡◌, ◌++◌, flat_map, length, map}
use Rattle.std.proofs.Common.{sym, ◌∙◌, ap, subst, rules}
use Rattle.std.proofs.lemmas.Result.{err_from_is_err_and}
use Rattle.vl_tree.specs.Seen.{view_path, view_term}
use Rattle.elab_model.specs.Faults.{RefusesOneOf}
use Rattle.elab_model.specs.Homes.{is_input, is_output}
use Rattle.specify_model.specs.Faults.{end_faults, port_faults, side_faults}
use Rattle.elab_model.specs.Terms.{terms_bits}
use Rattle.specify_values.proofs.InTurn.{exit}
use Rattle.specify_paths.proofs.Sides.{input-told, output-told, parallel-differ, sides-told}
use Rattle.specify_paths.proofs.ends.ends_of.Goals as goal

pub returns-in_err-check_ports-clause-told : goal.returns-in_err-check_ports-clause-told
returns-in_err-check_ports-clause-told c =
    let p = view_path c.args.path.now in
    exit c.from_residual.result (end_faults c.args.table.now p ++ side_faults c.args.table.now p) c.in_err-check_ports.field-0.0
    (err_from_is_err_and c.from_residual.result c.from_residual.ensures.1)
    (input-told c.args.table.now p c.in_err-check_ports.field-0.0
    (subst (λ ts. RefusesOneOf (flat_map (port_faults is_input c.args.table.now) (map view_term ts)) c.in_err-check_ports.field-0.0) c.deref.ensures.value c.in_err-check_ports.ensures))

pub returns-in_err-check_ports-2-clause-told : goal.returns-in_err-check_ports-2-clause-told
returns-in_err-check_ports-2-clause-told c =
    let p = view_path c.args.path.now in
    exit c.from_residual-in_err-check_ports-2.result (end_faults c.args.table.now p ++ side_faults c.args.table.now p) c.in_err-check_ports-2.field-0.0
    (err_from_is_err_and c.from_residual-in_err-check_ports-2.result c.from_residual-in_err-check_ports-2.ensures.1)
    (output-told c.args.table.now p c.in_err-check_ports-2.field-0.0
    (subst (λ ts. RefusesOneOf (flat_map (port_faults is_output c.args.table.now) (map view_term ts)) c.in_err-check_ports-2.field-0.0) c.deref-2.ensures.value c.in_err-check_ports-2.ensures))

pub returns-then-len-clause-told : goal.returns-then-len-clause-told
returns-then-len-clause-told c =
    let inputs_counted : c.len.result ≡ length c.in_ok-inputs.inputs.items = search rules in
    let outputs_counted : c.len-then-eq.result ≡ length c.in_ok-outputs.outputs.items = search rules in
    sides-told c.args.table.now (view_path c.args.path.now) c.in_ok-inputs.inputs.items c.in_ok-outputs.outputs.items
    (ap (λ ts. flat_map (port_faults is_input c.args.table.now) (map view_term ts)) (sym c.deref.ensures.value) ∙ c.in_ok-check_ports.ensures)
    (ap (λ ts. flat_map (port_faults is_output c.args.table.now) (map view_term ts)) (sym c.deref-2.ensures.value) ∙ c.in_ok-check_ports-2.ensures)
    (c.in_ok-inputs.ensures.bits ∙ ap (λ ts. terms_bits c.args.table.now (map view_term ts)) c.deref-3.ensures.value)
    (c.in_ok-outputs.ensures.bits ∙ ap (λ ts. terms_bits c.args.table.now (map view_term ts)) c.deref-4.ensures.value)
    (parallel-differ c.args.path.now.arrow c.len.result c.len-then-eq.result (length c.in_ok-inputs.inputs.items) (length c.in_ok-outputs.outputs.items) (sym c.if-eq.ensures) inputs_counted
    outputs_counted c.if-len.true)
