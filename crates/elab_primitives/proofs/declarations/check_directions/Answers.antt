-- The first port is looked for among the outputs, the others among the inputs.
use Rattle.std.proofs.Common.{map, sym, ◌∙◌, subst, take, drop}
use Rattle.std.proofs.lemmas.Result.{err_from_is_err_and}
use Rattle.vl_tree.specs.Seen.{view_name, view_primitive}
use Rattle.elab_model.specs.declared.kinds.ElabKind.TheVariants.{BadTerminal}
use Rattle.elab_model.specs.Faults.{missing, RefusesOneOf}
use Rattle.elab_model.specs.Primitives.{outputs, inputs}
use Rattle.elab_model.specs.PrimitiveFaults.{wrong_directions}
use Rattle.elab_declared.proofs.Refusals.{exit, refused-left, refused-right, missing-of}
use Rattle.elab_primitives.proofs.SameFaults.{first-cut, others-cut, directions-cut, none-in_both, missing-none}
use Rattle.elab_primitives.proofs.declarations.check_directions.Goals as goal

pub returns-in_err-check_among-clause-refused : goal.returns-in_err-check_among-clause-refused
returns-in_err-check_among-clause-refused c =
    let p = view_primitive c.args.primitive.now in
    let r = c.in_err-check_among.field-0.0 in
    let cut = first-cut c.first_and_others.result.0.now c.deref.result.now c.args.primitive.now.ports.items c.first_and_others.ensures.first c.deref.ensures.value in
    exit c.from_residual.result (wrong_directions p p.ports) r (err_from_is_err_and c.from_residual.result c.from_residual.ensures.1)
    (subst (λ fs. RefusesOneOf fs r) (sym (directions-cut p p.ports))
    (refused-left (missing BadTerminal (take 1 p.ports) (outputs p)) (missing BadTerminal (drop 1 p.ports) (inputs p)) r
    (missing-of BadTerminal (map view_name c.first_and_others.result.0.now) (take 1 p.ports) (map view_name c.outputs.result.now) (outputs p) r cut (c.outputs.ensures p c.requires) c.in_err-check_among.ensures.refused)))

pub returns-in_err-check_among-2-clause-refused : goal.returns-in_err-check_among-2-clause-refused
returns-in_err-check_among-2-clause-refused c =
    let p = view_primitive c.args.primitive.now in
    let r = c.in_err-check_among-2.field-0.0 in
    let cut = others-cut c.first_and_others.result.1.now c.deref.result.now c.args.primitive.now.ports.items c.first_and_others.ensures.others c.deref.ensures.value in
    exit c.from_residual-in_err-check_among-2.result (wrong_directions p p.ports) r (err_from_is_err_and c.from_residual-in_err-check_among-2.result c.from_residual-in_err-check_among-2.ensures.1)
    (subst (λ fs. RefusesOneOf fs r) (sym (directions-cut p p.ports))
    (refused-right (missing BadTerminal (take 1 p.ports) (outputs p)) (missing BadTerminal (drop 1 p.ports) (inputs p)) r
    (missing-of BadTerminal (map view_name c.first_and_others.result.1.now) (drop 1 p.ports) (map view_name c.inputs.result.now) (inputs p) r cut (c.inputs.ensures p c.requires) c.in_err-check_among-2.ensures.refused)))

pub returns-clause-faultless : goal.returns-clause-faultless
returns-clause-faultless c =
    let p = view_primitive c.args.primitive.now in
    let first = first-cut c.first_and_others.result.0.now c.deref.result.now c.args.primitive.now.ports.items c.first_and_others.ensures.first c.deref.ensures.value in
    let others = others-cut c.first_and_others.result.1.now c.deref.result.now c.args.primitive.now.ports.items c.first_and_others.ensures.others c.deref.ensures.value in
    directions-cut p p.ports ∙ none-in_both (missing BadTerminal (take 1 p.ports) (outputs p)) (missing BadTerminal (drop 1 p.ports) (inputs p))
    (missing-none BadTerminal (map view_name c.first_and_others.result.0.now) (take 1 p.ports) (map view_name c.outputs.result.now) (outputs p) first (c.outputs.ensures p c.requires) c.in_ok-check_among.ensures.faultless)
    (missing-none BadTerminal (map view_name c.first_and_others.result.1.now) (drop 1 p.ports) (map view_name c.inputs.result.now) (inputs p) others (c.inputs.ensures p c.requires) c.in_ok-check_among-2.ensures.faultless)
