-- What the steps answer is what elaboration may answer.
use Rattle.std.proofs.Common.{◌≡◌, subst}
use Rattle.std.specs.Prelude.{Ok, option_map}
use Rattle.std.proofs.lemmas.Result.{err_from_is_err_and}
use Rattle.elab_model.specs.Tops.{top_of}
use Rattle.elab_hierarchy.specs.Tops.{RefusesTop}
use Rattle.vl_elab.specs.Below.{IsBelow, RefusesBelow}
use Rattle.vl_elab.proofs.Below.{definitions-refused, top-refused, refuses, elaborates}
use Rattle.vl_elab.proofs.Told.{ok-weaker, err-weaker}
use Rattle.vl_elab.proofs.circuits.elaborate.Goals as goal

pub returns-in_err-definitions : goal.returns-in_err-definitions
returns-in_err-definitions c =
    refuses _ _ _ c.from_residual.result c.in_err-definitions.field-0.0 (err_from_is_err_and c.from_residual.result c.from_residual.ensures.1)
    (definitions-refused _ _ _ c.in_err-definitions.field-0.0 c.in_err-definitions.ensures.refused)

pub returns-in_err-top : goal.returns-in_err-top
returns-in_err-top c =
    refuses _ _ _ c.from_residual-in_err-top.result c.in_err-top.field-0.0 (err_from_is_err_and c.from_residual-in_err-top.result c.from_residual-in_err-top.ensures.1)
    (top-refused _ _ _ c.in_err-top.field-0.0 (subst (λ d. RefusesTop d (option_map (λ n. n.now) c.args.name) c.in_err-top.field-0.0) c.in_ok-definitions.ensures.definitions c.in_err-top.ensures.refused))

pub returns : goal.returns
returns c =
    let same = c.in_ok-definitions.ensures.definitions in
    let top = c.in_ok-top.ensures.top in
    elaborates _ _ c.args.corner top.0 c.circuit_below.result c.in_ok-definitions.ensures.faultless (subst (λ d. top_of d (option_map (λ n. n.now) c.args.name) ≡ Ok top.0) same top.1)
    (ok-weaker _ _ c.circuit_below.result (λ made h. subst (λ d. IsBelow d top.0 c.args.corner made) same (h top.0 top.2)) c.circuit_below.ensures.circuit)
    (err-weaker _ _ c.circuit_below.result (λ r h. subst (λ d. RefusesBelow d top.0 c.args.corner r) same (h top.0 top.2)) c.circuit_below.ensures.refused)
