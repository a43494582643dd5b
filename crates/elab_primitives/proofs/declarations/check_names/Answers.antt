-- Each check refuses one of the faults.
use Rattle.std.proofs.Common.{[], ◌∷◌, ◌++◌, map, ap}
use Rattle.std.proofs.lemmas.Result.{err_from_is_err_and}
use Rattle.vl_tree.specs.Seen.{view_name, view_primitive}
use Rattle.elab_model.specs.Faults.{duplicates}
use Rattle.elab_model.specs.Primitives.{outputs, inputs, regs}
use Rattle.elab_model.specs.PrimitiveFaults.{named_twice}
use Rattle.elab_declared.proofs.Refusals.{exit, one-of, none-of, once-of}
use Rattle.elab_primitives.proofs.SameFaults.{once-none}
use Rattle.elab_primitives.proofs.declarations.check_names.Goals as goal

pub returns-in_err-check_once-clause-refused : goal.returns-in_err-check_once-clause-refused
returns-in_err-check_once-clause-refused c =
    let p = view_primitive c.args.primitive.now in
    let r = c.in_err-check_once.field-0.0 in
    exit c.from_residual.result (named_twice p) r (err_from_is_err_and c.from_residual.result c.from_residual.ensures.1)
    (one-of [] (duplicates p.ports) (duplicates (outputs p ++ inputs p) ∷ duplicates (regs p) ∷ []) r
    (once-of (map view_name c.deref.result.now) p.ports r (ap (map view_name) c.deref.ensures.value) c.in_err-check_once.ensures.refused))

pub returns-in_err-check_once-2-clause-refused : goal.returns-in_err-check_once-2-clause-refused
returns-in_err-check_once-2-clause-refused c =
    let p = view_primitive c.args.primitive.now in
    let r = c.in_err-check_once-2.field-0.0 in
    exit c.from_residual-in_err-check_once-2.result (named_twice p) r (err_from_is_err_and c.from_residual-in_err-check_once-2.result c.from_residual-in_err-check_once-2.ensures.1)
    (one-of (duplicates p.ports ∷ []) (duplicates (outputs p ++ inputs p)) (duplicates (regs p) ∷ []) r
    (once-of (map view_name c.directions.result.now) (outputs p ++ inputs p) r (c.directions.ensures p c.requires) c.in_err-check_once-2.ensures.refused))

pub returns-in_err-check_once-3-clause-refused : goal.returns-in_err-check_once-3-clause-refused
returns-in_err-check_once-3-clause-refused c =
    let p = view_primitive c.args.primitive.now in
    let r = c.in_err-check_once-3.field-0.0 in
    exit c.from_residual-in_err-check_once-3.result (named_twice p) r (err_from_is_err_and c.from_residual-in_err-check_once-3.result c.from_residual-in_err-check_once-3.ensures.1)
    (one-of (duplicates p.ports ∷ duplicates (outputs p ++ inputs p) ∷ []) (duplicates (regs p)) [] r
    (once-of (map view_name c.regs.result.now) (regs p) r (c.regs.ensures p c.requires) c.in_err-check_once-3.ensures.refused))

pub returns-clause-faultless : goal.returns-clause-faultless
returns-clause-faultless c =
    let p = view_primitive c.args.primitive.now in
    none-of (duplicates p.ports ∷ duplicates (outputs p ++ inputs p) ∷ duplicates (regs p) ∷ []) (
      once-none (map view_name c.deref.result.now) p.ports (ap (map view_name) c.deref.ensures.value) c.in_ok-check_once.ensures.faultless,
      (
        once-none (map view_name c.directions.result.now) (outputs p ++ inputs p) (c.directions.ensures p c.requires) c.in_ok-check_once-2.ensures.faultless,
        (once-none (map view_name c.regs.result.now) (regs p) (c.regs.ensures p c.requires) c.in_ok-check_once-3.ensures.faultless, tt),
      ),
    )
