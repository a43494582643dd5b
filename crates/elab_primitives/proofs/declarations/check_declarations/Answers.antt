-- Each check refuses one of the lists of faults.
use Rattle.std.proofs.Common.{[], ◌∷◌, refl, map, ap, ◌∙◌}
use Rattle.std.proofs.lemmas.Result.{err_from_is_err_and}
use Rattle.vl_tree.specs.Seen.{view_name, view_primitive}
use Rattle.elab_model.specs.declared.kinds.ElabKind.TheVariants.{UnknownName}
use Rattle.elab_model.specs.PrimitiveFaults.{named_twice, declared_names, not_a_port, wrong_directions, wrong_regs, no_state, primitive_faults}
use Rattle.elab_declared.proofs.Refusals.{exit, one-of, none-of, missing-of}
use Rattle.elab_primitives.proofs.SameFaults.{missing-none, sequential-is}
use Rattle.elab_primitives.proofs.declarations.check_declarations.Goals as goal

pub returns-in_err-check_names-clause-refused : goal.returns-in_err-check_names-clause-refused
returns-in_err-check_names-clause-refused c =
    let p = view_primitive c.args.primitive.now in
    let r = c.in_err-check_names.field-0.0 in
    exit c.from_residual-in_err-check_names.result (primitive_faults p) r (err_from_is_err_and c.from_residual-in_err-check_names.result c.from_residual-in_err-check_names.ensures.1)
    (one-of [] (named_twice p) (not_a_port p ∷ wrong_directions p p.ports ∷ wrong_regs p p.ports ∷ no_state p ∷ []) r c.in_err-check_names.ensures.refused)

pub returns-in_err-check_among-clause-refused : goal.returns-in_err-check_among-clause-refused
returns-in_err-check_among-clause-refused c =
    let p = view_primitive c.args.primitive.now in
    let r = c.in_err-check_among.field-0.0 in
    let h = c.in_ok-declared.ensures in
    exit c.from_residual-in_err-check_among.result (primitive_faults p) r (err_from_is_err_and c.from_residual-in_err-check_among.result c.from_residual-in_err-check_among.ensures.1)
    (one-of (named_twice p ∷ []) (not_a_port p) (wrong_directions p p.ports ∷ wrong_regs p p.ports ∷ no_state p ∷ []) r
    (missing-of UnknownName (map view_name c.deref.result.now) (declared_names p) (map view_name c.deref-2.result.now) p.ports r
    (ap (map view_name) c.deref.ensures.value ∙ h.names) (ap (map view_name) c.deref-2.ensures.value) c.in_err-check_among.ensures.refused))

pub returns-in_err-check_directions-clause-refused : goal.returns-in_err-check_directions-clause-refused
returns-in_err-check_directions-clause-refused c =
    let p = view_primitive c.args.primitive.now in
    let r = c.in_err-check_directions.field-0.0 in
    exit c.from_residual-in_err-check_directions.result (primitive_faults p) r (err_from_is_err_and c.from_residual-in_err-check_directions.result c.from_residual-in_err-check_directions.ensures.1)
    (one-of (named_twice p ∷ not_a_port p ∷ []) (wrong_directions p p.ports) (wrong_regs p p.ports ∷ no_state p ∷ []) r c.in_err-check_directions.ensures.refused)

pub returns-in_err-check_regs-clause-refused : goal.returns-in_err-check_regs-clause-refused
returns-in_err-check_regs-clause-refused c =
    let p = view_primitive c.args.primitive.now in
    let r = c.in_err-check_regs.field-0.0 in
    exit c.from_residual-in_err-check_regs.result (primitive_faults p) r (err_from_is_err_and c.from_residual-in_err-check_regs.result c.from_residual-in_err-check_regs.ensures.1)
    (one-of (named_twice p ∷ not_a_port p ∷ wrong_directions p p.ports ∷ []) (wrong_regs p p.ports) (no_state p ∷ []) r c.in_err-check_regs.ensures.refused)

pub returns-in_err-check_state-clause-refused : goal.returns-in_err-check_state-clause-refused
returns-in_err-check_state-clause-refused c =
    let p = view_primitive c.args.primitive.now in
    let r = c.in_err-check_state.field-0.0 in
    let sequential = sequential-is c.regs.result.now p c.is_empty-sequential.result (c.regs.ensures p c.in_ok-declared.ensures) c.is_empty-sequential.ensures in
    exit c.from_residual-in_err-check_state.result (primitive_faults p) r (err_from_is_err_and c.from_residual-in_err-check_state.result c.from_residual-in_err-check_state.ensures.1)
    (one-of (named_twice p ∷ not_a_port p ∷ wrong_directions p p.ports ∷ wrong_regs p p.ports ∷ []) (no_state p) [] r (c.in_err-check_state.ensures.refused p refl sequential))

pub returns-clause-sequential : goal.returns-clause-sequential
returns-clause-sequential c =
    sequential-is c.regs.result.now (view_primitive c.args.primitive.now) c.is_empty-sequential.result (c.regs.ensures (view_primitive c.args.primitive.now) c.in_ok-declared.ensures) c.is_empty-sequential.ensures

pub returns-clause-faultless : goal.returns-clause-faultless
returns-clause-faultless c =
    let p = view_primitive c.args.primitive.now in
    let h = c.in_ok-declared.ensures in
    let sequential = sequential-is c.regs.result.now p c.is_empty-sequential.result (c.regs.ensures p h) c.is_empty-sequential.ensures in
    none-of (named_twice p ∷ not_a_port p ∷ wrong_directions p p.ports ∷ wrong_regs p p.ports ∷ no_state p ∷ []) (
      c.in_ok-check_names.ensures.faultless,
      (
        missing-none UnknownName (map view_name c.deref.result.now) (declared_names p) (map view_name c.deref-2.result.now) p.ports (ap (map view_name) c.deref.ensures.value ∙ h.names)
            (ap (map view_name) c.deref-2.ensures.value) c.in_ok-check_among.ensures.faultless,
        (c.in_ok-check_directions.ensures.faultless, (c.in_ok-check_regs.ensures.faultless, (c.in_ok-check_state.ensures.faultless p refl sequential, tt))),
      ),
    )
