-- The checks of the modules, and those of the instances.
use Rattle.std.specs.Prelude.{length}
use Rattle.std.proofs.Common.{sym, subst}
use Rattle.std.proofs.lemmas.Result.{err_from_is_err_and}
use Rattle.circuit_model.specs.CheckUses.{check_uses}
use Rattle.circuit_model.specs.Faults.{check_faults, over}
use Rattle.elab_declared.proofs.Refusals.{refused-left, refused-right}
use Rattle.elab_checks.specs.Standing.{AreGiven}
use Rattle.elab_checks.specs.Uses.{AreUses}
use Rattle.vl_elab.proofs.Below.{leaves}
use Rattle.vl_elab.proofs.Steps.{checks-given}
use Rattle.vl_elab.proofs.checks.checks_below.Goals as goal

pub ready_checks-requires-clause-read : goal.ready_checks-requires-clause-read
ready_checks-requires-clause-read c = let h = c.requires.nets.1 in (c.requires.nets.0, h.below.are_placed, h.below.tick_is, h.is_ready)

pub returns-in_err-ready-clause-refused : goal.returns-in_err-ready-clause-refused
returns-in_err-ready-clause-refused c =
    leaves _ c.from_residual.result c.in_err-ready.field-0.0 (err_from_is_err_and c.from_residual.result c.from_residual.ensures.1)
    (λ m h l. refused-left (check_faults c.args.definitions.now m c.args.corner) (over (length (check_uses c.args.definitions.now m c.args.corner))) c.in_err-ready.field-0.0
    (c.in_err-ready.ensures.refused m h.below.are_placed h.below.tick_is h.is_ready))

pub circuit_checks-requires : goal.circuit_checks-requires
circuit_checks-requires c =
    let m = c.requires.nets.0 in
    let h = c.requires.nets.1 in
    let l = c.requires.nets.2 in
    let d = c.args.definitions.now in
    let checks = c.in_ok-ready.ensures.checks m h.below.are_placed h.below.tick_is h.is_ready in
    record {
      given = (
        d,
        (
          m,
          (
            c.args.corner,
            subst (λ cs. AreGiven d m c.args.corner c.args.library.now c.in_ok-ready.ready cs c.args.instances.now c.args.rows.now c.args.lates.now) (sym c.deref.ensures.value)
                (checks-given d m c.args.corner c.args.tick c.args.instances.now c.args.library.now c.args.rows.now h _ _ _ checks l),
          ),
        ),
      );
    }

pub returns-in_err-made-clause-refused : goal.returns-in_err-made-clause-refused
returns-in_err-made-clause-refused c =
    leaves _ c.from_residual-in_err-made.result c.in_err-made.field-0.0 (err_from_is_err_and c.from_residual-in_err-made.result c.from_residual-in_err-made.ensures.1)
    (λ m h l.
    let d = c.args.definitions.now in
    let checks = c.in_ok-ready.ensures.checks m h.below.are_placed h.below.tick_is h.is_ready in
    refused-right (check_faults d m c.args.corner) (over (length (check_uses d m c.args.corner))) c.in_err-made.field-0.0
    (c.in_err-made.ensures.refused d m c.args.corner
    (subst (λ cs. AreGiven d m c.args.corner c.args.library.now c.in_ok-ready.ready cs c.args.instances.now c.args.rows.now c.args.lates.now) (sym c.deref.ensures.value)
    (checks-given d m c.args.corner c.args.tick c.args.instances.now c.args.library.now c.args.rows.now h _ _ _ checks l))))

pub returns-clause-uses : goal.returns-clause-uses
returns-clause-uses c = λ m h l.
    let d = c.args.definitions.now in
    let checks = c.in_ok-ready.ensures.checks m h.below.are_placed h.below.tick_is h.is_ready in
    subst (λ cs. AreUses cs c.in_ok-made.made (check_uses d m c.args.corner)) c.deref.ensures.value
    (c.in_ok-made.ensures.uses d m c.args.corner
    (subst (λ cs. AreGiven d m c.args.corner c.args.library.now c.in_ok-ready.ready cs c.args.instances.now c.args.rows.now c.args.lates.now) (sym c.deref.ensures.value)
    (checks-given d m c.args.corner c.args.tick c.args.instances.now c.args.library.now c.args.rows.now h _ _ _ checks l)))

pub returns-clause-faultless : goal.returns-clause-faultless
returns-clause-faultless c = λ m h l. (c.in_ok-ready.ensures.checks m h.below.are_placed h.below.tick_is h.is_ready).faultless
