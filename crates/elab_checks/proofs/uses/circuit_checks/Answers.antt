-- One instance more.
use Rattle.std.proofs.lemmas.Result.{err_from_is_err_and}
use Rattle.elab_paths.proofs.Putting.{exit-by}
use Rattle.elab_checks.proofs.InstanceChecks.{stands}
use Rattle.elab_checks.proofs.InstanceTurn.{next-uses, next-refused, all-uses}
use Rattle.elab_checks.proofs.uses.circuit_checks.Goals as goal

pub add_instance-requires-clause-at : goal.add_instance-requires-clause-at
add_instance-requires-clause-at c =
    let k = stands c.requires.given.0 c.requires.given.1.0 c.requires.given.1.1.0 c.args.library.now c.args.modules.now c.args.conditions.now c.args.instances.now c.args.rows.now c.args.lates.now c.loop-number.number c.index-instances-number.result
    c.loop-number-test.true c.index-instances-number.is c.requires.given.1.1.1 in
    (c.requires.given.0, (c.requires.given.1.0, (c.requires.given.1.1.0, (c.args.instances.now, (k.0, k.1)))))

pub returns-in_err-add_instance-clause-refused : goal.returns-in_err-add_instance-clause-refused
returns-in_err-add_instance-clause-refused c =
    exit-by _ c.from_residual.result c.in_err-add_instance.field-0.0 (err_from_is_err_and c.from_residual.result c.from_residual.ensures.1)
    (λ source top corner h. next-refused source top corner c.args.library.now c.args.modules.now c.args.conditions.now c.args.instances.now c.args.rows.now c.args.lates.now h c.loop-number.number c.index-instances-number.result c.loop-number.made
    c.in_err-add_instance.field-0.0 c.loop-number-test.true c.index-instances-number.is (c.in_err-add_instance.ensures.refused source top corner c.args.instances.now) (c.loop-number.invariant.so_far source top corner h))

pub loop-number-preserved : goal.loop-number-preserved
loop-number-preserved c = record {
  few = c.in_ok-add_instance.ensures.few;
  so_far = λ source top corner h. next-uses source top corner c.args.library.now c.args.modules.now c.args.conditions.now c.args.instances.now c.args.rows.now c.args.lates.now h c.loop-number.number c.index-instances-number.result c.loop-number.made
      c.add_instance.new.made c.loop-number-test.true c.index-instances-number.is (c.in_ok-add_instance.ensures.uses source top corner c.args.instances.now) (c.loop-number.invariant.so_far source top corner h);
}

pub returns-clause-uses : goal.returns-clause-uses
returns-clause-uses c = λ source top corner h.
    all-uses source top corner c.args.library.now c.args.modules.now c.args.conditions.now c.args.instances.now c.args.rows.now c.args.lates.now h c.loop-number.number c.loop-number.made c.loop-number-test.false (c.loop-number.invariant.so_far source top corner h)
