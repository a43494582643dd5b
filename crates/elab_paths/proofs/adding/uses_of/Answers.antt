-- One instance more.
use Rattle.std.proofs.lemmas.Result.{err_from_is_err_and}
use Rattle.elab_elements.proofs.Putting.{exit-by}
use Rattle.elab_paths.proofs.InstanceTurn.{next-uses, next-refused, all-uses}
use Rattle.elab_paths.proofs.InstanceUses.{stands}
use Rattle.elab_paths.proofs.adding.uses_of.Goals as goal

pub add_uses-requires-clause-at : goal.add_uses-requires-clause-at
add_uses-requires-clause-at c =
    let k = stands c.requires.given.0 c.requires.given.1.0 c.requires.given.1.1.0 c.args.library.now c.args.modules.now c.args.instances.now c.args.rows.now c.loop-number.number c.index-instances-number.result c.loop-number-test.true
    c.index-instances-number.is c.requires.given.1.1.1 in
    (c.requires.given.0, (c.requires.given.1.0, (c.requires.given.1.1.0, (c.args.instances.now, (k.0, k.1)))))

pub returns-in_err-add_uses-clause-refused : goal.returns-in_err-add_uses-clause-refused
returns-in_err-add_uses-clause-refused c =
    exit-by _ c.from_residual.result c.in_err-add_uses.field-0.0 (err_from_is_err_and c.from_residual.result c.from_residual.ensures.1)
    (λ source top corner h. next-refused source top corner c.args.library.now c.args.modules.now c.args.instances.now c.args.rows.now h c.loop-number.number c.index-instances-number.result c.loop-number.uses
    c.in_err-add_uses.field-0.0 c.loop-number-test.true c.index-instances-number.is (c.in_err-add_uses.ensures.refused source top corner c.args.instances.now) (c.loop-number.invariant.made source top corner h))

pub loop-number-preserved : goal.loop-number-preserved
loop-number-preserved c = record {
  few = c.in_ok-add_uses.ensures.few;
  made = λ source top corner h. next-uses source top corner c.args.library.now c.args.modules.now c.args.instances.now c.args.rows.now h c.loop-number.number c.index-instances-number.result c.loop-number.uses c.add_uses.new.uses
      c.loop-number-test.true c.index-instances-number.is (c.in_ok-add_uses.ensures.uses source top corner c.args.instances.now) (c.loop-number.invariant.made source top corner h);
}

pub returns-clause-uses : goal.returns-clause-uses
returns-clause-uses c = λ source top corner h.
    all-uses source top corner c.args.library.now c.args.modules.now c.args.instances.now c.args.rows.now h c.loop-number.number c.loop-number.uses c.loop-number-test.false (c.loop-number.invariant.made source top corner h)
