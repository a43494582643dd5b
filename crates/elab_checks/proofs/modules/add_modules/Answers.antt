-- One instance more.
use Rattle.std.proofs.Common.{sym, subst}
use Rattle.std.proofs.lemmas.Result.{err_from_is_err_and}
use Rattle.vl_tree.specs.Tree.{Module}
use Rattle.elab_model.specs.Names.{variables}
use Rattle.elab_hierarchy.specs.Tops.{StandsAt}
use Rattle.elab_hierarchy.proofs.Whole.{refuses}
use Rattle.specify_checks.specs.Copies.{HasNames}
use Rattle.elab_paths.specs.OfModules.{StandsReady}
use Rattle.elab_paths.proofs.OnShelves.{grows-none, grows-then}
use Rattle.elab_checks.proofs.EachModule.{one-refused}
use Rattle.elab_checks.proofs.SoFar.{there-none, there-next, there-all}
use Rattle.elab_checks.proofs.modules.add_modules.Goals as goal

pub loop-placed-init : goal.loop-placed-init
loop-placed-init c = record { ready = c.requires.ready; there = there-none c.args.checks.now c.args.instances.now; longer = grows-none c.args.conditions.now.items; read = λ h. h }

pub add_module-requires-clause-stands : goal.add_module-requires-clause-stands
add_module-requires-clause-stands c =
    subst (λ p. StandsReady c.args.definitions.now c.args.tick.power c.args.library.now.parts.items p.definition) (sym c.placed-item.is)
    (c.requires.stand c.loop-placed.placed-index c.placed-item.result c.loop-placed-test.true)

pub add_module-requires-clause-named : goal.add_module-requires-clause-named
add_module-requires-clause-named c =
    subst (λ p. (m : Module) → StandsAt c.args.definitions.now p.definition m → HasNames m (variables m)) (sym c.placed-item.is)
    (c.requires.named c.loop-placed.placed-index c.placed-item.result c.loop-placed-test.true)

pub returns-in_err-add_module-clause-refused : goal.returns-in_err-add_module-clause-refused
returns-in_err-add_module-clause-refused c =
    refuses _ c.from_residual.result c.in_err-add_module.field-0.0 (err_from_is_err_and c.from_residual.result c.from_residual.ensures.1)
    (one-refused c.args.definitions.now c.args.corner c.args.tick.power c.placed-item.result c.placed-item.result c.args.instances.now c.loop-placed.placed-index c.in_err-add_module.field-0.0
    c.loop-placed-test.true c.placed-item.is c.in_err-add_module.ensures.refused)

pub loop-placed-preserved : goal.loop-placed-preserved
loop-placed-preserved c = record {
  ready = c.in_ok-add_module.ensures.ready;
  there = there-next c.placed-item.result c.placed-item.result c.loop-placed.checks c.add_module.new.checks c.args.instances.now c.loop-placed.placed-index c.loop-placed-test.true c.placed-item.is
      c.in_ok-add_module.ensures.stays c.in_ok-add_module.ensures.there c.loop-placed.invariant.there;
  longer = grows-then c.args.conditions.now.items c.loop-placed.conditions.items c.add_module.new.conditions.items c.loop-placed.invariant.longer c.in_ok-add_module.ensures.longer;
  read = λ h. c.in_ok-add_module.ensures.read (c.loop-placed.invariant.read h);
}

pub returns-clause-there : goal.returns-clause-there
returns-clause-there c = there-all c.loop-placed.checks c.args.instances.now c.loop-placed.placed-index c.loop-placed-test.false c.loop-placed.invariant.there
