-- The modules of the instances so far stand ready.
use Rattle.std.proofs.Common.{All, take}
use Rattle.elab_paths.specs.Shelving.{ListGrows, AreRead}
use Rattle.elab_checks.specs.OfModules.{AreReadySoFar, HasReady}
use Rattle.elab_checks.proofs.modules.add_modules.Given as goal

abbrev pub invariant-loop-placed : goal.invariant-loop-placed
invariant-loop-placed l = record {
  ready : AreReadySoFar l.definitions l.corner l.tick.power l.checks l.conditions.items;
  there : All (λ p. HasReady l.checks p.definition) (take l.placed-index l.instances);
  longer : ListGrows l.initial.conditions.items l.conditions.items;
  read : AreRead l.initial.conditions.items → AreRead l.conditions.items;
}
