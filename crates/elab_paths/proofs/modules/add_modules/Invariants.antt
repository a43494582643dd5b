-- The modules of the instances so far stand ready.
use Rattle.std.proofs.Common.{All, take}
use Rattle.elab_paths.specs.Shelving.{IsLonger, AreRead}
use Rattle.elab_paths.specs.OfModules.{AreReadySoFar, HasOutputs}
use Rattle.elab_paths.proofs.modules.add_modules.Given as goal

abbrev pub invariant-loop-placed : goal.invariant-loop-placed
invariant-loop-placed l = record {
  ready : AreReadySoFar l.definitions l.corner l.tick.power l.outputs l.shelves;
  there : All (λ p. HasOutputs l.outputs p.definition) (take l.placed-index l.instances);
  longer : IsLonger l.initial.shelves l.shelves;
  read : AreRead l.initial.shelves.conditions.items → AreRead l.shelves.conditions.items;
}
