-- The members so far have been seen to.
use Rattle.std.proofs.Common.{◌≡◌, ◌≤◌, [], length}
use Rattle.sg_delay.specs.declared.corners.Corner as ghost_corner
use Rattle.vl_tree.specs.Tree.{Module}
use Rattle.elab_modules.specs.Ready.{IsPrepared}
use Rattle.elab_laws.specs.NumberLaws.{nets_before}
use Rattle.elab_nets.specs.Turns.{AreThrough, HasTurn}
use Rattle.elab_nets.proofs.turns.add_members.Given as goal

abbrev pub invariant-loop-index : goal.invariant-loop-index
invariant-loop-index l = record {
  few : length l.rows.nets.items ≤ 4194304;
  through : (top : Module) (corner : ghost_corner.Corner) (turn : HasTurn l.definitions top corner l.library l.instances l.initial.rows l.prepared.table l.number) → IsPrepared l.prepared turn.s.step.definition
      → length l.initial.rows.nets.items ≡ nets_before l.definitions turn.before turn.s [] → AreThrough l.definitions top turn.before turn.s l.index l.next l.initial.rows l.rows;
}
