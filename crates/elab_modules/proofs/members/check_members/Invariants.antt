-- The members so far have no fault, and their delays stand in the table.
use Rattle.std.proofs.Common.{◌≡◌, ◌≤◌, All, flat_map, map, take, drop}
use Rattle.vl_tree.specs.Tree.{Module}
use Rattle.elab_model.specs.ModuleFaults.{all_member_faults}
use Rattle.elab_variables.specs.Seen.{view_member}
use Rattle.elab_modules.specs.Ready.{IsPrepared}
use Rattle.elab_modules.specs.Telling.{GrowsBy}
use Rattle.elab_modules.proofs.Entries.{AreDelays}
use Rattle.elab_modules.proofs.members.check_members.Given as goal

abbrev pub invariant-loop-member : goal.invariant-loop-member
invariant-loop-member l = record {
  counts : All (λ d. d.count ≤ 3) l.gate_delays.items;
  kept : GrowsBy l.fn.gate_delays.items l.gate_delays.items;
  faults : (m : Module) → IsPrepared l.prepared m
      → flat_map (λ x. all_member_faults l.definitions l.corner l.tick.power m (view_member x)) (drop l.member-index l.member-items)
      ≡ flat_map (λ x. all_member_faults l.definitions l.corner l.tick.power m (view_member x)) l.member-items;
  delays : (m : Module) → IsPrepared l.prepared m
      → AreDelays l.corner l.tick.power m (map view_member (take l.member-index l.member-items)) l.gate_delays.items l.places.items;
}
