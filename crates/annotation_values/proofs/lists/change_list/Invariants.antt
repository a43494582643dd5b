-- The values so far were applied, and none was too large.
use Rattle.std.proofs.Common.{◌≡◌, false, map, take}
use Rattle.sdf_meaning.specs.MeantSeen.{view_delay_value}
use Rattle.sg_circuit.specs.TimingsSeen.{timings_of}
use Rattle.annotation_model.specs.Applied.{change_of, changed_each, is_each_large}
use Rattle.annotation_values.specs.Seen.{grid_seen}
use Rattle.annotation_values.proofs.lists.change_list.Given as goal

abbrev pub invariant-loop-i : goal.invariant-loop-i
invariant-loop-i l = record {
  changed : timings_of l.delays l.limits ≡ changed_each l.increment (take l.i (map (λ v. change_of (grid_seen l.grid) (view_delay_value v)) l.values)) (timings_of l.fn.delays l.fn.limits);
  small : is_each_large l.increment (take l.i (map (λ v. change_of (grid_seen l.grid) (view_delay_value v)) l.values)) (timings_of l.fn.delays l.fn.limits) ≡ false;
}
