-- Each level takes one of those that are left. The children so far are placed.
use Rattle.std.proofs.Common.{◌≡◌, ◌≤◌, ◌^◌, length}
use Rattle.vl_tree.specs.Tree.{Source}
use Rattle.elab_model.specs.Hierarchy.{Instance}
use Rattle.elab_hierarchy.specs.Growing.{IsAt}
use Rattle.elab_hierarchy.proofs.Going.{Going}
use Rattle.elab_hierarchy.proofs.instances.+place_below.Given as goal

abbrev pub decreases-place_below : goal.decreases-place_below
decreases-place_below l = l.levels

abbrev pub invariant-loop-child : goal.invariant-loop-child
invariant-loop-child l = record {
  few : length l.list.items ≤ 2 ^ 22;
  more : length l.fn.list.items ≤ length l.list.items;
  chain : l.chain.items ≡ l.fn.chain.items;
  going : (source : Source) (s : Instance) → IsAt source l.children l.levels l.definition l.number l.fn.chain.items (length l.fn.list.items) s
      → Going source l.levels s l.child-items l.child-index l.fn.list.items l.list.items;
}
