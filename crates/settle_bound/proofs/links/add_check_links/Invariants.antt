use Rattle.std.proofs.Common.{◌≡◌, ◌++◌, map, take}
use Rattle.settle_bound.specs.Linked.{check_link}
use Rattle.settle_bound.proofs.links.add_check_links.Given as goal

abbrev pub invariant-loop-check : goal.invariant-loop-check
invariant-loop-check l = l.links.items ≡ l.fn.links.items ++ map check_link (take l.check-index l.checks)
