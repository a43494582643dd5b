use Rattle.std.proofs.Common.{◌≡◌, ◌++◌, map, reverse, take}
use Rattle.wave_out.specs.declared.scopes.Visit.TheVariants.{Enters}
use Rattle.wave_out.proofs.scopes.push_children.Given as goal

-- the children that are left complete the list
abbrev pub invariant-loop-i : goal.invariant-loop-i
invariant-loop-i l = l.pending.items ++ map Enters (reverse (take l.i l.children)) ≡ l.fn.pending.items ++ map Enters (reverse l.children)
