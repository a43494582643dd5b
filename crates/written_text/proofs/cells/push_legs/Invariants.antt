use Rattle.std.proofs.Common.{◌≡◌, ◌++◌, flat_map, take}
use Rattle.written_text.specs.Page.{leg_lines_at}
use Rattle.written_text.proofs.cells.push_legs.Given as goal

-- the elements so far
abbrev pub invariant-loop-number : goal.invariant-loop-number
invariant-loop-number l = l.text.items ≡ l.fn.text.items ++ flat_map (leg_lines_at l.page) (take l.number-index l.elements)
