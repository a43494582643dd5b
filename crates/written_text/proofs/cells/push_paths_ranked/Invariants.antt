use Rattle.std.proofs.Common.{◌≡◌, ◌++◌, flat_map, take}
use Rattle.written_text.specs.Page.{path_lines_at}
use Rattle.written_text.proofs.cells.push_paths_ranked.Given as goal

-- the elements so far
abbrev pub invariant-loop-number : goal.invariant-loop-number
invariant-loop-number l = l.text.items ≡ l.fn.text.items ++ flat_map (path_lines_at l.page l.rank) (take l.number-index l.elements)
