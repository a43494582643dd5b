use Rattle.std.proofs.Common.{◌≡◌, ◌++◌, flat_map, take}
use Rattle.written_text.specs.Page.{ranked_line}
use Rattle.written_text.proofs.cells.push_paths_to.Given as goal

-- the paths so far
abbrev pub invariant-loop-path : goal.invariant-loop-path
invariant-loop-path l = l.text.items ≡ l.fn.text.items ++ flat_map (ranked_line l.page l.rank l.output) (take l.path-index l.paths)
