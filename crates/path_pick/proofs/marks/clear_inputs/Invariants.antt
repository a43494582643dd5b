use Rattle.std.specs.Prelude.{ℕ, ◌≡◌, ◌&&◌, not, false, slice_index_or}
use Rattle.std.proofs.Common.{take}
use Rattle.path_pick.specs.Marks.{is_input}
use Rattle.path_pick.proofs.marks.clear_inputs.Given as goal

abbrev pub invariant-loop-path : goal.invariant-loop-path
invariant-loop-path l = (net : ℕ) → slice_index_or l.flags net false ≡ (slice_index_or l.fn.flags net false && not (is_input (take l.path-index l.paths) net))
