-- The scopes so far are marked.
use Rattle.std.proofs.Common.{◌≡◌, ℕ, false, if◌then◌else◌, length, slice_index_or, take}
use Rattle.annotation_model.specs.Ports.{has}
use Rattle.annotation_scopes.proofs.cells.mark.Given as goal

abbrev pub invariant-loop-scope : goal.invariant-loop-scope
invariant-loop-scope l =
    (length l.marks ≡ length l.fn.marks)
    × ((t : ℕ) → slice_index_or l.marks t false ≡ (if has t (take l.scope-index l.scopes) then l.mark else slice_index_or l.fn.marks t false))
