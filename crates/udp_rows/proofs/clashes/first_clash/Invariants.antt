-- No row so far clashes with an earlier one.
use Rattle.std.proofs.Common.{◌≡◌, ℕ, ◌<◌, false, slice_get, Some}
use Rattle.udp_rows.specs.declared.cells.RawRow.{RawRow}
use Rattle.udp_rows.specs.Columns.{clashes_before}
use Rattle.udp_rows.proofs.clashes.first_clash.Given as goal

abbrev pub invariant-loop-k : goal.invariant-loop-k
invariant-loop-k l = (k : ℕ) (row : RawRow) → k < l.k → slice_get l.rows k ≡ Some row → clashes_before l.rows k row ≡ false
