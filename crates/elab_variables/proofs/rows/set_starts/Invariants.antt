-- Rows so far are placed, and those that are left are as they were.
use Rattle.std.proofs.Common.{◌≡◌, ◌++◌, take, drop}
use Rattle.elab_variables.specs.Rows.{placed, bit_count}
use Rattle.elab_variables.proofs.rows.set_starts.Given as goal

abbrev pub invariant-loop-row : goal.invariant-loop-row
invariant-loop-row l = record {
  placed : take l.row-index l.rows ++ placed l.bits (drop l.row-index l.rows) ≡ placed 0 l.initial.rows;
  left : drop l.row-index l.rows ≡ drop l.row-index l.initial.rows;
  count : l.bits ≡ bit_count (take l.row-index l.initial.rows);
}
