use Rattle.std.proofs.Common.{◌≡◌, take}
use Rattle.udp_table.proofs.building.compiled_rows.Given as goal

abbrev pub invariant-loop-row : goal.invariant-loop-row
invariant-loop-row l = l.compiled.items ≡ take l.row-index l.rows
