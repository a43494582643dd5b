use Rattle.std.proofs.Common.{◌≡◌, ◌^◌}
use Rattle.udp_rows.specs.Meaning.{inputs_taken}
use Rattle.udp_table.specs.Places.{code}
use Rattle.udp_table.proofs.places.code_of.Given as goal

abbrev pub invariant-loop-j : goal.invariant-loop-j
invariant-loop-j l = (l.code ≡ code (inputs_taken l.old l.new l.taken) l.j) × (l.power ≡ 3 ^ l.j)
