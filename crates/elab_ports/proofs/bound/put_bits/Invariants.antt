-- So many bits stand in the row.
use Rattle.std.proofs.Common.{◌≡◌, Some, map, take}
use Rattle.elab_ports.specs.Binding.{put}
use Rattle.elab_ports.proofs.bound.put_bits.Given as goal

abbrev pub invariant-loop-offset : goal.invariant-loop-offset
invariant-loop-offset l = l.row ≡ put l.start (map Some (take l.offset l.bits)) l.initial.row
