use Rattle.std.proofs.Common.{◌≡◌, ◌++◌, take}
use Rattle.std.specs.Vec.{vec_capacity}
use Rattle.wave_out.proofs.lines.put_bytes.Given as goal

-- the bytes so far are added, and the room stays
abbrev pub invariant-loop-byte : goal.invariant-loop-byte
invariant-loop-byte l = (l.text.items ≡ l.fn.text.items ++ take l.byte-index l.bytes) × (vec_capacity l.text ≡ vec_capacity l.fn.text)
