-- The bytes so far are behind the tag and their number.
use Rattle.std.proofs.Common.{◌≡◌, ◌++◌, ◌∷◌, length, take}
use Rattle.written_faults.proofs.codes.push_name.Given as goal

abbrev pub invariant-loop-byte : goal.invariant-loop-byte
invariant-loop-byte l = l.code.items ≡ l.fn.code.items ++ (0 ∷ length l.name ∷ take l.byte-index l.name)
