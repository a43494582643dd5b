use Rattle.std.proofs.Common.{◌≡◌, ◌++◌, take}
use Rattle.written_model.specs.Tree.{cell_type_of}
use Rattle.written_text.proofs.instances.push_cell_type.Given as goal

-- the bytes so far
abbrev pub invariant-loop-byte : goal.invariant-loop-byte
invariant-loop-byte l = l.text.items ≡ l.fn.text.items ++ cell_type_of (take l.byte-index l.name)
