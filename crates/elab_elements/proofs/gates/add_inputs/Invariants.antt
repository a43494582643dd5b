-- The numbers that are there, followed by those that are left, are all; each constant took one.
use Rattle.std.proofs.Common.{◌≡◌, ◌≤◌, ◌+◌, ◌^◌, ◌++◌, drop}
use Rattle.elab_elements.specs.Words.{input_numbers, constants_in}
use Rattle.elab_elements.proofs.gates.add_inputs.Given as goal

abbrev pub invariant-loop-bit : goal.invariant-loop-bit
invariant-loop-bit l = record {
  after : l.first ≤ l.next;
  few : l.next ≤ l.first + 2 ^ 22;
  count : l.next + constants_in (drop l.bit-index l.bits) ≡ l.first + constants_in l.bits;
  left : l.inputs.items ++ input_numbers l.next l.row (drop l.bit-index l.bits) ≡ l.initial.inputs.items ++ input_numbers l.first l.row l.bits;
}
