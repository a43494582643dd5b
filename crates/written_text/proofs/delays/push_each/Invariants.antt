use Rattle.std.proofs.Common.{◌≡◌, ◌++◌, flat_map, map, take}
use Rattle.sg_circuit.specs.TimingsSeen.{timings_of}
use Rattle.written_model.specs.Entries.{numbers_of}
use Rattle.written_model.specs.Text.{delay_text}
use Rattle.written_text.proofs.delays.push_each.Given as goal

-- the transitions so far
abbrev pub invariant-loop-transition : goal.invariant-loop-transition
invariant-loop-transition l = l.text.items ≡ l.fn.text.items ++ flat_map delay_text (map numbers_of (take l.transition (timings_of l.delays l.limits)))
