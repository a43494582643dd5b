-- The files before this one.
use Rattle.std.proofs.Common.{map, take}
use Rattle.fit_top.specs.Texts.{AreFitted}
use Rattle.fit_top.specs.Work.{input_seen}
use Rattle.fit_top.proofs.annotating.fit_each.Given as goal

abbrev pub invariant-loop-input : goal.invariant-loop-input
invariant-loop-input l = AreFitted (map input_seen (take l.input-index l.inputs)) l.files.list.items l.files.faults.items
