-- What is known of the sections so far.
use Rattle.std.proofs.Common.{map, take}
use Rattle.vcd_form.specs.Seen.{section_seen}
use Rattle.vcd_stim.specs.Index.{listed, IsKnown}
use Rattle.vcd_stim.proofs.sections.table_of.Given as goal

abbrev pub invariant-loop-section : goal.invariant-loop-section
invariant-loop-section l = IsKnown l.inputs.circuit.now l.scope (map section_seen (take l.section-index l.sections)) l.walk.fronts.items l.walk.found (listed l.table)
