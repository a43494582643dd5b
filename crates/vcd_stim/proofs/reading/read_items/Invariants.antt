-- The items that are read so far.
use Rattle.std.proofs.Common.{◌≡◌, ◌-◌, length}
use Rattle.vcd_form.specs.Reading.{read_of}
use Rattle.vcd_form.specs.Words.{words}
use Rattle.vcd_model.specs.Faults.{Header}
use Rattle.vcd_stim.specs.Index.{listed}
use Rattle.vcd_stim.specs.Meant.{scale_seen}
use Rattle.vcd_stim.specs.Steps.{IsTableOf}
use Rattle.vcd_stim.specs.Whole.{IsReached}
use Rattle.vcd_stim.proofs.reading.read_items.Given as goal

abbrev pub invariant-loop-steps : goal.invariant-loop-steps
invariant-loop-steps l = record {
  same : l.words.text.now ≡ l.fn.words.text.now;
  reached : (h : Header) → h.scale ≡ scale_seen l.scale → IsTableOf h (listed l.table) → IsReached h l.fn.words.text.now (read_of l.fn.words) (read_of l.words) l.steps;
}

abbrev pub decreases-loop-steps : goal.decreases-loop-steps
decreases-loop-steps l = length (words l.words.text.now) - read_of l.words
