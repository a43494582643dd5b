use Rattle.std.proofs.Common.{◌≡◌, length, get_or}
use Rattle.wave_out.specs.Listing.{HasListed}
use Rattle.wave_out.proofs.changes.push_group.Given as goal

abbrev pub invariant-loop-marks : goal.invariant-loop-marks
invariant-loop-marks g l = record {
  listed : HasListed l.variables (g.N.Nets.values l.nets) l.group l.fn.marks l.marks l.fn.text.items l.text.items;
  words : length l.marks.words.items ≡ length l.fn.marks.words.items;
  groups : length l.marks.groups.items ≡ length l.fn.marks.groups.items;
}

abbrev pub decreases-loop-marks : goal.decreases-loop-marks
decreases-loop-marks g l = get_or l.marks.groups.items l.group 0
