use Rattle.std.proofs.Common.{◌≡◌, length}
use Rattle.wave_out.specs.Listing.{HasListed}
use Rattle.wave_out.proofs.changes.push_marked.Given as goal

abbrev pub invariant-loop-group : goal.invariant-loop-group
invariant-loop-group g l = record {
  listed : HasListed l.variables (g.N.Nets.values l.nets) l.group l.fn.marks l.marks l.fn.text.items l.text.items;
  words : length l.marks.words.items ≡ length l.fn.marks.words.items;
  groups : length l.marks.groups.items ≡ length l.fn.marks.groups.items;
}
