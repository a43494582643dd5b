-- The sections so far and those that are left make the header.
use Rattle.std.proofs.Common.{◌≡◌, ◌≤◌, ◌-◌, length}
use Rattle.vcd_form.specs.Places.{read_at, IsBetween}
use Rattle.vcd_form.specs.Rules.{header}
use Rattle.vcd_form.specs.Seen.{came_seen}
use Rattle.vcd_form.specs.Words.{words}
use Rattle.vcd_form.proofs.HeaderLaws.{left}
use Rattle.vcd_form.proofs.header.header_from.Given as goal

abbrev pub invariant-more : goal.invariant-more
invariant-more l = record {
  completes : left (words l.text) l.sections.items (came_seen l.came) (read_at l.text l.at) ≡ header.read (words l.text) 0;
  between : IsBetween l.text l.at;
  few : l.came.depth ≤ length l.sections.items;
}

abbrev pub decreases-more : goal.decreases-more
decreases-more l = length (words l.text) - read_at l.text l.at
