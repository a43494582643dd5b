-- What is kept is some parts, behind which the others stand.
use Rattle.std.proofs.Common.{◌-◌, length, map}
use Rattle.sdf_lex.specs.Seen.{lexeme}
use Rattle.sdf_tree.specs.Entries as entries
use Rattle.sdf_read.specs.Tails.{view_tail}
use Rattle.sdf_read.proofs.PathTails.{Kept}
use Rattle.sdf_read.proofs.tails.tail.Given as goal

abbrev pub invariant-more : goal.invariant-more
invariant-more l = Kept l.limited (map lexeme l.tokens) ((entries.tail_parts l.limited).read (map lexeme l.tokens) l.at) (view_tail l.tail) l.next

abbrev pub decreases-more : goal.decreases-more
decreases-more l = length (map lexeme l.tokens) - l.next
