-- The delays that are left make of those so far all.
use Rattle.std.proofs.Common.{◌≡◌, ◌-◌, length, map}
use Rattle.sdf_lex.specs.Seen.{lexeme}
use Rattle.sdf_tree.specs.Seen.{view_delay}
use Rattle.sdf_tree.specs.Values as values
use Rattle.sdf_terms.proofs.DelayLists.{rest_behind}
use Rattle.sdf_terms.proofs.lists.list.Given as goal

abbrev pub invariant-more : goal.invariant-more
invariant-more l = rest_behind l.limited (map lexeme l.tokens) view_delay l.delays.items (length l.delays.items) l.next ≡ (values.list l.limited).read (map lexeme l.tokens) l.at

abbrev pub decreases-more : goal.decreases-more
decreases-more l = length (map lexeme l.tokens) - l.next
