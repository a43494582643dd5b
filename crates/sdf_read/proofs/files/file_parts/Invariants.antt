-- The parts so far with those that are left are all parts.
use Rattle.std.proofs.Common.{◌≡◌, ◌-◌, length, map, true}
use Rattle.grammar.proofs.LoopsBy.{rest_of_by}
use Rattle.sdf_lex.specs.Seen.{lexeme}
use Rattle.sdf_tree.specs.Files as files
use Rattle.sdf_tree.specs.Kinds.{kind_of, is_left}
use Rattle.sdf_tree.specs.Seen.{view_file_part}
use Rattle.sdf_read.specs.Files.{state}
use Rattle.sdf_read.proofs.files.file_parts.Given as goal

abbrev pub invariant-more : goal.invariant-more
invariant-more l = rest_of_by kind_of is_left (files.file_part l.limited) files.state_after_part (λ s. true) (map lexeme l.tokens) view_file_part l.parts.items (state l.here) l.next ≡ (files.file_parts_parts l.limited).read (map lexeme l.tokens) l.at

abbrev pub decreases-more : goal.decreases-more
decreases-more l = length (map lexeme l.tokens) - l.next
