use Rattle.std.proofs.Common.{◌≡◌, length}
use Rattle.std.specs.List.{list_all}
use Rattle.sdf_lex.specs.Names.{letters_of, is_name_letter}
use Rattle.sdf_lex.proofs.names.are_name_letters.Given as goal

abbrev pub invariant-loop-letter : goal.invariant-loop-letter
invariant-loop-letter l = list_all is_name_letter (letters_of l.left) ≡ list_all is_name_letter (letters_of l.bytes)

abbrev pub decreases-loop-letter : goal.decreases-loop-letter
decreases-loop-letter l = length l.left
