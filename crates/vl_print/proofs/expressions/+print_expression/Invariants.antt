-- What is put for the parts that are left is put for all.
use Rattle.std.proofs.Common.{◌≡◌, drop, map}
use Rattle.vl_token.specs.Seen.{lexeme}
use Rattle.vl_print.specs.Printing.{put_left, put_listed, put_expression}
use Rattle.vl_tree.specs.Seen.{view_expression}
use Rattle.vl_print.proofs.expressions.+print_expression.Given as goal

abbrev pub decreases-print_expression : goal.decreases-print_expression
decreases-print_expression l = goal.size-print_expression l

abbrev pub invariant-loop-part : goal.invariant-loop-part
invariant-loop-part l = put_left l.behind (map view_expression (drop l.part-index l.part-items)) (map lexeme l.out.items) ≡ put_listed put_expression (map view_expression l.part-items) (map lexeme l.initial.out.items)
