-- Macros and files lie within fewer of them each time.
use Rattle.std.proofs.Common.{◌+◌, ◌*◌, length}
use Rattle.fit_text.proofs.reader.Reader.+bringing.Given as goal

abbrev pub decreases-bring : goal.decreases-bring
decreases-bring l = 6 * (l.depth.macros + l.depth.files) + 4

abbrev pub decreases-bring_piece : goal.decreases-bring_piece
decreases-bring_piece l = 6 * (l.depth.macros + l.depth.files) + 3

abbrev pub decreases-bring_use : goal.decreases-bring_use
decreases-bring_use l = 6 * (l.depth.macros + l.depth.files) + 2

abbrev pub decreases-bring_include : goal.decreases-bring_include
decreases-bring_include l = 6 * (l.depth.macros + l.depth.files) + 1

abbrev pub decreases-bring_macro : goal.decreases-bring_macro
decreases-bring_macro l = 6 * (l.depth.macros + l.depth.files) + 1

abbrev pub decreases-bring_values : goal.decreases-bring_values
decreases-bring_values l = 6 * (l.depth.macros + l.depth.files) + 5

abbrev pub decreases-bring-loop-rest : goal.decreases-bring-loop-rest
decreases-bring-loop-rest l = length l.rest
