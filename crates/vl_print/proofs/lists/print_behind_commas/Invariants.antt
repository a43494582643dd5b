-- What is put for the parts that are left is put for all.
use Rattle.std.proofs.Common.{◌≡◌, length, map}
use Rattle.vl_token.specs.Seen.{lexeme}
use Rattle.vl_print.specs.Printing.{behind_comma, put_many}
use Rattle.vl_print.proofs.lists.print_behind_commas.Given as goal

abbrev pub invariant-more : goal.invariant-more
invariant-more g l = let p = g.P.Print in put_many (behind_comma p.tokens) (map p.view l.rest) (map lexeme l.out.items) ≡ put_many (behind_comma p.tokens) (map p.view l.parts) (map lexeme l.initial.out.items)

abbrev pub decreases-more : goal.decreases-more
decreases-more g l = length l.rest
