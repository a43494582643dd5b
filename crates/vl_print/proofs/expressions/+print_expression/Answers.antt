-- The loop puts a concatenation part after part.
use Rattle.std.proofs.Common.{refl, map}
use Rattle.std.proofs.lemmas.Result.{on_ok_weaker}
use Rattle.vl_token.specs.Seen.{lexeme}
use Rattle.vl_print.proofs.PutLeft.{part_put, all_put}
use Rattle.vl_print.proofs.expressions.+print_expression.Goals as goal

pub loop-part-init : goal.loop-part-init
loop-part-init t c = refl

pub loop-part-preserved : goal.loop-part-preserved
loop-part-preserved t c =
    part_put c.loop-part.behind c.deref-part-items.result.now c.loop-part.part-index c.part-item.result (map lexeme c.loop-part.out.items) (map lexeme c.comma.new.out.items) (map lexeme c.print_expression.new.out.items) _
    c.loop-part-test.true c.part-item.is c.in_ok-comma-in-Concatenation.ensures c.in_ok-print_expression-in-Concatenation.ensures c.loop-part.invariant

pub returns-after-loop-part : goal.returns-after-loop-part
returns-after-loop-part t c =
    rw c.in-Concatenation.is
    (on_ok_weaker c.symbol.result
    (all_put c.loop-part.behind c.in-Concatenation.place c.in-Concatenation.parts c.deref-part-items.result.now c.loop-part.part-index (map lexeme c.args.out.now.items) (map lexeme c.symbol_at.new.out.items) (map lexeme c.loop-part.out.items) (map lexeme c.symbol.new.out.items)
    c.deref-part-items.ensures.value c.loop-part-test.false c.in_ok-symbol_at-in-Concatenation.ensures c.loop-part.invariant)
    c.symbol.ensures)
