-- The names of a concatenation, part after part.
use Rattle.std.proofs.Common.{rules, ◌<◌, length, arith, add-one}
use Rattle.vl_tree.specs.Seen.{view_expression}
use Rattle.elab_variables.specs.Naming.{key_texts, names_in}
use Rattle.elab_variables.proofs.WithNames.{next-part}
use Rattle.elab_variables.proofs.UsedNames.{concatenation-named, sized-named}
use Rattle.elab_variables.proofs.naming.+add_expression.Goals as goal

pub returns-in-Sized : goal.returns-in-Sized
returns-in-Sized t c = sized-named (key_texts c.args.known.now.keys) c.args.expression.now c.in-Sized.place c.in-Sized.value c.in-Sized.is

pub loop-part-preserved : goal.loop-part-preserved
loop-part-preserved t c =
    let lt : c.loop-part.part-index < length c.deref-part-items.result.now = omega arith in
    rw add-one (next-part (λ e. names_in (view_expression e)) c.deref-part-items.result.now c.loop-part.part-index c.part-item.result (key_texts c.loop-part.known.keys)
    (key_texts c.add_expression.new.known.keys) _
    lt (search rules) c.in_ok-add_expression-in-Concatenation.ensures c.loop-part.invariant)

pub returns-after-loop-part : goal.returns-after-loop-part
returns-after-loop-part t c =
    concatenation-named (key_texts c.loop-part.known.keys) (key_texts c.args.known.now.keys) c.args.expression.now c.in-Concatenation.place c.in-Concatenation.parts c.in-Concatenation.is
    c.deref-part-items.result.now
    c.deref-part-items.ensures.value c.loop-part.part-index c.loop-part-test.false c.loop-part.invariant
