-- Constants at the left, then the widths.
use Rattle.std.proofs.Common.{rules, List, length, flat_map, ◌≡◌, map, ap, sym, ◌∙◌}
use Rattle.std.proofs.lemmas.Result.{err_from_is_err_and}
use Rattle.vl_tree.specs.Seen.{view_expression}
use Rattle.elab_model.specs.TerminalFaults.{constant_fault}
use Rattle.elab_bits.specs.declared.bits.Bit.{Bit}
use Rattle.elab_bits.specs.Seen.{view_bit}
use Rattle.elab_modules.specs.Telling.{sides_faults}
use Rattle.elab_modules.proofs.InTurn.{exit}
use Rattle.elab_modules.proofs.JoinedFaults.{driven-refused, widths-refused, sides-faultless}
use Rattle.elab_modules.proofs.assignments.check_sides.Goals as goal

pub returns-in_err-check_driven : goal.returns-in_err-check_driven
returns-in_err-check_driven c =
    let vs = c.args.table.now in
    let l = view_expression c.args.left.now in
    let r = view_expression c.args.right.now in
    exit c.from_residual-in_err-check_driven.result (sides_faults vs c.args.place l r) c.in_err-check_driven.field-0.0
    (err_from_is_err_and c.from_residual-in_err-check_driven.result c.from_residual-in_err-check_driven.ensures.1)
    (driven-refused vs c.args.place l r c.deref.result.now c.in_err-check_driven.field-0.0 (ap (map (view_bit vs)) c.deref.ensures.value ∙ c.in_ok-bits_of.ensures) (c.in_err-check_driven.ensures vs))

pub returns-then-len-width : goal.returns-then-len-width
returns-then-len-width c =
    let vs = c.args.table.now in
    widths-refused vs c.args.place (view_expression c.args.left.now) (view_expression c.args.right.now) c.bits_of.new.bits.items c.bits_of-2.new.bits.items c.in_ok-check_expression.ensures.faultless
    c.in_ok-check_expression-2.ensures.faultless c.in_ok-bits_of.ensures c.in_ok-bits_of-2.ensures
    (λ e. let n : c.len-width.result ≡ length c.bits_of.new.bits.items = search rules in let k : c.len.result ≡ length c.bits_of-2.new.bits.items = search rules in c.if-len-width.true (k ∙ e ∙ sym n))

pub returns : goal.returns
returns c =
    let vs = c.args.table.now in
    sides-faultless vs c.args.place (view_expression c.args.left.now) (view_expression c.args.right.now) c.bits_of.new.bits.items c.bits_of-2.new.bits.items c.in_ok-check_expression.ensures.faultless
    c.in_ok-check_expression-2.ensures.faultless c.in_ok-bits_of.ensures c.in_ok-bits_of-2.ensures
    (let f = λ (xs : List Bit). flat_map (λ b. constant_fault (view_bit vs b)) xs in ap f (sym c.deref.ensures.value) ∙ c.in_ok-check_driven.ensures vs)
    (let n : c.len-width.result ≡ length c.bits_of.new.bits.items = search rules in let k : c.len.result ≡ length c.bits_of-2.new.bits.items = search rules in sym k ∙ c.if-len-width.false ∙ n)
