-- What was added is one bit, or is cut off again.
use Rattle.std.proofs.Common.{sym, ◌≡◌, ◌∙◌, ap, arith, length, map}
use Rattle.elab_bits.specs.Seen.{view_bit}
use Rattle.elab_elements.proofs.TerminalBits.{output-kept, output-cut}
use Rattle.elab_elements.proofs.terminals.add_output.Goals as goal

pub returns-then-len-before-clause-bits : goal.returns-then-len-before-clause-bits
returns-then-len-before-clause-bits c =
    let before : c.len-before.result ≡ length c.args.bits.now.items = omega (arith, c.len-before.ensures, c.args.bits.now.ok.0) in
    let after : length c.add_bits.new.bits.items ≡ c.len.result = omega (arith, c.len.ensures, c.add_bits.new.bits.ok.0) in
    output-kept c.args.table.now c.len-before.result c.args.bits.now.items c.add_bits.new.bits.items _ before (after ∙ c.if-len-before.true) c.in_ok-add_bits.ensures.bits

pub returns-clause-bits : goal.returns-clause-bits
returns-clause-bits c =
    let before : c.len-before.result ≡ length c.args.bits.now.items = omega (arith, c.len-before.ensures, c.args.bits.now.ok.0) in
    let after : length c.add_bits.new.bits.items ≡ c.len.result = omega (arith, c.len.ensures, c.add_bits.new.bits.ok.0) in
    ap (map (view_bit c.args.table.now)) c.truncate.ensures.items
    ∙ output-cut c.args.table.now c.len-before.result c.args.bits.now.items c.add_bits.new.bits.items _ before (λ e. c.if-len-before.false (sym after ∙ e)) c.in_ok-add_bits.ensures.bits
