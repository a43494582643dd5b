-- One bit stays, and others go.
use Rattle.std.proofs.Common.{◌≡◌, ◌+◌, ◌∙◌, ap, arith, length, take}
use Rattle.vl_tree.specs.Seen.{view_expression}
use Rattle.elab_model.specs.Bits.{bits}
use Rattle.elab_nets.proofs.MemberBits.{others-cut}
use Rattle.elab_nets.proofs.member_bits.add_output.Goals as goal

pub returns-then-len-before-clause-bits : goal.returns-then-len-before-clause-bits
returns-then-len-before-clause-bits c =
    let old = c.args.bits.now.items in
    let new = c.add_bits.new.bits.items in
    let before : c.len-before.result ≡ length old = omega (arith, c.len-before.ensures, c.args.bits.now.ok.0) in
    let after : c.len.result ≡ length new = omega (arith, c.len.ensures, c.add_bits.new.bits.ok.0) in
    others-cut c.args.table.now old new c.truncate.new.self.items (bits c.args.table.now (view_expression c.args.output.now)) c.in_ok-add_bits.ensures.bits
    (λ e. c.if-len-before.true (after ∙ e ∙ ap (λ n. n + 1) (omega arith)))
    (c.truncate.ensures.items ∙ ap (λ n. take n new) before)
