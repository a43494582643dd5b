-- A terminal without a fault has one bit.
use Rattle.std.proofs.Common.{◌∙◌, sym, ap, arith, subst}
use Rattle.std.specs.Prelude.{◌<◌, length}
use Rattle.vl_tree.specs.Seen.{view_term}
use Rattle.elab_laws.specs.Handing.{all_bits}
use Rattle.elab_ends.specs.Seen.{bit_seen}
use Rattle.specify_checks.proofs.OneBit.{one, first-is, first-in_row}
use Rattle.specify_checks.proofs.events.terminal_bit.Goals as goal

pub index-requires : goal.index-requires
index-requires c =
    let n = one c.args.table.now (view_term c.args.term.now) c.in_ok-bits.bits.items c.in_ok-bits.ensures.bits c.in_ok-check_operand.ensures in
    omega (arith, n, c.in_ok-bits.bits.ok.0)

pub returns-clause-bit : goal.returns-clause-bit
returns-clause-bit c =
    let t = view_term c.args.term.now in
    let n = one c.args.table.now t c.in_ok-bits.bits.items c.in_ok-bits.ensures.bits c.in_ok-check_operand.ensures in
    ap (bit_seen c.args.table.now) c.index.ensures ∙ first-is c.args.table.now t c.in_ok-bits.bits.items c.in_ok-bits.ensures.bits _ n

pub returns-clause-row : goal.returns-clause-row
returns-clause-row c =
    let n = one c.args.table.now (view_term c.args.term.now) c.in_ok-bits.bits.items c.in_ok-bits.ensures.bits c.in_ok-check_operand.ensures in
    subst (λ i. i < length (all_bits c.args.table.now)) (sym c.index.ensures) (first-in_row c.args.table.now c.in_ok-bits.bits.items _ c.in_ok-bits.ensures.row n)
