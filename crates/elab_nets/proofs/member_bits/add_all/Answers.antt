-- One more has come.
use Rattle.std.proofs.Common.{map, refl, ◌∷◌, []}
use Rattle.vl_tree.specs.Seen.{view_expression}
use Rattle.elab_nets.proofs.MemberBits.{none-yet, one-come, all-come}
use Rattle.elab_nets.proofs.member_bits.add_all.Goals as goal

pub loop-terminal-init : goal.loop-terminal-init
loop-terminal-init c = record { coming = none-yet c.args.table.now (map view_expression c.args.terminals.now) c.args.room.now; row = λ old. old }

pub loop-terminal-preserved : goal.loop-terminal-preserved
loop-terminal-preserved c = record {
  coming = one-come c.args.table.now (map view_expression) (λ x. view_expression x ∷ []) (λ y ys. refl) c.args.terminals.now c.loop-terminal.terminal-index c.terminal-item.result c.args.room.now
      c.loop-terminal.room c.add_terminal.new.room c.loop-terminal-test.true c.terminal-item.is
      c.in_ok-add_terminal.ensures.bits c.loop-terminal.invariant.coming;
  row = λ old. c.add_terminal.ensures.row (c.loop-terminal.invariant.row old);
}

pub returns-clause-bits : goal.returns-clause-bits
returns-clause-bits c =
    all-come c.args.table.now (map view_expression) c.args.terminals.now c.loop-terminal.terminal-index c.args.room.now c.loop-terminal.room refl c.loop-terminal-test.false c.loop-terminal.invariant.coming
