-- One variable after another.
use Rattle.std.proofs.Common.{arith}
use Rattle.specify_values.proofs.Named.{no-names, next-name, all-names}
use Rattle.specify_values.proofs.port_names.names_of_ports.Goals as goal

pub loop-place-init : goal.loop-place-init
loop-place-init c = (
  record { first = c.in_ok-forwards.ensures.tree; second = c.in_ok-backwards.ensures.tree },
  no-names c.args.table.now (record { forwards = c.in_ok-forwards.forwards; backwards = c.in_ok-backwards.backwards }) c.in_ok-forwards.ensures.names c.in_ok-backwards.ensures.names,
)

pub loop-place-preserved : goal.loop-place-preserved
loop-place-preserved c = (
  c.in_ok-add_port.ensures.trees,
  next-name c.args.table.now c.loop-place.place c.name.result.now c.loop-place.names c.add_port.new.names (omega (arith, c.loop-place-test.true, c.len-place-end.ensures)) c.name.ensures c.loop-place.invariant.1
      c.in_ok-add_port.ensures,
)

pub returns : goal.returns
returns c = all-names c.args.table.now c.loop-place.place c.loop-place.names (omega (arith, c.loop-place-test.false, c.len-place-end.ensures)) c.loop-place.invariant.1
