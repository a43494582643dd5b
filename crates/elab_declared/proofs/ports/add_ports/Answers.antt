-- A port comes after the one before it.
use Rattle.std.proofs.Common.{rules, ◌<◌, length, arith, map, ◌++◌, ◌∷◌, add-one}
use Rattle.vl_tree.specs.Seen.{view_port_declaration, view_head_port}
use Rattle.elab_model.specs.Ports.{ports_after}
use Rattle.elab_declared.proofs.After.{port-next}
use Rattle.elab_declared.proofs.ports.add_ports.Goals as goal

pub loop-port-preserved : goal.loop-port-preserved
loop-port-preserved c =
    let lt : c.loop-port.port-index < length c.args.rest.now = omega arith in
    rw add-one (port-next _ c.loop-port.ports.items c.push-in-loop-port.new.self.items c.loop-port.before c.port_after-before.result c.args.rest.now c.loop-port.port-index
    (map view_port_declaration c.args.ports.now.items ++ view_port_declaration c.args.first ∷ ports_after (view_port_declaration c.args.first) (map view_head_port c.args.rest.now))
    lt (search rules) c.port_after-before.ensures c.loop-port.invariant)
