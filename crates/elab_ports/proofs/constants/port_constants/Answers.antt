-- The constants that were added to none.
use Rattle.std.proofs.Common.{rules, map}
use Rattle.vl_tree.specs.Seen.{view_name, view_connections}
use Rattle.elab_ports.proofs.Placings.{constants-are_those}
use Rattle.elab_ports.proofs.constants.port_constants.Goals as goal

pub returns-clause-constants : goal.returns-clause-constants
returns-clause-constants c = λ m o k.
    constants-are_those c.args.parent.now c.args.child.now m c.args.instance.now.place (view_connections c.args.instance.now.connections) (map view_name c.args.ports.now) c.new-list.result.items
    c.add_all.new.list.items
    (search rules) c.in_ok-add_all.ensures o k
