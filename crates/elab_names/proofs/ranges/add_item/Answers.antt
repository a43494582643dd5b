-- The ranges of each kind of item.
use Rattle.std.proofs.Common.{rules, map, true, false, None}
use Rattle.vl_tree.specs.Seen.{view_name, view_net_name}
use Rattle.elab_names.specs.GivenRanges.{with_range, view_range}
use Rattle.elab_names.proofs.ItemRanges.{ports-given, names-given, nets-given, item-given}
use Rattle.elab_names.proofs.ranges.add_item.Goals as goal

pub returns-in_ok-add_names-in-Ports : goal.returns-in_ok-add_names-in-Ports
returns-in_ok-add_names-in-Ports c =
    item-given (map view_range c.args.ranges.now.items) (map view_range c.add_names.new.ranges.items) c.args.item.now _ (map (with_range c.in-Ports.range) (map view_name c.in-Ports.names.items)) c.in-Ports.is
    (ports-given _ _ _ c.in-Ports.range (map view_name c.in-Ports.names.items)) (search rules)

pub returns-in_ok-add_nets-in-Nets : goal.returns-in_ok-add_nets-in-Nets
returns-in_ok-add_nets-in-Nets c =
    item-given (map view_range c.args.ranges.now.items) (map view_range c.add_nets.new.ranges.items) c.args.item.now _ (map (λ n. with_range c.in-Nets.range n.name) (map view_net_name c.in-Nets.names.items)) c.in-Nets.is
    (nets-given false c.in-Nets.range (map view_net_name c.in-Nets.names.items)) (search rules)

pub returns-in_ok-add_names-in-Supplies : goal.returns-in_ok-add_names-in-Supplies
returns-in_ok-add_names-in-Supplies c =
    item-given (map view_range c.args.ranges.now.items) (map view_range c.add_names-in-Supplies.new.ranges.items) c.args.item.now _ (map (with_range c.in-Supplies.range) (map view_name c.in-Supplies.names.items)) c.in-Supplies.is
    (names-given false c.in-Supplies.range (map view_name c.in-Supplies.names.items)) (search rules)

pub returns-in_ok-add_names-in-Registers : goal.returns-in_ok-add_names-in-Registers
returns-in_ok-add_names-in-Registers c =
    item-given (map view_range c.args.ranges.now.items) (map view_range c.add_names-in-Registers.new.ranges.items) c.args.item.now _ (map (with_range None) (map view_name c.in-Registers.names.items)) c.in-Registers.is
    (names-given true None (map view_name c.in-Registers.names.items)) (search rules)
