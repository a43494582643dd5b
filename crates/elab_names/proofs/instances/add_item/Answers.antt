-- The names of each kind of item.
use Rattle.std.proofs.Common.{rules, map, filter_map}
use Rattle.vl_tree.specs.Seen.{view_name, view_net_name, view_join, view_gate_instance, view_instance, view_specify_item}
use Rattle.elab_model.specs.Members.{supply_value}
use Rattle.elab_names.proofs.InstanceNames.{gates-named, instances-named, assigns-unnamed, supplies-unnamed, nets-unnamed, paths-unnamed, item-named, item-unnamed}
use Rattle.elab_names.proofs.instances.add_item.Goals as goal

pub returns-in_ok-add_gates-in-Gates : goal.returns-in_ok-add_gates-in-Gates
returns-in_ok-add_gates-in-Gates c =
    item-named (map view_name c.args.names.now.items) (map view_name c.add_gates.new.names.items) c.args.item.now _ (filter_map (λ i. i.name) (map view_gate_instance c.in-Gates.instances.items)) c.in-Gates.is
    (gates-named _ _ (map view_gate_instance c.in-Gates.instances.items)) (search rules)

pub returns-in_ok-add_instances-in-Instances : goal.returns-in_ok-add_instances-in-Instances
returns-in_ok-add_instances-in-Instances c =
    item-named (map view_name c.args.names.now.items) (map view_name c.add_instances.new.names.items) c.args.item.now _ (filter_map (λ i. i.name) (map view_instance c.in-Instances.instances.items)) c.in-Instances.is
    (instances-named _ _ (map view_instance c.in-Instances.instances.items)) (search rules)

pub returns-in-Nets : goal.returns-in-Nets
returns-in-Nets c = item-unnamed (map view_name c.args.names.now.items) c.args.item.now _ c.in-Nets.is (nets-unnamed (map view_net_name c.in-Nets.names.items))

pub returns-in-Supplies : goal.returns-in-Supplies
returns-in-Supplies c = item-unnamed (map view_name c.args.names.now.items) c.args.item.now _ c.in-Supplies.is (supplies-unnamed (supply_value c.in-Supplies.supply) (map view_name c.in-Supplies.names.items))

pub returns-in-Assigns : goal.returns-in-Assigns
returns-in-Assigns c = item-unnamed (map view_name c.args.names.now.items) c.args.item.now _ c.in-Assigns.is (assigns-unnamed (map view_join c.in-Assigns.joins.items))

pub returns-in-Specify : goal.returns-in-Specify
returns-in-Specify c = item-unnamed (map view_name c.args.names.now.items) c.args.item.now _ c.in-Specify.is (paths-unnamed (map view_specify_item c.in-Specify.field-0.items.items))
