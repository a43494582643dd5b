-- What an item uses.
use Rattle.std.proofs.Common.{map, subst, bytes_eq}
use Rattle.std.specs.List.{list_any}
use Rattle.std.specs.Option.{option_map}
use Rattle.vl_tree.specs.Seen.{view_name, view_net_name, view_join, view_delay, view_gate_instance, view_specify_item}
use Rattle.elab_model.specs.Members.{supply_value}
use Rattle.elab_hierarchy.proofs.Used.{AddsUsed, item-used, item-unused, instances-used, nets-unused, supplies-unused, assigns-unused, gates-unused, paths-unused}
use Rattle.elab_hierarchy.proofs.tops.add_item.Goals as goal

pub returns-in_ok-add_used-in-Instances : goal.returns-in_ok-add_used-in-Instances
returns-in_ok-add_used-in-Instances c =
    item-used c.args.used.now.keys c.add_used.new.used.keys c.args.item.now _ _ c.in-Instances.is
    (λ n. instances-used n (view_name c.in-Instances.module) (option_map view_delay c.in-Instances.delay) c.in-Instances.instances.items)
    (subst (λ is. AddsUsed c.args.used.now.keys c.add_used.new.used.keys (λ n. list_any (λ i. bytes_eq n c.in-Instances.module.text.now) is)) c.deref.ensures.value c.in_ok-add_used-in-Instances.ensures)

pub returns-in-Nets : goal.returns-in-Nets
returns-in-Nets c = item-unused c.args.used.now.keys c.args.item.now _ c.in-Nets.is (λ n. nets-unused n (map view_net_name c.in-Nets.names.items))

pub returns-in-Supplies : goal.returns-in-Supplies
returns-in-Supplies c = item-unused c.args.used.now.keys c.args.item.now _ c.in-Supplies.is (λ n. supplies-unused n (supply_value c.in-Supplies.supply) (map view_name c.in-Supplies.names.items))

pub returns-in-Assigns : goal.returns-in-Assigns
returns-in-Assigns c = item-unused c.args.used.now.keys c.args.item.now _ c.in-Assigns.is (λ n. assigns-unused n (map view_join c.in-Assigns.joins.items))

pub returns-in-Gates : goal.returns-in-Gates
returns-in-Gates c =
    item-unused c.args.used.now.keys c.args.item.now _ c.in-Gates.is
    (λ n. gates-unused n c.in-Gates.gate (option_map view_delay c.in-Gates.delay) (map view_gate_instance c.in-Gates.instances.items))

pub returns-in-Specify : goal.returns-in-Specify
returns-in-Specify c = item-unused c.args.used.now.keys c.args.item.now _ c.in-Specify.is (λ n. paths-unused n (map view_specify_item c.in-Specify.field-0.items.items))
