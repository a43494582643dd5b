-- The names that each kind of item uses.
use Rattle.std.proofs.lemmas.Result.{on_ok_weaker}
use Rattle.elab_variables.specs.Naming.{key_texts}
use Rattle.elab_variables.proofs.ItemNames.{nets-named, assigns-named, gates-named, instances-named, unnamed, specify-named, supplies-unnamed}
use Rattle.std.proofs.Common.{refl, map}
use Rattle.vl_tree.specs.Seen.{view_name}
use Rattle.elab_model.specs.Members.{supply_value}
use Rattle.elab_variables.proofs.naming.ItemNaming.add_to.Goals as goal

pub returns-in-Nets : goal.returns-in-Nets
returns-in-Nets c = on_ok_weaker c.add_all.result (nets-named (key_texts c.args.known.now.keys) _ c.args.self.now _ _ _ c.in-Nets.names c.in-Nets.is c.deref.result.now c.deref.ensures.value)
    c.add_all.ensures

pub returns-in-Assigns : goal.returns-in-Assigns
returns-in-Assigns c =
    on_ok_weaker c.add_all-in-Assigns.result (assigns-named (key_texts c.args.known.now.keys) _ c.args.self.now _ c.in-Assigns.joins c.in-Assigns.is c.deref-in-Assigns.result.now
    c.deref-in-Assigns.ensures.value) c.add_all-in-Assigns.ensures

pub returns-in-Gates : goal.returns-in-Gates
returns-in-Gates c =
    on_ok_weaker c.add_all-in-Gates.result (gates-named (key_texts c.args.known.now.keys) _ c.args.self.now _ _ _ c.in-Gates.instances c.in-Gates.is c.deref-in-Gates.result.now
    c.deref-in-Gates.ensures.value) c.add_all-in-Gates.ensures

pub returns-in-Instances : goal.returns-in-Instances
returns-in-Instances c =
    on_ok_weaker c.add_all-in-Instances.result (instances-named (key_texts c.args.known.now.keys) _ c.args.self.now _ _ c.in-Instances.instances c.in-Instances.is c.deref-in-Instances.result.now
    c.deref-in-Instances.ensures.value)
    c.add_all-in-Instances.ensures

pub returns-in-Ports : goal.returns-in-Ports
returns-in-Ports c = unnamed (key_texts c.args.known.now.keys) c.args.self.now _ c.in-Ports.is refl

pub returns-in-Supplies : goal.returns-in-Supplies
returns-in-Supplies c = unnamed (key_texts c.args.known.now.keys) c.args.self.now _ c.in-Supplies.is (supplies-unnamed (supply_value c.in-Supplies.supply) (map view_name c.in-Supplies.names.items))

pub returns-in-Registers : goal.returns-in-Registers
returns-in-Registers c = unnamed (key_texts c.args.known.now.keys) c.args.self.now _ c.in-Registers.is refl

pub returns-in-Specify : goal.returns-in-Specify
returns-in-Specify c =
    on_ok_weaker c.add_all-in-Specify.result (specify-named (key_texts c.args.known.now.keys) _ c.args.self.now c.in-Specify.block c.in-Specify.is c.deref-in-Specify.result.now
    c.deref-in-Specify.ensures.value) c.add_all-in-Specify.ensures
