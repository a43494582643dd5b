-- A net's own name, and those that it is assigned from.
use Rattle.std.proofs.lemmas.Result.{on_ok_weaker}
use Rattle.elab_variables.specs.Naming.{key_texts}
use Rattle.elab_variables.proofs.UsedNames.{net-named, net-unnamed}
use Rattle.elab_variables.proofs.naming.NetNameNaming.add_to.Goals as goal

pub returns-in_ok-add_name-in-Some : goal.returns-in_ok-add_name-in-Some
returns-in_ok-add_name-in-Some c =
    on_ok_weaker c.add_expression.result (net-named (key_texts c.args.known.now.keys) (key_texts c.add_name.new.known.keys) _ c.args.self.now.name.text.now c.args.self.now.value c.in-Some.value
    c.in-Some.is
    c.in_ok-add_name-in-Some.ensures)
    c.add_expression.ensures

pub returns-in-None : goal.returns-in-None
returns-in-None c = net-unnamed (key_texts c.args.known.now.keys) c.args.self.now.name.text.now c.args.self.now.value c.in-None.is
