-- The Passes are those of the definition.
use Rattle.std.proofs.Common.{flat_map}
use Rattle.std.proofs.lemmas.Result.{on_ok_weaker}
use Rattle.elab_model.specs.Elements.{child_elements}
use Rattle.elab_elements.specs.Words.{port_puts}
use Rattle.elab_elements.proofs.PortMeaning.{ports-mean, ports-within}
use Rattle.elab_elements.proofs.Meaning.{adds}
use Rattle.elab_elements.proofs.Putting.{if_err-weaker, refuses-count}
use Rattle.elab_elements.proofs.ports.add_port_constants.Goals as goal

pub returns-clause-elements : goal.returns-clause-elements
returns-clause-elements c =
    on_ok_weaker c.add_all.result
    (λ puts. λ delays udps all source s child number above here over alone once same. adds delays udps all c.args.made.now c.add_all.new.made _ _
    (ports-mean delays udps all source s child c.args.scope c.args.table.now c.args.leaf c.args.inner.now c.args.outer.now c.args.constants.now number
    (record { above = above; here = here; over = over; alone = alone }) c.requires.bits once same)
    puts)
    c.add_all.ensures.puts

pub returns-clause-refused : goal.returns-clause-refused
returns-clause-refused c =
    if_err-weaker c.add_all.result _ _
    (λ r refused. λ source s child same. refuses-count c.args.made.now
    (flat_map (port_puts c.args.scope c.args.table.now c.args.leaf c.args.inner.now c.args.outer.now) c.args.constants.now) (child_elements source s child) r
    (ports-within source s child c.args.scope c.args.table.now c.args.leaf c.args.inner.now c.args.outer.now c.args.constants.now same)
    refused)
    c.add_all.ensures.refused
