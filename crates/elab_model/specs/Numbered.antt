-- Nets and elements by the numbers of nets, before it is known what drives a net.
use Rattle.std.specs.Prelude.{List, map}
use Rattle.sg_circuit.specs.Circuit.{Element}
use Rattle.sg_circuit.specs.declared.nets.Driver.TheVariants.{Nobody}
use Rattle.sg_circuit.specs.declared.nets.Net.{Net}
use Rattle.elab_model.specs.Elements.{Component}
use Rattle.elab_model.specs.Nets.{OwnNet, number_of}

abbrev pub undriven : OwnNet → Net
undriven o = record { scope = o.scope; name = o.name; bit = o.bit; driver = Nobody }

abbrev pub element_of : List OwnNet → Component → Element
element_of all c = record { scope = c.scope; inputs = map (number_of all) c.inputs; output = number_of all c.output; kind = c.kind }
