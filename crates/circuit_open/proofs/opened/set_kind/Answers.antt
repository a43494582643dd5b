use Rattle.sg_circuit.specs.declared.elements.Element.{Element}
use Rattle.circuit_open.proofs.ChangeLaws.{set-changed}
use Rattle.circuit_open.proofs.opened.set_kind.Goals as goal

pub returns : goal.returns
returns c = set-changed (λ (e : Element). record e { kind = c.args.kind }) c.args.element c.args.elements.now.items c.index_mut.result.now c.requires c.index_mut.ensures.value
