use Rattle.sg_circuit.specs.declared.paths.Path.{Path}
use Rattle.circuit_open.proofs.ChangeLaws.{set-changed}
use Rattle.circuit_open.proofs.opened.set_timing.Goals as goal

pub returns : goal.returns
returns c = set-changed (λ (p : Path). record p { timing = c.args.timing }) c.args.path c.args.paths.now.items c.index_mut.result.now c.requires c.index_mut.ensures.value
