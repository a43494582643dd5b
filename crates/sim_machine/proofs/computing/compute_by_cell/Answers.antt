use Rattle.std.proofs.Common.{subst}
use Rattle.sim_machine.specs.Cells.{HasBrief}
use Rattle.sim_machine.proofs.CellLaws.{gate_of_one, gate_of_two}
use Rattle.sim_machine.proofs.computing.compute_by_cell.Goals as goal

pub returns-in-One-clause-value : goal.returns-in-One-clause-value
returns-in-One-clause-value g c =
    let is = subst (λ b. HasBrief c.args.item.now.kind c.args.item.now.inputs.items b) c.in-One.is c.requires.brief in
    gate_of_one c.args.parts.now c.args.item.now.kind c.in-One.kind c.args.item.now.inputs.items c.in-One.input c.args.before.now c.args.values.now c.args.state c.gate.result _ c.requires.after is.0 is.1 c.gate.ensures

pub returns-in-Two-clause-value : goal.returns-in-Two-clause-value
returns-in-Two-clause-value g c =
    let is = subst (λ b. HasBrief c.args.item.now.kind c.args.item.now.inputs.items b) c.in-Two.is c.requires.brief in
    gate_of_two c.args.parts.now c.args.item.now.kind c.in-Two.kind c.args.item.now.inputs.items c.in-Two.first c.in-Two.second c.args.before.now c.args.values.now c.args.state c.gate-in-Two.result _ _ c.requires.after is.0 is.1 c.gate-in-Two.ensures
