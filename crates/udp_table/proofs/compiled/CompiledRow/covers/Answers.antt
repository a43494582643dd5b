use Rattle.std.proofs.Common.{◌∙◌, ap, sym, ◌&&◌}
use Rattle.udp_rows.specs.Meaning.{state_covers}
use Rattle.udp_table.proofs.PairLaws.{row-covered}
use Rattle.udp_table.proofs.compiled.CompiledRow.covers.Goals as goal

pub returns-then-all_have : goal.returns-then-all_have
returns-then-all_have c =
    let step = c.args.step.now in
    row-covered c.self.inside.row.now c.args.self.now c.deref.result.now step.pairs step.input step.code step.old step.state c.all_have.result c.covers_state.result
    c.self.view_is c.self.invariant.0 step.read step.paired (c.deref.ensures.value ∙ c.self.invariant.2) c.all_have.ensures
    (c.covers_state.ensures ∙ ap (λ b. b && state_covers c.self.inside.row.now.state step.state) (sym c.if-all_have.true))

pub returns-else-all_have : goal.returns-else-all_have
returns-else-all_have c =
    let step = c.args.step.now in
    row-covered c.self.inside.row.now c.args.self.now c.deref.result.now step.pairs step.input step.code step.old step.state c.all_have.result c.all_have.result
    c.self.view_is c.self.invariant.0 step.read step.paired (c.deref.ensures.value ∙ c.self.invariant.2) c.all_have.ensures
    (c.if-all_have.false ∙ ap (λ b. b && state_covers c.self.inside.row.now.state step.state) (sym c.if-all_have.false))
