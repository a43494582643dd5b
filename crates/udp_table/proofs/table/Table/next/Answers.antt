use Rattle.std.proofs.Common.{◌≡◌, ◌∙◌, ap, sym, if◌then◌else◌}
use Rattle.udp_rows.specs.Meaning.{input_value}
use Rattle.udp_table.specs.Places.{code}
use Rattle.udp_table.specs.Looking.{cell_value, state_by}
use Rattle.udp_table.specs.Cells.{answer_by}
use Rattle.udp_table.proofs.TableLaws.{answer-is}
use Rattle.udp_table.proofs.table.Table.next.Goals as goal

pub returns-then-self-clause-meaning : goal.returns-then-self-clause-meaning
returns-then-self-clause-meaning g c = λ udp is.
    let table = c.args.self.now in
    let n = table.inputs in
    let by_cells : c.next_state.result ≡ answer_by table c.args.old.now c.args.new.now c.args.state =
    c.next_state.ensures
    ∙ (ap (λ cells. state_by cells n c.args.old.now c.args.new.now c.args.state n) c.deref.ensures.value
    ∙ ap (λ b. if b then state_by table.cells.items n c.args.old.now c.args.new.now c.args.state n else cell_value table.cells.items (code (input_value c.args.new.now) n)) (sym c.if-self.true)) in
    by_cells ∙ answer-is udp table c.args.old.now c.args.new.now c.args.state is
