use Rattle.sg_circuit.specs.PathsSeen.{condition_seen}
use Rattle.written_model.specs.Entries.{condition_of}
use Rattle.written_text.specs.Page.{path_entry_of, variables_of}
use Rattle.written_model.specs.Text.{io_path_text}
use Rattle.written_text.proofs.DelayLaws.{path_added}
use Rattle.written_text.proofs.delays.push_path.Goals as goal

pub returns : goal.returns
returns c =
    let conditions = c.args.page.now.parts.now.conditions.items in
    path_added c.push_end.result (condition_of (condition_seen conditions c.args.path.now.condition)) (io_path_text (variables_of c.args.page.now) (path_entry_of c.args.page.now c.args.output c.args.path.now))
    c.args.text.now.items c.push_condition.new.text.items c.push_io_path.new.text.items c.push_end.new.text.items c.in_ok-push_condition.ensures c.in_ok-push_io_path.ensures (c.push_end.ensures conditions)
