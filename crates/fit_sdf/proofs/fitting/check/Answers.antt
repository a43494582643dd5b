use Rattle.std.proofs.Common.{◌∙◌, sym}
use Rattle.fit_changes.specs.Changes.{changed}
use Rattle.fit_sdf.proofs.RefusalLaws.{no_changes, read_as}
use Rattle.fit_sdf.proofs.fitting.check.Goals as goal

pub returns-then-is_empty-clause-read : goal.returns-then-is_empty-clause-read
returns-then-is_empty-clause-read c =
    let text = c.args.changes.now.text in
    let changes = c.args.changes.now.changes in
    read_as c.check_text.result c.text-text.result.now (changed text changes) (c.text-text.ensures.text ∙ sym (no_changes text changes (sym c.is_empty.ensures ∙ c.if-is_empty.true))) c.check_text.ensures.read

pub returns-clause-read : goal.returns-clause-read
returns-clause-read c = read_as c.check_text-2.result c.deref.result.now (changed c.args.changes.now.text c.args.changes.now.changes) (c.deref.ensures.value ∙ c.in_ok-made.ensures) c.check_text-2.ensures.read
