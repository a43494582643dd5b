-- One file has other changes, and its text.
use Rattle.std.proofs.Common.{arith}
use Rattle.fit_spans.proofs.TextLaws.{texts-stay}
use Rattle.fit_spans.proofs.edits.add_edit.Goals as goal

pub returns : goal.returns
returns c = texts-stay c.args.files.now c.args.edit.file c.add.new.self c.index-files-at.result (omega (arith, c.if-at-files.false)) c.add.ensures.text
