use Rattle.std.proofs.Common.{◌<◌, length, arith}
use Rattle.written_text.proofs.BlockLaws.{close_added}
use Rattle.written_text.proofs.cells.close.Goals as goal

pub returns-then-len-inner : goal.returns-then-len-inner
returns-then-len-inner c =
    let m : c.args.inner < length c.args.text.now.items = omega (arith, c.if-len-inner.true, c.len.ensures, c.args.text.now.ok.0) in
    close_added c.extend_from_slice.result c.args.text.now.items c.args.start c.args.inner c.args.last.now c.extend_from_slice.new.self.items c.requires.start m c.extend_from_slice.ensures.items
