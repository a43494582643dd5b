use Rattle.std.proofs.Common.{arith}
use Rattle.signoff_top.proofs.Found.{lines_written}
use Rattle.signoff_top.proofs.writing.written_report.Goals as goal

pub returns : goal.returns
returns c =
    lines_written c.args.annotated.now.sdf.items c.deref.result.now c.args.annotated.now.unmatched.items c.deref-2.result.now c.new-text.result.items _ _ c.len.result c.new-text.ensures.items c.deref.ensures.value c.deref-2.ensures.value
    (omega (arith, c.len.ensures, c.args.annotated.now.unmatched.ok.0)) c.in_ok-push_unmatched.ensures c.in_ok-push_count.ensures
