use Rattle.std.proofs.Common.{◌∙◌, sym, arith, length}
use Rattle.std.specs.Prelude.{bytes_eq}
use Rattle.run_report.specs.Report.{net_text}
use Rattle.why_text.proofs.FirstLaws.{none_at}
use Rattle.why_text.proofs.finding.find_net.Goals as goal

pub loop-net-preserved : goal.loop-net-preserved
loop-net-preserved c =
    none_at (λ n. bytes_eq (net_text c.args.circuit.now n) c.args.name.now) c.loop-net.net (length c.args.circuit.now.nets) _ (omega (arith, c.loop-net-test.true, c.count_nets-net-end.ensures.count)) c.loop-net.invariant
    (sym c.in_ok-is_net_called.ensures ∙ c.if-branch.false)
