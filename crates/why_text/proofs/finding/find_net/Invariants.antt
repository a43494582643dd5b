-- None of the nets so far is called so.
use Rattle.std.proofs.Common.{◌≡◌, ◌≤◌, ◌-◌, length}
use Rattle.std.specs.Prelude.{bytes_eq, find}
use Rattle.std.specs.List.{range_with_len}
use Rattle.run_report.specs.Report.{net_text}
use Rattle.why_text.specs.Finding.{net_called}
use Rattle.why_text.proofs.finding.find_net.Given as goal

abbrev pub invariant-loop-net : goal.invariant-loop-net
invariant-loop-net l = (l.net ≤ length l.circuit.nets) × (net_called l.circuit l.name ≡ find (λ n. bytes_eq (net_text l.circuit n) l.name) (range_with_len l.net (length l.circuit.nets - l.net)))
