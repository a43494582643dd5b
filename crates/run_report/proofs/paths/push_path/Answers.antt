use Rattle.std.proofs.Common.{arith}
use Rattle.run_report.proofs.PathLaws.{path_made}
use Rattle.run_report.proofs.paths.push_path.Goals as goal

pub returns : goal.returns
returns c =
    path_made c.args.circuit.now c.args.scope c.loop-outer.text.items c.extend_from_slice-2.new.self.items c.args.text.now.items c.loop-outer.above.items c.name_of-2.result.now c.extend_from_slice-2.result
    c.in_ok-above.ensures.closed (omega (arith, c.in_default.ensures.cases, c.loop-outer.above.ok)) c.name_of-2.ensures c.loop-outer.invariant c.extend_from_slice-2.ensures.items
