use Rattle.vcd_stim.proofs.BackLaws.{reads_back}
use Rattle.vcd_stim.proofs.again.read_vcd.Goals as goal

pub returns-clause-back : goal.returns-clause-back
returns-clause-back c = reads_back c.args.bytes.now c.args.circuit.now c.args.scope.now c.read_dump.result c.read_dump.ensures.read c.read_dump.ensures.refused
