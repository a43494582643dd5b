use Rattle.sg_circuit.specs.FanOut.{readers_at}
use Rattle.sg_circuit.specs.Seen.{circuit_seen}
use Rattle.written_faults.proofs.ScopeLaws.{checks_there}
use Rattle.written_faults.proofs.WeightLaws.{heavy_found, heavy_there}
use Rattle.written_faults.proofs.weights.has_heavy.Goals as goal

pub has_heavy_check-requires-clause-checks : goal.has_heavy_check-requires-clause-checks
has_heavy_check-requires-clause-checks c = checks_there c.args.parts.now c.args.groups.now c.requires.groups c.args.scope c.requires.scope c.of.result.now c.of.ensures

pub returns : goal.returns
returns c =
    heavy_there (circuit_seen c.args.parts.now) c.args.signals c.of.result.now (readers_at c.args.groups.now.checks c.args.scope) c.has_heavy_check.result _
    (heavy_found c.args.parts.now c.args.groups.now c.args.scope c.requires.closed c.requires.groups c.requires.scope c.args.signals c.requires.signals) c.of.ensures c.has_heavy_check.ensures
