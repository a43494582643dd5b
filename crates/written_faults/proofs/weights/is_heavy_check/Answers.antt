use Rattle.sg_circuit.specs.Seen.{circuit_seen}
use Rattle.written_faults.proofs.WeightLaws.{first_heavy, none_heavy, second_heavy}
use Rattle.written_faults.proofs.weights.is_heavy_check.Goals as goal

pub returns-then-is_heavy_part : goal.returns-then-is_heavy_part
returns-then-is_heavy_part c =
    first_heavy (circuit_seen c.args.parts.now) c.requires.closed c.args.signals c.args.windows.now c.args.check c.index.result.now c.requires.check c.index.ensures c.parts_of-first.result c.parts_of-first.ensures c.is_heavy_part.result c.is_heavy_part.ensures c.if-is_heavy_part.true

pub returns-in-Some : goal.returns-in-Some
returns-in-Some c =
    second_heavy (circuit_seen c.args.parts.now) c.requires.closed c.args.signals c.args.windows.now c.args.check c.index.result.now c.requires.check c.index.ensures c.parts_of-first.result c.parts_of-first.ensures c.is_heavy_part.result c.is_heavy_part.ensures
    c.in-Some.part c.is_heavy_part-in-Some.result c.if-is_heavy_part.false c.in-Some.is c.is_heavy_part-in-Some.ensures

pub returns-in-None : goal.returns-in-None
returns-in-None c =
    none_heavy (circuit_seen c.args.parts.now) c.requires.closed c.args.signals c.args.windows.now c.args.check c.index.result.now c.requires.check c.index.ensures c.parts_of-first.result c.parts_of-first.ensures c.is_heavy_part.result c.is_heavy_part.ensures
    c.if-is_heavy_part.false c.in-None.is
