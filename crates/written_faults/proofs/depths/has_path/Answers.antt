use Rattle.sg_circuit.specs.PathsSeen.{spanned}
use Rattle.written_faults.proofs.DepthLaws.{paths_are}
use Rattle.written_faults.proofs.depths.has_path.Goals as goal

pub returns : goal.returns
returns c =
    paths_are c.args.parts.now.conditions.items c.args.deep.now c.requires.deep c.args.parts.now.leg_timings.items (spanned c.args.parts.now.paths.items c.args.span) c.paths_in.result.now c.has_each_path.result c.paths_in.ensures c.requires.indexed.each c.has_each_path.ensures
