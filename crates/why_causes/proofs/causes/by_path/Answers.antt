use Rattle.std.proofs.Common.{subst, length}
use Rattle.sg_circuit.specs.Closed.{HasDelays, NamesNets}
use Rattle.sg_circuit.specs.PathsSeen.{spanned}
use Rattle.sg_circuit.specs.Seen.{kind_seen}
use Rattle.why_causes.proofs.FittingLaws.{path-inputs, path-timings}
use Rattle.why_causes.proofs.causes.by_path.Goals as goal

pub picked_path-candidate-requires-clause-inputs : goal.picked_path-candidate-requires-clause-inputs
picked_path-candidate-requires-clause-inputs c =
    path-inputs (length c.args.trace.now.first) c.args.parts.now.conditions.items c.args.parts.now.leg_timings.items c.paths_in-paths.result.now (spanned c.args.parts.now.paths.items c.in-Path.paths) c.paths_in-paths.ensures
    (subst (λ k. NamesNets (length c.args.trace.now.first) (kind_seen c.args.parts.now k)) c.in-Path.is c.requires.names)

pub picked_path-candidate-requires-clause-twelve : goal.picked_path-candidate-requires-clause-twelve
picked_path-candidate-requires-clause-twelve c =
    path-timings c.args.parts.now.conditions.items c.deref.result.now c.args.parts.now.leg_timings.items c.paths_in-paths.result.now (spanned c.args.parts.now.paths.items c.in-Path.paths) c.paths_in-paths.ensures c.deref.ensures.value
    (subst (λ k. HasDelays (kind_seen c.args.parts.now k)) c.in-Path.is c.requires.delays)
