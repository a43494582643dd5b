use Rattle.std.proofs.Common.{◌≡◌, map, subst, sym}
use Rattle.sg_circuit.specs.TimingsSeen.{timings_of}
use Rattle.annotation_model.specs.Applied.{limited}
use Rattle.annotation_values.proofs.TimingLaws.{timing_limited}
use Rattle.annotation_values.proofs.pulses.with_limit.Goals as goal

pub returns : goal.returns
returns c = λ w e.
    let ds = c.args.timing.now.delays.at in
    let ls = c.args.timing.now.limits.at in
    subst (λ ns. timings_of ds ns ≡ map (limited w) (timings_of ds ls)) (sym c.set_all.ensures) (timing_limited ds ls c.args.limit w e)
