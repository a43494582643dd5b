-- A leg's timing is set, or a path's.
use Rattle.std.proofs.Common.{◌∙◌, ◌≡◌, ◌-◌, ap, false, true, rules}
use Rattle.sg_circuit.specs.Circuit.{Circuit}
use Rattle.sg_circuit.specs.TimingsSeen.{leg_timing_seen}
use Rattle.annotation_setting.specs.Timings.{is_leg}
use Rattle.annotation_setting.proofs.SpotLaws.{leg-set, path-set}
use Rattle.annotation_setting.proofs.timings.set_spot.Goals as goal

pub returns-then-is_leg : goal.returns-then-is_leg
returns-then-is_leg c =
    let leg : is_leg c.index.result.now.kind ≡ true = search rules in
    c.set_leg.ensures
    ∙ ap (λ (k : Circuit). record { circuit = k; room = c.args.opened.now.room - 1 }) (leg-set c.parts.result.now c.args.opened.now.circuit c.args.spot c.index.result.now (leg_timing_seen c.args.timing) c.parts.ensures.seen c.requires.row c.index.ensures leg)

pub returns-else-is_leg : goal.returns-else-is_leg
returns-else-is_leg c =
    let leg : is_leg c.index.result.now.kind ≡ false = search rules in
    c.set_path.ensures
    ∙ ap (λ (k : Circuit). record { circuit = k; room = c.args.opened.now.room - 1 }) (path-set c.parts.result.now c.args.opened.now.circuit c.args.spot c.index.result.now (leg_timing_seen c.args.timing) c.parts.ensures.seen c.requires.row c.index.ensures leg)
