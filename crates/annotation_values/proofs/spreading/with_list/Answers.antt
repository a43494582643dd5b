use Rattle.std.proofs.Common.{sym, ◌∙◌}
use Rattle.sg_circuit.specs.TimingsSeen.{leg_timing_seen}
use Rattle.annotation_values.specs.Changes.{change_seen}
use Rattle.annotation_values.specs.Seen.{grid_seen}
use Rattle.annotation_values.proofs.SpreadLaws.{six_whole}
use Rattle.annotation_values.proofs.spreading.with_list.Goals as goal

pub returns-in-Some : goal.returns-in-Some
returns-in-Some c =
    six_whole c.args.increment (change_seen (grid_seen c.args.grid)) c.args.values.now c.in-Some.six (leg_timing_seen c.args.timing.now)
    c.with_six.result (sym c.six_of.ensures ∙ c.in-Some.is) c.with_six.ensures
