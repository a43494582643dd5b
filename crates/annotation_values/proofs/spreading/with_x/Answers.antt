use Rattle.std.specs.Prelude.{None}
use Rattle.std.proofs.Common.{rules, ◌≤◌, length}
use Rattle.sg_circuit.specs.Timings.{Timing}
use Rattle.sg_circuit.specs.TimingsSeen.{timings_of}
use Rattle.annotation_values.proofs.XLaws.{x_anew, length_at_least}
use Rattle.annotation_values.proofs.spreading.with_x.Goals as goal

pub returns : goal.returns
returns c =
    let ds = c.args.delays.now in
    let ls = c.args.limits.now in
    let t : Timing = record { delay = 0; limits = None } in
    let in_ds : 6 ≤ length ds = search rules in
    let in_ls : 6 ≤ length ls = search rules in
    x_anew (timings_of ds ls) t _ _ _ _ _ _ _ _ _ _ _ _ (length_at_least 6 ds ls in_ds in_ls)
    (c.transition_at-t01.ensures t)
    (c.transition_at-t10.ensures t)
    (c.transition_at-t0z.ensures t)
    (c.transition_at-tz1.ensures t)
    (c.transition_at-t1z.ensures t)
    (c.transition_at-tz0.ensures t)
    c.lesser-t0x.ensures c.greater-tx1.ensures c.lesser-t1x.ensures c.greater-tx0.ensures c.greater-txz.ensures c.lesser-tzx.ensures
