-- A line of this kind is in front, or none.
use Rattle.std.proofs.Common.{◌≡◌, ◌++◌, ℤ, subst, sym, w8}
use Rattle.std.proofs.lemmas.Int.{to_z-of_z}
use Rattle.sim_save.specs.Steps.{AreCounts, Counts, counts_line}
use Rattle.sim_save.proofs.NumberLaws.{fits_power}
use Rattle.sim_save.proofs.TakeLaws.{head_taken, no_head, no_head_sizes, no_head_tick, no_head_time}
use Rattle.sim_save.proofs.lines.take_head.Goals as goal

pub returns-in_err-at_time : goal.returns-in_err-at_time
returns-in_err-at_time c = rw c.from_residual.ensures (no_head c.args.text.now c.in_err-at_time.ensures)

pub returns-in_err-time : goal.returns-in_err-time
returns-in_err-time c = rw c.from_residual-in_err-time.ensures (no_head_time c.args.text.now c.in_ok-at_time.at_time.now c.in_ok-at_time.ensures c.in_err-time.ensures)

pub returns-in_err-tick : goal.returns-in_err-tick
returns-in_err-tick c = rw c.from_residual-in_err-tick.ensures (no_head_tick c.args.text.now c.in_ok-at_time.at_time.now c.in_ok-time.time c.in_ok-time.at_tick.now c.in_ok-at_time.ensures c.in_ok-time.ensures c.in_err-tick.ensures)

pub returns-in_err-sizes : goal.returns-in_err-sizes
returns-in_err-sizes c = rw c.from_residual-in_err-sizes.ensures (no_head_sizes c.args.text.now c.in_ok-at_time.at_time.now c.in_ok-time.time c.in_ok-time.at_tick.now c.in_ok-tick.tick c.in_ok-tick.at_sizes.now c.in_ok-at_time.ensures c.in_ok-time.ensures c.in_ok-tick.ensures c.in_err-sizes.ensures)

pub returns : goal.returns
returns c =
    let sizes = c.in_ok-sizes.sizes in
    let counts : ℤ → Counts = λ z. record { time = c.in_ok-time.time; tick = z; nets = sizes.nets; elements = sizes.elements; udps = sizes.udps; checks = sizes.checks } in
    let fit = c.in_ok-sizes.ensures.0 in
    subst (λ (z : ℤ). AreCounts (counts z) × (c.args.text.now ≡ counts_line (counts z) ++ c.in_ok-sizes.behind.now)) (sym (to_z-of_z w8 c.in_ok-tick.tick (fits_power c.in_ok-tick.tick c.in_ok-tick.ensures.0)))
    (head_taken (counts c.in_ok-tick.tick) c.args.text.now c.in_ok-at_time.at_time.now c.in_ok-time.at_tick.now c.in_ok-tick.at_sizes.now c.in_ok-sizes.behind.now fit.0 fit.1 fit.2 fit.3 c.in_ok-at_time.ensures c.in_ok-time.ensures c.in_ok-tick.ensures c.in_ok-sizes.ensures.1)
