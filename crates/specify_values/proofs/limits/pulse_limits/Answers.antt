-- One more is in the table, or refused.
use Rattle.std.specs.Prelude.{None, flat_map, map, refl}
use Rattle.std.proofs.Common.{rules}
use Rattle.std.proofs.lemmas.Result.{err_from_is_err_and}
use Rattle.specify_model.specs.Faults.{pulse_faults}
use Rattle.specify_values.specs.Seen.{measured, view_pulse}
use Rattle.specify_values.proofs.InTurn.{exit, this-refused, next-faultless, none-left}
use Rattle.specify_values.proofs.Latest.{next-pulse, all-pulses, no-pulses}
use Rattle.specify_values.proofs.limits.pulse_limits.Goals as goal

pub returns-in_err-add_pulse-clause-told : goal.returns-in_err-add_pulse-clause-told
returns-in_err-add_pulse-clause-told c =
    exit c.from_residual-in_err-add_pulse.result (flat_map (pulse_faults (measured c.args.by) c.args.table.now) (map view_pulse c.args.list.now)) c.in_err-add_pulse.field-0.0
    (err_from_is_err_and c.from_residual-in_err-add_pulse.result c.from_residual-in_err-add_pulse.ensures.1)
    (this-refused view_pulse (pulse_faults (measured c.args.by) c.args.table.now) c.args.list.now c.loop-pulse.pulse-index c.pulse-item.result c.in_err-add_pulse.field-0.0 c.loop-pulse-test.true
    c.pulse-item.is c.loop-pulse.invariant.1 (c.in_err-add_pulse.ensures.told c.args.table.now c.in_ok-names.ensures))

pub loop-pulse-preserved : goal.loop-pulse-preserved
loop-pulse-preserved c = (
  next-pulse (measured c.args.by) c.args.table.now c.args.list.now c.loop-pulse.pulse-index c.pulse-item.result c.loop-pulse.limits c.add_pulse.new.limits c.loop-pulse-test.true c.pulse-item.is
      c.loop-pulse.invariant.0 (c.in_ok-add_pulse.ensures.limits c.args.table.now c.in_ok-names.ensures),
  next-faultless view_pulse (pulse_faults (measured c.args.by) c.args.table.now) c.args.list.now c.loop-pulse.pulse-index c.pulse-item.result c.loop-pulse-test.true c.pulse-item.is
      (c.in_ok-add_pulse.ensures.told c.args.table.now c.in_ok-names.ensures) c.loop-pulse.invariant.1,
)

pub returns-clause-limits : goal.returns-clause-limits
returns-clause-limits c = all-pulses (measured c.args.by) c.args.table.now c.args.list.now c.loop-pulse.pulse-index c.loop-pulse.limits c.loop-pulse-test.false c.loop-pulse.invariant.0

pub returns-clause-told : goal.returns-clause-told
returns-clause-told c = none-left view_pulse (pulse_faults (measured c.args.by) c.args.table.now) c.args.list.now c.loop-pulse.pulse-index c.loop-pulse-test.false c.loop-pulse.invariant.1

pub returns-then-is_empty-clause-limits : goal.returns-then-is_empty-clause-limits
returns-then-is_empty-clause-limits c =
    all-pulses (measured c.args.by) c.args.table.now c.args.list.now 0 (record { named = c.new.result; others = None }) (no-pulses c.args.list.now c.is_empty.result c.is_empty.ensures c.if-is_empty.true) (search rules)

pub returns-then-is_empty-clause-told : goal.returns-then-is_empty-clause-told
returns-then-is_empty-clause-told c =
    none-left view_pulse (pulse_faults (measured c.args.by) c.args.table.now) c.args.list.now 0 (no-pulses c.args.list.now c.is_empty.result c.is_empty.ensures c.if-is_empty.true) refl
