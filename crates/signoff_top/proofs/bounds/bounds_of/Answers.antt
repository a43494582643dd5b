use Rattle.std.proofs.Common.{refl, true, false}
use Rattle.signoff_top.proofs.Found.{bounds_found, cycle_found}
use Rattle.signoff_top.proofs.bounds.bounds_of.Goals as goal

pub returns-in_ok-text-in-Bounds : goal.returns-in_ok-text-in-Bounds
returns-in_ok-text-in-Bounds c =
    bounds_found c.args.circuit.now (record { cyclic = false; text = c.in_ok-text-in-Bounds.text }) c.in_ok-bounds.field-0 c.in-Bounds.bounds c.deref.result.now c.in_ok-bounds.ensures.found c.in-Bounds.is c.deref.ensures.value
    c.in_ok-text-in-Bounds.ensures refl

pub returns-in_ok-text-in-Cycle : goal.returns-in_ok-text-in-Cycle
returns-in_ok-text-in-Cycle c =
    cycle_found c.args.circuit.now (record { cyclic = true; text = c.in_ok-text-in-Cycle.text }) c.in_ok-bounds.field-0 c.in-Cycle.hops c.deref-in-Cycle.result.now c.in_ok-bounds.ensures.found c.in-Cycle.is c.deref-in-Cycle.ensures.value
    c.in_ok-text-in-Cycle.ensures refl
