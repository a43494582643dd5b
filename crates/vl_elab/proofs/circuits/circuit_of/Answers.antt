-- Each step refuses a fault below the top, and what they make is the circuit.
use Rattle.std.proofs.Common.{refl, sym, subst}
use Rattle.std.proofs.lemmas.Result.{err_from_is_err_and}
use Rattle.late_limits.specs.Adjusted.{IsAdjustedFrom}
use Rattle.vl_elab.specs.Made.{AreDrivers}
use Rattle.vl_elab.proofs.Below.{leaves, reached-refused, nets-refused, checks-refused, drivers-refused}
use Rattle.vl_elab.proofs.Steps.{elements-grow, made-of, nets-of, whole-of}
use Rattle.vl_elab.proofs.circuits.circuit_of.Goals as goal

pub library_of-requires : goal.library_of-requires
library_of-requires c = let b = c.requires.below.1 in record { below = (c.requires.below.0, b.are_placed, b.tick_is, b.shallow) }

pub returns-in_err-library-clause-refused : goal.returns-in_err-library-clause-refused
returns-in_err-library-clause-refused c =
    leaves _ c.from_residual.result c.in_err-library.field-0.0 (err_from_is_err_and c.from_residual.result c.from_residual.ensures.1)
    (λ m b. reached-refused c.args.definitions.now m c.args.corner c.in_err-library.field-0.0 (c.in_err-library.ensures.refused m b.are_placed b.tick_is))

pub rows_of-requires : goal.rows_of-requires
rows_of-requires c = record { instances = c.requires.below.1.few }

pub returns-in_err-rows-clause-refused : goal.returns-in_err-rows-clause-refused
returns-in_err-rows-clause-refused c =
    leaves _ c.from_residual-in_err-rows.result c.in_err-rows.field-0.0 (err_from_is_err_and c.from_residual-in_err-rows.result c.from_residual-in_err-rows.ensures.1)
    (λ m b.
    let ready = c.in_ok-library.ensures.library m b.are_placed b.tick_is in
    nets-refused c.args.definitions.now m c.args.corner c.in_err-rows.field-0.0 (c.in_err-rows.ensures.refused m c.args.corner b.are_placed ready b.shallow))

pub elements_below-requires : goal.elements_below-requires
elements_below-requires c =
    let m = c.requires.below.0 in
    let b = c.requires.below.1 in
    let d = c.args.definitions.now in
    let ready = c.in_ok-library.ensures.library m b.are_placed b.tick_is in
    let rows = c.in_ok-rows.ensures.rows m c.args.corner b.are_placed ready b.shallow in
    let h = nets-of d m c.args.corner c.args.tick c.args.instances.now _ _ b ready rows in
    record { nets = (m, h) }

pub returns-in_err-made-clause-refused : goal.returns-in_err-made-clause-refused
returns-in_err-made-clause-refused c =
    leaves _ c.from_residual-in_err-made.result c.in_err-made.field-0.0 (err_from_is_err_and c.from_residual-in_err-made.result c.from_residual-in_err-made.ensures.1)
    (λ m b.
    let d = c.args.definitions.now in
    let ready = c.in_ok-library.ensures.library m b.are_placed b.tick_is in
    let rows = c.in_ok-rows.ensures.rows m c.args.corner b.are_placed ready b.shallow in
    let h = nets-of d m c.args.corner c.args.tick c.args.instances.now _ _ b ready rows in
    c.in_err-made.ensures.refused m h)

pub checks_below-requires-clause-nets : goal.checks_below-requires-clause-nets
checks_below-requires-clause-nets c =
    let m = c.requires.below.0 in
    let b = c.requires.below.1 in
    let d = c.args.definitions.now in
    let ready = c.in_ok-library.ensures.library m b.are_placed b.tick_is in
    let rows = c.in_ok-rows.ensures.rows m c.args.corner b.are_placed ready b.shallow in
    let h = nets-of d m c.args.corner c.args.tick c.args.instances.now _ _ b ready rows in
    (m, h, (c.in_ok-made.ensures.elements m h).lates)

pub checks_below-requires-clause-spelled : goal.checks_below-requires-clause-spelled
checks_below-requires-clause-spelled c = c.in_ok-made.ensures.spelled

pub returns-in_err-checks-clause-refused : goal.returns-in_err-checks-clause-refused
returns-in_err-checks-clause-refused c =
    leaves _ c.from_residual-in_err-checks.result c.in_err-checks.field-0.0 (err_from_is_err_and c.from_residual-in_err-checks.result c.from_residual-in_err-checks.ensures.1)
    (λ m b.
    let d = c.args.definitions.now in
    let ready = c.in_ok-library.ensures.library m b.are_placed b.tick_is in
    let rows = c.in_ok-rows.ensures.rows m c.args.corner b.are_placed ready b.shallow in
    let h = nets-of d m c.args.corner c.args.tick c.args.instances.now _ _ b ready rows in
    checks-refused d m c.args.corner c.in_err-checks.field-0.0 (c.in_err-checks.ensures.refused m h (c.in_ok-made.ensures.elements m h).lates))

pub drivers_in-requires : goal.drivers_in-requires
drivers_in-requires c =
    let m = c.requires.below.0 in
    let b = c.requires.below.1 in
    let d = c.args.definitions.now in
    let ready = c.in_ok-library.ensures.library m b.are_placed b.tick_is in
    let rows = c.in_ok-rows.ensures.rows m c.args.corner b.are_placed ready b.shallow in
    let h = nets-of d m c.args.corner c.args.tick c.args.instances.now _ _ b ready rows in
    let made = made-of d m c.args.corner c.args.tick c.args.instances.now _ _ h c.in_ok-made.made (c.in_ok-made.ensures.elements m h) in
    record { made = (m, (c.args.corner, made)) }

pub returns-in_err-drivers-clause-refused : goal.returns-in_err-drivers-clause-refused
returns-in_err-drivers-clause-refused c =
    leaves _ c.from_residual-in_err-drivers.result c.in_err-drivers.field-0.0 (err_from_is_err_and c.from_residual-in_err-drivers.result c.from_residual-in_err-drivers.ensures.1)
    (λ m b.
    let d = c.args.definitions.now in
    let ready = c.in_ok-library.ensures.library m b.are_placed b.tick_is in
    let rows = c.in_ok-rows.ensures.rows m c.args.corner b.are_placed ready b.shallow in
    let h = nets-of d m c.args.corner c.args.tick c.args.instances.now _ _ b ready rows in
    let made = made-of d m c.args.corner c.args.tick c.args.instances.now _ _ h c.in_ok-made.made (c.in_ok-made.ensures.elements m h) in
    drivers-refused d m c.args.corner c.in_err-drivers.field-0.0 (c.in_err-drivers.ensures.refused m c.args.corner made))

pub close-circuit-requires : goal.close-circuit-requires
close-circuit-requires c =
    let m = c.requires.below.0 in
    let b = c.requires.below.1 in
    let d = c.args.definitions.now in
    let ready = c.in_ok-library.ensures.library m b.are_placed b.tick_is in
    let rows = c.in_ok-rows.ensures.rows m c.args.corner b.are_placed ready b.shallow in
    let h = nets-of d m c.args.corner c.args.tick c.args.instances.now _ _ b ready rows in
    let made = made-of d m c.args.corner c.args.tick c.args.instances.now _ _ h c.in_ok-made.made (c.in_ok-made.ensures.elements m h) in
    let drivers = subst (AreDrivers d m c.args.corner) (sym c.deref.ensures.value) (c.in_ok-drivers.ensures.drivers m c.args.corner made) in
    let scopes = c.in_ok-scopes.ensures m c.args.corner b.are_placed ready rows b.shallow in
    let lates = (c.in_ok-made.ensures.elements m h).lates in
    let grown = elements-grow d m c.args.corner c.in_ok-library.library c.in_ok-made.made _ refl refl refl refl c.in_ok-checks.ensures.kept (c.in_ok-made.ensures.elements m h) in
    let all = whole-of d m c.args.corner c.args.tick c.args.instances.now _ _ _ _ _ _ h grown (c.in_ok-checks.ensures.faultless m h lates)
    (c.in_ok-checks.ensures.uses m h lates) c.in_ok-checks.ensures.few drivers scopes in
    (d, (m, (c.args.corner, all)))

pub returns-clause-circuit : goal.returns-clause-circuit
returns-clause-circuit c m b =
    let d = c.args.definitions.now in
    let ready = c.in_ok-library.ensures.library m b.are_placed b.tick_is in
    let rows = c.in_ok-rows.ensures.rows m c.args.corner b.are_placed ready b.shallow in
    let h = nets-of d m c.args.corner c.args.tick c.args.instances.now _ _ b ready rows in
    let made = made-of d m c.args.corner c.args.tick c.args.instances.now _ _ h c.in_ok-made.made (c.in_ok-made.ensures.elements m h) in
    let drivers = subst (AreDrivers d m c.args.corner) (sym c.deref.ensures.value) (c.in_ok-drivers.ensures.drivers m c.args.corner made) in
    let scopes = c.in_ok-scopes.ensures m c.args.corner b.are_placed ready rows b.shallow in
    let lates = (c.in_ok-made.ensures.elements m h).lates in
    let grown = elements-grow d m c.args.corner c.in_ok-library.library c.in_ok-made.made _ refl refl refl refl c.in_ok-checks.ensures.kept (c.in_ok-made.ensures.elements m h) in
    let all = whole-of d m c.args.corner c.args.tick c.args.instances.now _ _ _ _ _ _ h grown (c.in_ok-checks.ensures.faultless m h lates)
    (c.in_ok-checks.ensures.uses m h lates) c.in_ok-checks.ensures.few drivers scopes in
    record { faultless = all.faultless; tables = ready.tables; is_circuit = subst (λ k. IsAdjustedFrom k c.in_ok-adjusted.field-0) (c.close-circuit.ensures d m c.args.corner all) c.in_ok-adjusted.ensures }
