-- The drivers of the nets are those of the netlist.
use Rattle.std.specs.Prelude.{All}
use Rattle.std.proofs.Common.{rules, ◌≡◌, ◌<◌, length, sym, ◌∙◌, ap, subst}
use Rattle.circuit_model.specs.Driving.{driving_faults}
use Rattle.circuit_model.specs.Faults.{driver_faults}
use Rattle.elab_model.specs.Faults.{RefusesOneOf}
use Rattle.elab_model.specs.Nets.{nets}
use Rattle.elab_drivers.specs.Tables.{HasDrivers}
use Rattle.vl_elab.specs.Made.{AreMade, AreDrivers}
use Rattle.vl_elab.proofs.Told.{ok-weaker, err-weaker, lists-driven, nets-count, inputs-placed, elements-placed, inputs-within, regs-within, outputs-within}
use Rattle.vl_elab.proofs.driving.drivers_in.Goals as goal
use Rattle.vl_elab.proofs.driving.drivers_in.Goals.{After-deref-5}

-- the number of all nets
all-count : (c : After-deref-5) → c.len.result ≡ length (nets c.args.definitions.now c.requires.made.0)
all-count c =
    let m = c.requires.made in
    let own : c.len.result ≡ length c.args.rows.now.nets.items = search (rules, c.len.ensures) in
    own ∙ nets-count c.args.definitions.now m.0 m.1.0 c.args.instances.now c.args.library.now c.args.rows.now c.args.made.now m.1.1

pub drivers-requires-clause-input_places : goal.drivers-requires-clause-input_places
drivers-requires-clause-input_places c =
    let m = c.requires.made in
    let i = c.in_ok-inputs.ensures m.0 m.1.0 m.1.1.are_placed m.1.1.is_ready m.1.1.have_rows in
    ap length c.deref-2.ensures.value ∙ inputs-placed c.args.definitions.now m.0 c.in_ok-inputs.inputs i ∙ sym (ap length c.deref.ensures.value)

pub drivers-requires-clause-places : goal.drivers-requires-clause-places
drivers-requires-clause-places c =
    let m = c.requires.made in
    ap length c.deref-4.ensures.value ∙ elements-placed c.args.definitions.now m.0 m.1.0 c.args.instances.now c.args.library.now c.args.rows.now c.args.made.now m.1.1 ∙ sym (ap length c.deref-3.ensures.value)

pub drivers-requires-clause-inputs : goal.drivers-requires-clause-inputs
drivers-requires-clause-inputs c =
    let m = c.requires.made in
    let i = c.in_ok-inputs.ensures m.0 m.1.0 m.1.1.are_placed m.1.1.is_ready m.1.1.have_rows in
    subst (λ xs. All (λ n. n < c.len.result) xs) (sym c.deref.ensures.value)
    (subst (λ k. All (λ n. n < k) c.in_ok-inputs.inputs.nets.items) (sym (all-count c)) (inputs-within c.args.definitions.now m.0 c.in_ok-inputs.inputs i))

pub drivers-requires-clause-outputs : goal.drivers-requires-clause-outputs
drivers-requires-clause-outputs c =
    let m = c.requires.made in
    subst (λ xs. All (λ e. e.output < c.len.result) xs) (sym c.deref-3.ensures.value)
    (subst (λ k. All (λ e. e.output < k) c.args.made.now.elements.items) (sym (all-count c))
    (outputs-within c.args.definitions.now m.0 m.1.0 c.args.instances.now c.args.library.now c.args.rows.now c.args.made.now m.1.1))

pub drivers-requires-clause-regs : goal.drivers-requires-clause-regs
drivers-requires-clause-regs c =
    let m = c.requires.made in
    let r = c.in_ok-regs.ensures m.0 m.1.0 m.1.1.are_placed m.1.1.is_ready m.1.1.have_rows in
    subst (λ xs. All (λ n. n < c.len.result) xs) (sym c.deref-5.ensures.value)
    (subst (λ k. All (λ n. n < k) c.in_ok-regs.regs.items) (sym (all-count c)) (regs-within c.args.definitions.now m.0 c.in_ok-regs.regs.items r))

pub returns-clause-drivers : goal.returns-clause-drivers
returns-clause-drivers c =
    ok-weaker _
    (λ ds. (top : _) (corner : _) → AreMade c.args.definitions.now top corner c.args.instances.now c.args.library.now c.args.rows.now c.args.made.now → AreDrivers c.args.definitions.now top corner ds.items)
    c.drivers.result
    (λ ds tells top corner made.
    lists-driven c.args.definitions.now top corner c.args.instances.now c.args.library.now c.args.rows.now c.args.made.now made c.in_ok-inputs.inputs c.in_ok-regs.regs.items _ _ _ _ _ _
    (λ count d. HasDrivers count d ds.items)
    (c.in_ok-inputs.ensures top corner made.are_placed made.is_ready made.have_rows) (c.in_ok-regs.ensures top corner made.are_placed made.is_ready made.have_rows)
    c.deref.ensures.value c.deref-2.ensures.value c.deref-3.ensures.value c.deref-4.ensures.value c.deref-5.ensures.value (search (rules, c.len.ensures)) tells)
    c.drivers.ensures.drivers

pub returns-clause-refused : goal.returns-clause-refused
returns-clause-refused c =
    err-weaker _
    (λ r. (top : _) (corner : _) → AreMade c.args.definitions.now top corner c.args.instances.now c.args.library.now c.args.rows.now c.args.made.now
    → RefusesOneOf (driver_faults c.args.definitions.now top corner) r)
    c.drivers.result
    (λ r stands top corner made.
    lists-driven c.args.definitions.now top corner c.args.instances.now c.args.library.now c.args.rows.now c.args.made.now made c.in_ok-inputs.inputs c.in_ok-regs.regs.items _ _ _ _ _ _
    (λ count d. RefusesOneOf (driving_faults d count) r)
    (c.in_ok-inputs.ensures top corner made.are_placed made.is_ready made.have_rows) (c.in_ok-regs.ensures top corner made.are_placed made.is_ready made.have_rows)
    c.deref.ensures.value c.deref-2.ensures.value c.deref-3.ensures.value c.deref-4.ensures.value c.deref-5.ensures.value (search (rules, c.len.ensures)) stands)
    c.drivers.ensures.refused
