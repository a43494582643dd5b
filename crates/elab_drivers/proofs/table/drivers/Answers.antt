-- The table has the drivers, or one is refused.
use Rattle.std.proofs.Common.{rules, ◌≡◌, ◌<◌, [], map, length, sym, ◌∙◌}
use Rattle.std.specs.Prelude.{All, List}
use Rattle.std.specs.List.{AllByRecursion}
use Rattle.std.proofs.lemmas.List.{length-map}
use Rattle.sg_circuit.specs.declared.elements.Element.{Element}
use Rattle.elab_laws.proofs.Lists.{all-map}
use Rattle.elab_numbering.specs.Driving.{StandsFor, by_stimulus}
use Rattle.elab_drivers.proofs.ByNumber.{by_others}
use Rattle.elab_drivers.proofs.Members.{all-by}
use Rattle.elab_drivers.proofs.Told.{nobody, has-drivers}
use Rattle.elab_drivers.proofs.Refused.{refuses-input, refuses-output, refuses-reg}
use Rattle.elab_drivers.proofs.table.drivers.Goals as goal

outputs-below : (n : _) (es : List Element) → All (λ e. e.output < n) es → AllByRecursion (λ k. k < n) (map (λ e. e.output) es)
outputs-below n es h = all-map (λ k. k < n) (λ e. e.output) es (all-by (λ e. e.output < n) es h)

as-many : (es : List Element) (k : _) → k ≡ length es → k ≡ length (map (λ e. e.output) es)
as-many es k e = e ∙ sym (length-map es (λ e. e.output))

pub returns-in-Err-clause-refused : goal.returns-in-Err-clause-refused
returns-in-Err-clause-refused c =
    let table = nobody c.in_ok-drivers.drivers.items c.args.nets (c.in_ok-drivers.ensures.items_if_clones_equal (λ y e. e)) in
    refuses-input c.args.nets c.args.inputs.now c.args.input_places.now (map (λ e. e.output) c.args.elements.now) c.args.places.now c.args.regs.now
    c.in-Err.second _ c.second_driver.result c.second_driver.ensures c.requires.input_places c.in-Err.ensures.place
    (all-by (λ n. n < c.args.nets) c.args.inputs.now c.requires.inputs) (outputs-below c.args.nets c.args.elements.now c.requires.outputs)
    (c.in-Err.ensures.taken [] table)

pub returns-in-Err-drive_outputs-clause-refused : goal.returns-in-Err-drive_outputs-clause-refused
returns-in-Err-drive_outputs-clause-refused c =
    let table = nobody c.in_ok-drivers.drivers.items c.args.nets (c.in_ok-drivers.ensures.items_if_clones_equal (λ y e. e)) in
    refuses-output c.args.nets c.args.inputs.now c.args.input_places.now (map (λ e. e.output) c.args.elements.now) c.args.places.now c.args.regs.now
    c.in-Err-drive_outputs.second _ c.second_driver-in-Err-drive_outputs.result c.second_driver-in-Err-drive_outputs.ensures
    c.requires.input_places (as-many c.args.elements.now (length c.args.places.now) c.requires.places)
    (few c.in-Err-drive_outputs.second c.args.elements.now c.in-Err-drive_outputs.ensures.place)
    (all-by (λ n. n < c.args.nets) c.args.inputs.now c.requires.inputs) (outputs-below c.args.nets c.args.elements.now c.requires.outputs)
    (c.in-Err-drive_outputs.ensures.second (map by_stimulus c.args.inputs.now) (c.in_default.ensures.noted [] table))
  where
    few : (j : _) (es : List Element) → j < length es → j < length (map (λ e. e.output) es)
    few j es lt = rw length-map lt

pub place_of_driver-requires-clause-driven : goal.place_of_driver-requires-clause-driven
place_of_driver-requires-clause-driven c =
    let table = nobody c.in_ok-drivers.drivers.items c.args.nets (c.in_ok-drivers.ensures.items_if_clones_equal (λ y e. e)) in
    c.in-Err-drive_regs.ensures.taken (by_others c.args.inputs.now (map (λ e. e.output) c.args.elements.now))
    (c.in_default-drive_outputs.ensures.noted (map by_stimulus c.args.inputs.now) (c.in_default.ensures.noted [] table))

pub returns-in-Err-drive_regs-clause-refused : goal.returns-in-Err-drive_regs-clause-refused
returns-in-Err-drive_regs-clause-refused c =
    refuses-reg c.args.nets c.args.inputs.now c.args.input_places.now (map (λ e. e.output) c.args.elements.now) c.args.places.now c.args.regs.now
    c.in-Err-drive_regs.reg c.place_of_driver.result c.place_of_driver.ensures c.in-Err-drive_regs.ensures.among
    (all-by (λ n. n < c.args.nets) c.args.regs.now c.requires.regs)

pub returns-clause-drivers : goal.returns-clause-drivers
returns-clause-drivers c =
    let outputs = map (λ e. e.output) c.args.elements.now in
    let table = nobody c.in_ok-drivers.drivers.items c.args.nets (c.in_ok-drivers.ensures.items_if_clones_equal (λ y e. e)) in
    let before : StandsFor c.drive_outputs.new.drivers.items (by_others c.args.inputs.now outputs) =
    c.in_default-drive_outputs.ensures.noted (map by_stimulus c.args.inputs.now) (c.in_default.ensures.noted [] table) in
    has-drivers c.args.nets c.args.inputs.now c.args.input_places.now outputs c.args.places.now c.args.regs.now c.drive_outputs.new.drivers.items c.drive_regs.new.drivers.items
    c.requires.input_places (as-many c.args.elements.now (length c.args.places.now) c.requires.places)
    (search rules) before (c.in_default-drive_regs.ensures.noted (by_others c.args.inputs.now outputs) before)
