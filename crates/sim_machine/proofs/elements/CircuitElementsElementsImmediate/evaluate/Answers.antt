use Rattle.std.proofs.Common.{◌<◌, ◌∙◌, ap, get_or, sym, subst, length, map}
use Rattle.std.proofs.lemmas.List.{length-map}
use Rattle.sg_logic.specs.declared.values.Value.TheVariants.{Zero}
use Rattle.sg_model.specs.Agenda.{list_at, with_list}
use Rattle.fan_round.specs.Nets.{stamp_seen}
use Rattle.sim_machine.specs.Elements.{ElementsSeen}
use Rattle.sim_machine.proofs.CellLaws.{placed_so, read_cell}
use Rattle.sim_machine.proofs.ElementLaws.{known_element, inputs_in, output_in, room_in, takes_in, delays_in, paths_in, list_in}
use Rattle.sim_machine.proofs.elements.CircuitElementsElementsImmediate.evaluate.Goals as goal

pub compute_by_cell-value-requires-clause-before : goal.compute_by_cell-value-requires-clause-before
compute_by_cell-value-requires-clause-before g c = inputs_in c.args.self.now c.self.inside.parts.now c.self.inside.earlier.now c.self.inside.tables.items c.self.inside.states.items c.self.inside.inputs c.args.element c.index-item.result.now c.args.before.now c.self.view_is c.self.invariant.0 c.requires.known c.index-item.ensures c.requires.before

pub compute_by_cell-value-requires-clause-after : goal.compute_by_cell-value-requires-clause-after
compute_by_cell-value-requires-clause-after g c = inputs_in c.args.self.now c.self.inside.parts.now c.self.inside.earlier.now c.self.inside.tables.items c.self.inside.states.items c.self.inside.inputs c.args.element c.index-item.result.now c.args.values.now c.self.view_is c.self.invariant.0 c.requires.known c.index-item.ensures c.requires.values

pub compute_by_cell-value-requires-clause-room : goal.compute_by_cell-value-requires-clause-room
compute_by_cell-value-requires-clause-room g c = room_in c.args.self.now c.self.inside.parts.now c.self.inside.earlier.now c.self.inside.tables.items c.self.inside.states.items c.self.inside.inputs c.args.element c.index-item.result.now c.self.view_is c.self.invariant.0 c.requires.known c.index-item.ensures

pub compute_by_cell-value-requires-clause-takes : goal.compute_by_cell-value-requires-clause-takes
compute_by_cell-value-requires-clause-takes g c = takes_in c.args.self.now c.self.inside.parts.now c.self.inside.earlier.now c.self.inside.tables.items c.self.inside.states.items c.self.inside.inputs c.args.element c.index-item.result.now c.self.view_is c.self.invariant.0 c.requires.known c.index-item.ensures

pub place_by_kind-requires-clause-delays : goal.place_by_kind-requires-clause-delays
place_by_kind-requires-clause-delays g c = delays_in c.args.self.now c.self.inside.parts.now c.self.inside.earlier.now c.self.inside.tables.items c.self.inside.states.items c.self.inside.inputs c.args.element c.index-item.result.now c.self.view_is c.self.invariant.0 c.requires.known c.index-item.ensures

pub place_by_kind-requires-clause-paths : goal.place_by_kind-requires-clause-paths
place_by_kind-requires-clause-paths g c = paths_in c.args.self.now c.self.inside.parts.now c.self.inside.earlier.now c.self.inside.tables.items c.self.inside.states.items c.self.inside.inputs c.args.element c.index-item.result.now c.args.values.now c.self.view_is c.self.invariant.0 c.requires.known c.index-item.ensures c.requires.values

pub place_by_kind-requires-clause-stamps : goal.place_by_kind-requires-clause-stamps
place_by_kind-requires-clause-stamps g c = length-map c.args.stamps.now stamp_seen ∙ (c.requires.stamps ∙ sym c.requires.values)

pub place_by_kind-requires-clause-marks : goal.place_by_kind-requires-clause-marks
place_by_kind-requires-clause-marks g c =
    c.self.invariant.1 ∙ (ap (λ (s : ElementsSeen). length s.circuit.nets) c.self.view_is ∙ (sym c.requires.stamps ∙ sym (length-map c.args.stamps.now stamp_seen)))

pub compute_by_cell-value-requires-clause-brief : goal.compute_by_cell-value-requires-clause-brief
compute_by_cell-value-requires-clause-brief g c =
    (read_cell c.self.inside.parts.now c.self.inside.parts.now.elements.items c.self.inside.cells.items c.args.element c.index-item.result.now _ c.index-cell.result.now _ c.self.invariant.2
    (known_element c.args.self.now.circuit c.self.inside.parts.now c.args.element (ap (λ (s : ElementsSeen). s.circuit) c.self.view_is) c.requires.known) c.index-item.ensures c.index-cell.ensures).brief

pub bounds-values-cell : goal.bounds-values-cell
bounds-values-cell g c =
    subst (λ n. n < length c.args.values.now)
    (sym (read_cell c.self.inside.parts.now c.self.inside.parts.now.elements.items c.self.inside.cells.items c.args.element c.index-item.result.now _ c.index-cell.result.now _ c.self.invariant.2
    (known_element c.args.self.now.circuit c.self.inside.parts.now c.args.element (ap (λ (s : ElementsSeen). s.circuit) c.self.view_is) c.requires.known) c.index-item.ensures c.index-cell.ensures).output)
    (output_in c.args.self.now c.self.inside.parts.now c.self.inside.earlier.now c.self.inside.tables.items c.self.inside.states.items c.self.inside.inputs c.args.element c.index-item.result.now c.args.values.now c.self.view_is c.self.invariant.0 c.requires.known c.index-item.ensures c.requires.values)

pub place_by_kind-requires-clause-at_once : goal.place_by_kind-requires-clause-at_once
place_by_kind-requires-clause-at_once g c =
    placed_so c.self.inside.parts.now c.index-item.result.now c.index-cell.result.now
    (read_cell c.self.inside.parts.now c.self.inside.parts.now.elements.items c.self.inside.cells.items c.args.element c.index-item.result.now _ c.index-cell.result.now _ c.self.invariant.2
    (known_element c.args.self.now.circuit c.self.inside.parts.now c.args.element (ap (λ (s : ElementsSeen). s.circuit) c.self.view_is) c.requires.known) c.index-item.ensures c.index-cell.ensures)

pub returns-clause-lists : goal.returns-clause-lists
returns-clause-lists g c =
    c.place_by_kind.ensures.lists
    ∙ ap (λ list. with_list c.args.agenda.now.0 c.args.element list)
    (list_in c.args.self.now c.self.inside.parts.now c.self.inside.earlier.now c.self.inside.tables.items c.self.inside.states.items c.self.inside.inputs c.args.element c.index-item.result.now c.args.now c.args.before.now c.args.values.now (map stamp_seen c.args.stamps.now) (list_at c.args.agenda.now.0 c.args.element) c.index-state.result.now c.compute_by_cell-value.result _ Zero
    c.self.view_is c.self.invariant.0 c.requires.known c.index-item.ensures c.requires.values c.index-state.ensures c.compute_by_cell-value.ensures.value
    (ap (λ n. get_or c.args.values.now n Zero)
    (read_cell c.self.inside.parts.now c.self.inside.parts.now.elements.items c.self.inside.cells.items c.args.element c.index-item.result.now _ c.index-cell.result.now _ c.self.invariant.2
    (known_element c.args.self.now.circuit c.self.inside.parts.now c.args.element (ap (λ (s : ElementsSeen). s.circuit) c.self.view_is) c.requires.known) c.index-item.ensures c.index-cell.ensures).output))
