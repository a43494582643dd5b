use Rattle.std.proofs.Common.{◌≡◌, ◌<◌, ◌≤◌, ◌+◌, ℕ, List, ◌∙◌, length, sym, subst}
use Rattle.sg_logic.specs.declared.values.Value.{Value}
use Rattle.sg_model.specs.Agenda.{list_at, with_list, NoneBelow}
use Rattle.sg_model.specs.Pending.{last_value}
use Rattle.sg_model.specs.Round.{placed_by}
use Rattle.sg_circuit.specs.Seen.{kind_seen}
use Rattle.sim_machine.specs.AtOnce.{IsAtOnce}
use Rattle.sim_machine.specs.Simulated.{rule_of_kind}
use Rattle.sim_machine.proofs.AtOnceLaws.{of_true, placed_at_once}
use Rattle.sim_machine.proofs.placing.place_by_kind.Goals as goal

pub returns-then-place_at_once-clause-lists : goal.returns-then-place_at_once-clause-lists
returns-then-place_at_once-clause-lists g c =
    let k = kind_seen c.args.parts.now c.args.item.now.kind in
    let known = c.if-place_at_once.ensures in
    known.placed.1
    ∙ placed_at_once k c.args.now (g.N.Nets.values c.args.nets.now) (g.N.Stamps.stamps c.args.nets.now) (list_at c.args.agenda.now.0 c.args.element) c.args.present c.args.value c.args.agenda.now.0 c.args.element (of_true c.args.at_once (IsAtOnce k) known.at_once c.requires.at_once) known.placed.0

pub place_value-requires-clause-element : goal.place_value-requires-clause-element
place_value-requires-clause-element g c = subst (λ (a : List (List (ℕ × Value)) × ℕ). c.args.element < length a.0) (sym c.if-place_at_once.ensures.stays) c.requires.element

pub place_value-requires-clause-room : goal.place_value-requires-clause-room
place_value-requires-clause-room g c = subst (λ (a : List (List (ℕ × Value)) × ℕ). 2 ≤ a.1) (sym c.if-place_at_once.ensures.stays) c.requires.room

pub place_value-requires-clause-from_now : goal.place_value-requires-clause-from_now
place_value-requires-clause-from_now g c = subst (λ (a : List (List (ℕ × Value)) × ℕ). NoneBelow c.args.now (list_at a.0 c.args.element)) (sym c.if-place_at_once.ensures.stays) c.requires.from_now

pub returns-clause-lists : goal.returns-clause-lists
returns-clause-lists g c =
    let k = kind_seen c.args.parts.now c.args.item.now.kind in
    subst (λ (a : List (List (ℕ × Value)) × ℕ). c.place_value.new.agenda.0 ≡ with_list a.0 c.args.element (placed_by (rule_of_kind k c.args.now (g.N.Nets.values c.args.nets.now) (g.N.Stamps.stamps c.args.nets.now) (last_value (list_at a.0 c.args.element) c.args.present) c.args.value) (list_at a.0 c.args.element) c.args.present c.args.now c.args.value))
    c.if-place_at_once.ensures.stays c.place_value.ensures.lists

pub returns-clause-spare : goal.returns-clause-spare
returns-clause-spare g c = subst (λ (a : List (List (ℕ × Value)) × ℕ). a.1 ≤ c.place_value.new.agenda.1 + 2) c.if-place_at_once.ensures.stays c.place_value.ensures.spare
