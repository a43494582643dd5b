-- A store that counts a node has one.
use Rattle.std.proofs.Common.{ℕ, IsSome, subst}
use Rattle.std.specs.Bool.{OnFalse}
use Rattle.event_wheel.specs.Slots.{Held, node_at}
use Rattle.event_wheel.proofs.CountLaws.{has_slot}
use Rattle.event_wheel.proofs.nodes.Nodes.is_empty.Goals as goal

pub returns-clause-no : goal.returns-clause-no
returns-clause-no c =
    subst (λ (held : Held). OnFalse c.is_empty.result ((key : ℕ) × IsSome (node_at held key))) c.self.view_is (has_slot c.self.inside.slab.slots c.is_empty.result c.is_empty.ensures)
