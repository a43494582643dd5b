-- A module that the set holds.
use Rattle.std.proofs.Common.{◌∙◌, ap}
use Rattle.std.specs.List.{list_all}
use Rattle.vl_tree.specs.Seen.{view_item}
use Rattle.fit_parts.specs.Below.{holds}
use Rattle.fit_parts.specs.Checked.{item_held}
use Rattle.fit_parts.proofs.WholeLaws.{closes-too}
use Rattle.fit_parts.proofs.wholes.closes.Goals as goal

pub returns-else-not-holds : goal.returns-else-not-holds
returns-else-not-holds c =
    closes-too (holds c.args.below.now) c.args.part.now c.in-Module.module c.holds.result c.items_held.result c.in-Module.is c.holds.ensures c.if-not-holds.false
    (c.items_held.ensures ∙ ap (list_all (λ i. item_held (holds c.args.below.now) (view_item i))) c.deref.ensures.value)
