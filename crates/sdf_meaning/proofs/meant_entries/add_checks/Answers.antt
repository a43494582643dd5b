-- One check more, or the end.
use Rattle.std.proofs.Common.{map, false, ◌++◌, ◌∷◌, [], ◌∙◌, ap}
use Rattle.sdf_tree.specs.Meant as meant
use Rattle.sdf_tree.specs.Seen.{view_check}
use Rattle.sdf_meaning.specs.MeantSeen.{view_meant}
use Rattle.sdf_meaning.proofs.Moving.{items_begin, items_go_on, items_end}
use Rattle.sdf_meaning.proofs.meant_entries.add_checks.Goals as goal

pub loop-check-init : goal.loop-check-init
loop-check-init c = items_begin meant.entry_of_check view_check c.into_iter-check-iterator.result c.args.checks.items (map view_meant c.args.entries.now.items) c.into_iter-check-iterator.ensures.into_iter_gives.0

pub loop-check-preserved : goal.loop-check-preserved
loop-check-preserved c =
    items_go_on meant.entry_of_check view_check c.loop-check.check-iterator c.next.new.self (map view_meant c.loop-check.entries.items) _ _ c.in-Some.check c.in-Some.ensures.steps
    (c.in_ok-add_entry.ensures ∙ ap (λ k. map view_meant c.loop-check.entries.items ++ record { place = c.in-Some.check.place; increment = false; kind = k } ∷ []) c.kind_of_check.ensures)
    c.loop-check.invariant

pub returns : goal.returns
returns c = items_end meant.entry_of_check view_check c.loop-check.check-iterator (map view_meant c.loop-check.entries.items) _ c.in-None.ensures.steps.0 c.loop-check.invariant
