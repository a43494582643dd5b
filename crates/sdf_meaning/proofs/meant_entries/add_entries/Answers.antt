-- One entry more, or the end.
use Rattle.std.proofs.Common.{map, ◌++◌, ◌∷◌, [], ◌∙◌, ap}
use Rattle.std.proofs.lemmas.List.{map-append}
use Rattle.sdf_tree.specs.Meant as meant
use Rattle.sdf_tree.specs.Seen.{view_entry}
use Rattle.sdf_meaning.specs.MeantSeen.{view_meant}
use Rattle.sdf_meaning.proofs.Moving.{items_begin, items_go_on, items_end}
use Rattle.sdf_meaning.proofs.meant_entries.add_entries.Goals as goal

pub loop-entry-init : goal.loop-entry-init
loop-entry-init c = items_begin (meant.entry_of c.args.increment) view_entry c.into_iter-entry-iterator.result c.args.written.items (map view_meant c.args.entries.now.items) c.into_iter-entry-iterator.ensures.into_iter_gives.0

pub loop-entry-preserved : goal.loop-entry-preserved
loop-entry-preserved c =
    items_go_on (meant.entry_of c.args.increment) view_entry c.loop-entry.entry-iterator c.next.new.self (map view_meant c.loop-entry.entries.items) _ _ c.in-Some.entry c.in-Some.ensures.steps
    (ap (map view_meant) c.in_ok-push.ensures.items ∙ map-append view_meant c.loop-entry.entries.items (c.in_ok-meant.meant ∷ []) ∙ ap (λ e. map view_meant c.loop-entry.entries.items ++ e ∷ []) c.in_ok-meant.ensures)
    c.loop-entry.invariant

pub returns : goal.returns
returns c = items_end (meant.entry_of c.args.increment) view_entry c.loop-entry.entry-iterator (map view_meant c.loop-entry.entries.items) _ c.in-None.ensures.steps.0 c.loop-entry.invariant
