-- The only candidate is the top.
use Rattle.std.proofs.Common.{map}
use Rattle.vl_tree.specs.Seen.{view_part}
use Rattle.elab_hierarchy.proofs.Chosen.{chosen-candidates, top-chosen, top-refused}
use Rattle.elab_hierarchy.proofs.tops.only_top.Goals as goal

pub returns-clause-top : goal.returns-clause-top
returns-clause-top c =
    top-chosen c.only_candidate.result _ (map view_part c.parts-2.result.now) c.args.definitions.now
    (chosen-candidates c.in_ok-used.used.keys (map view_part c.parts.result.now) (map view_part c.parts-2.result.now) c.args.definitions.now c.parts.ensures c.parts-2.ensures c.in_ok-used.ensures)
    c.parts-2.ensures c.only_candidate.ensures.chosen

pub returns-clause-refused : goal.returns-clause-refused
returns-clause-refused c =
    top-refused c.only_candidate.result _ c.args.definitions.now
    (chosen-candidates c.in_ok-used.used.keys (map view_part c.parts.result.now) (map view_part c.parts-2.result.now) c.args.definitions.now c.parts.ensures c.parts-2.ensures c.in_ok-used.ensures)
    c.only_candidate.ensures.refused
