-- What is known, with the names of what is left, is the whole.
use Rattle.std.proofs.Common.{◌≡◌, drop, flat_map}
use Rattle.vl_tree.specs.Seen.{view_expression}
use Rattle.elab_variables.specs.Naming.{key_texts, with_names, names_in}
use Rattle.elab_variables.proofs.naming.+add_expression.Given as goal

abbrev pub decreases-add_expression : goal.decreases-add_expression
decreases-add_expression l = goal.size-add_expression l

abbrev pub invariant-loop-part : goal.invariant-loop-part
invariant-loop-part l =
    with_names (key_texts l.known.keys) (flat_map (λ e. names_in (view_expression e)) (drop l.part-index l.part-items))
    ≡ with_names (key_texts l.initial.known.keys) (flat_map (λ e. names_in (view_expression e)) l.part-items)
