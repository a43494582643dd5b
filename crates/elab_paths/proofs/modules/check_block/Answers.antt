-- A block stands beside an instance of a module, or none does.
use Rattle.std.specs.Prelude.{not}
use Rattle.std.proofs.Common.{◌∙◌, sym, ap, map}
use Rattle.vl_tree.specs.Seen.{view_item}
use Rattle.elab_declared.specs.Words.{first_of}
use Rattle.elab_variables.specs.Seen.{view_member}
use Rattle.elab_paths.proofs.BlocksBeside.{has-child, no-child, block-refused, places_among}
use Rattle.elab_paths.proofs.modules.check_block.Goals as goal

pub returns-then-not-has_child : goal.returns-then-not-has_child
returns-then-not-has_child c = λ m p.
    no-child c.args.definitions.now m
    (has-child c.args.definitions.now m c.deref-2.result.now c.has_child.result (ap (map view_member) c.deref-2.ensures.value ∙ p.members) c.has_child.ensures ∙ ap not c.if-not-has_child.true)

pub returns : goal.returns
returns c = λ m p.
    block-refused c.args.definitions.now m c.in-Some.place
    (ap (λ n. first_of (places_among n.items)) (sym p.definition) ∙ ap (λ xs. first_of (places_among (map view_item xs))) (sym c.deref.ensures.value) ∙ sym c.first_block.ensures ∙ c.in-Some.is)
    (has-child c.args.definitions.now m c.deref-2.result.now c.has_child.result (ap (map view_member) c.deref-2.ensures.value ∙ p.members) c.has_child.ensures ∙ ap not c.if-not-has_child.false)
