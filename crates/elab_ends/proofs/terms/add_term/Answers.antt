-- The bits of the term's expression are added.
use Rattle.std.proofs.Common.{◌∙◌, ◌++◌, ap, map}
use Rattle.std.proofs.lemmas.Result.{on_ok_weaker}
use Rattle.vl_tree.specs.Seen.{view_expression}
use Rattle.elab_bits.specs.Seen.{view_bit}
use Rattle.elab_model.specs.Bits.{bits}
use Rattle.elab_ends.proofs.TermBits.{term-added}
use Rattle.elab_ends.proofs.terms.add_term.Goals as goal

pub returns-clause-places : goal.returns-clause-places
returns-clause-places c =
    on_ok_weaker c.add_places.result
    (λ last. term-added c.args.table.now c.args.term.now _ c.deref.result.now c.args.places.now.items c.add_places.new.places.items c.expression_of.ensures
    (ap (map (view_bit c.args.table.now)) c.deref.ensures.value ∙ c.in_ok-add_bits.ensures.bits
    ∙ ap (λ bs. map (view_bit c.args.table.now) bs ++ bits c.args.table.now (view_expression c.expression_of.result)) c.new-bits.ensures.items) last)
    (c.add_places.ensures.places c.args.table.now)
