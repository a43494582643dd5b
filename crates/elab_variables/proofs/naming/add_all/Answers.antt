-- The names of one part more.
use Rattle.std.proofs.Common.{rules, ◌<◌, length, arith, add-one}
use Rattle.elab_variables.proofs.WithNames.{next-part, no-more-parts}
use Rattle.elab_variables.specs.Naming.{key_texts}
use Rattle.elab_variables.proofs.naming.add_all.Goals as goal

pub loop-part-preserved : goal.loop-part-preserved
loop-part-preserved g c =
    let lt : c.loop-part.part-index < length c.args.parts.now = omega arith in
    rw add-one (next-part g.P.Naming.names c.args.parts.now c.loop-part.part-index c.part-item.result (key_texts c.loop-part.known.keys) (key_texts c.add_to.new.known.keys) _
    lt (search rules) c.in_ok-add_to.ensures c.loop-part.invariant)

pub returns : goal.returns
returns g c = no-more-parts g.P.Naming.names c.args.parts.now c.loop-part.part-index (key_texts c.loop-part.known.keys) _ c.loop-part-test.false c.loop-part.invariant
