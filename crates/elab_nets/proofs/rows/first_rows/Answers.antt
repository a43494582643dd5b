-- Nothing is there but the outer row of the top.
use Rattle.std.proofs.Common.{rules}
use Rattle.elab_nets.proofs.AllRows.{start}
use Rattle.elab_nets.proofs.rows.first_rows.Goals as goal

pub returns-clause-rows : goal.returns-clause-rows
returns-clause-rows c = λ source top corner given.
    start source top corner c.args.library.now c.args.instances.now _ given c.top_bits.result (c.top_bits.ensures source top corner given) c.new.ensures.items c.new-2.ensures.items c.new-4.ensures.items
    c.new-6.ensures.items
    (c.in_ok-vec.ensures.items_if_clones_equal (λ y e. e))
    (c.in_ok-vec-2.ensures.items_if_clones_equal (search rules))
