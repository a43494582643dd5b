-- No chain has a key.
use Rattle.std.proofs.Common.{rules, ◌∙◌, ap, replicate}
use Rattle.event_wheel.proofs.EmptyLaws.{chained-none, table-none, ends-none}
use Rattle.event_wheel.proofs.LeastLaws.{firsts_none}
use Rattle.event_wheel.proofs.chains.Chains.new.Goals as goal

pub returns-clause-chained : goal.returns-clause-chained
returns-clause-chained c =
    chained-none c.new.result c.args.buckets c.args.drivers c.in_ok-vec.field-0.items c.in_ok-vec-2.field-0.items c.in_ok-vec-3.field-0.items c.none.result c.none-2.result c.new.ensures c.requires
    (ends-none c.none.result c.none.ensures.first c.none.ensures.last) (ends-none c.none-2.result c.none-2.ensures.first c.none-2.ensures.last)
    (c.in_ok-vec.ensures.items_if_clones_equal (λ y e. e)) (c.in_ok-vec-2.ensures.items_if_clones_equal (λ y e. e)) (c.in_ok-vec-3.ensures.items_if_clones_equal (λ y e. e) ∙ ap (replicate c.args.buckets) c.none-3.ensures)

pub returns-clause-table : goal.returns-clause-table
returns-clause-table c =
    table-none c.new.result c.args.drivers c.in_ok-vec-2.field-0.items c.none-2.result (ends-none c.none-2.result c.none-2.ensures.first c.none-2.ensures.last) (c.in_ok-vec-2.ensures.items_if_clones_equal (λ y e. e))

pub returns-clause-firsts : goal.returns-clause-firsts
returns-clause-firsts c =
    firsts_none c.new.result c.args.buckets c.in_ok-vec.field-0.items c.in_ok-vec-4.field-0.items c.none.result (ends-none c.none.result c.none.ensures.first c.none.ensures.last)
    (c.in_ok-vec.ensures.items_if_clones_equal (λ y e. e)) (c.in_ok-vec-4.ensures.items_if_clones_equal (λ y e. search (rules, e)))
