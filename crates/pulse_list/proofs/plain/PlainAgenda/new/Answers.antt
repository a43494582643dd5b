-- Nothing is pending.
use Rattle.pulse_list.proofs.TableLaws.{view-empty, plain-new}
use Rattle.pulse_list.proofs.plain.PlainAgenda.new.Goals as goal

pub returns : goal.returns
returns c = view-empty c.args.drivers c.new.result.items c.in_ok-counts.counts.items c.new.ensures.items (c.in_ok-counts.ensures.items_if_clones_equal (λ y e. e))

pub invariant_of-result : goal.invariant_of-result
invariant_of-result c = plain-new c.args.drivers _ _ c.new.ensures.items (c.in_ok-counts.ensures.items_if_clones_equal (λ y e. e))
