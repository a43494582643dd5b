-- One part more, or all.
use Rattle.std.proofs.Common.{◌<◌, length, arith}
use Rattle.std.proofs.lemmas.Result.{err_from_is_err_and}
use Rattle.elab_hierarchy.proofs.Whole.{refuses}
use Rattle.elab_modules.proofs.Listing.{checked-first, checked-next, part-refused}
use Rattle.elab_modules.proofs.checks.check_modules.Goals as goal

pub loop-part-init : goal.loop-part-init
loop-part-init c =
    checked-first c.args.definitions.now c.args.corner c.args.tick.power c.args.parts.now c.args.gate_delays.now.items c.new-delays.result.items c.requires.empty c.new-delays.ensures.items

pub returns-in_err-places-clause-refused : goal.returns-in_err-places-clause-refused
returns-in_err-places-clause-refused c =
    let lt : c.loop-part.part-index < length c.args.parts.now = omega arith in
    refuses _ c.from_residual.result c.in_err-places.field-0.0 (err_from_is_err_and c.from_residual.result c.from_residual.ensures.1)
    (part-refused c.args.definitions.now c.args.corner c.args.tick.power c.part-item.result c.part-item.result c.args.parts.now c.loop-part.part-index c.in_err-places.field-0.0 lt c.part-item.is
    c.in_err-places.ensures.refused)

pub loop-part-preserved : goal.loop-part-preserved
loop-part-preserved c =
    let lt : c.loop-part.part-index < length c.args.parts.now = omega arith in
    checked-next c.args.definitions.now c.args.corner c.args.tick.power c.part-item.result c.part-item.result c.args.parts.now c.loop-part.part-index c.loop-part.gate_delays.items
    c.check_part.new.gate_delays.items c.check_part.ensures.kept.0 c.loop-part.delays.items c.push.new.self.items c.in_ok-places.places lt c.part-item.is c.check_part.ensures.kept.1
    c.check_part.ensures.counts c.in_ok-push.ensures.items c.in_ok-places.ensures.checked c.loop-part.invariant
