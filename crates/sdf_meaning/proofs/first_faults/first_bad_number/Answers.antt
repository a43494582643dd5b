-- A part has the first fault, or it is behind the part.
use Rattle.std.proofs.Common.{◌<◌, length, arith, rules, add-one}
use Rattle.cond_expr.proofs.WordReading.{none_if_not_some}
use Rattle.sdf_tree.specs.Faults.{is_bad}
use Rattle.sdf_meaning.proofs.FirstFaults.{part_has, part_has_none, none_has}
use Rattle.sdf_meaning.proofs.first_faults.first_bad_number.Goals as goal

pub returns-in-Some : goal.returns-in-Some
returns-in-Some g c =
    let t = g.T.Valued in
    let lt : c.loop-part.part-index < length c.args.parts.now = omega arith in
    part_has is_bad (λ x. x.place) t.numbers t.view c.args.parts.now c.loop-part.part-index c.part-item.result c.bad_place.result _ c.in-Some.place lt (search rules) c.bad_place.ensures c.in-Some.is c.loop-part.invariant

pub loop-part-preserved : goal.loop-part-preserved
loop-part-preserved g c =
    let t = g.T.Valued in
    let lt : c.loop-part.part-index < length c.args.parts.now = omega arith in
    rw add-one (part_has_none is_bad (λ x. x.place) t.numbers t.view c.args.parts.now c.loop-part.part-index c.part-item.result c.bad_place.result _ lt (search rules) c.bad_place.ensures (none_if_not_some c.bad_place.result c.in_default.not-Some) c.loop-part.invariant)

pub returns : goal.returns
returns g c =
    let t = g.T.Valued in
    none_has is_bad (λ x. x.place) t.numbers t.view c.args.parts.now c.loop-part.part-index _ c.loop-part-test.false c.loop-part.invariant
