-- One bit more is there, and at the end all are.
use Rattle.std.proofs.Common.{◌<◌, ◌+◌, arith, rules, length, subst, None}
use Rattle.std.proofs.lemmas.Result.{err_from_is_err_and}
use Rattle.elab_laws.specs.Handing.{all_bits, new_count}
use Rattle.elab_numbering.specs.Refusals.{RefusesCount}
use Rattle.elab_nets.specs.Own.{given_row}
use Rattle.elab_nets.proofs.Counts.{handed-on}
use Rattle.elab_nets.proofs.OwnBits.{blank, given_from, bit-added, all-added, would-be}
use Rattle.elab_nets.proofs.own.add_own.Goals as goal

pub returns-in_err-add_bit-clause-refused : goal.returns-in_err-add_bit-clause-refused
returns-in_err-add_bit-clause-refused c =
    let bs = all_bits c.args.table.now in
    let os = c.args.outside.now in
    let i = c.loop-place.place in
    let lt : i < length os = omega arith in
    let below : i < length bs = let r = c.requires.row in omega arith in
    handed-on c.from_residual.result (RefusesCount (length c.args.nets.now.items + new_count (given_row c.args.leaf bs os))) c.in_err-add_bit.field-0.0
    (err_from_is_err_and c.from_residual.result c.from_residual.ensures.1)
    (subst (λ n. RefusesCount n c.in_err-add_bit.field-0.0)
    (would-be c.args.scope c.args.leaf bs os c.args.inner.now.items c.args.nets.now.items i c.loop-place.inner.items c.loop-place.nets.items blank None c.given-number.result below lt c.given-number.ensures
    c.loop-place.invariant.added)
    (c.in_err-add_bit.ensures.refused (new_count (given_from c.args.leaf bs os (i + 1)))))

pub loop-place-preserved : goal.loop-place-preserved
loop-place-preserved c =
    let bs = all_bits c.args.table.now in
    let os = c.args.outside.now in
    let i = c.loop-place.place in
    let lt : i < length os = omega arith in
    let below : i < length bs = let r = c.requires.row in omega arith in
    record {
      few = search rules;
      added = bit-added c.args.scope c.args.leaf bs os c.args.inner.now.items c.args.nets.now.items i c.loop-place.inner.items c.loop-place.nets.items blank None c.given-number.result
          c.add_bit.new.inner.items c.add_bit.new.nets.items below lt c.given-number.ensures c.in_ok-add_bit.ensures.inner c.in_ok-add_bit.ensures.nets c.loop-place.invariant.added;
    }

pub returns-clause-inner : goal.returns-clause-inner
returns-clause-inner c =
    (all-added c.args.scope c.args.leaf (all_bits c.args.table.now) c.args.outside.now c.args.inner.now.items c.args.nets.now.items c.loop-place.place c.loop-place.inner.items c.loop-place.nets.items
    (omega arith) c.requires.row c.loop-place.invariant.added).0

pub returns-clause-nets : goal.returns-clause-nets
returns-clause-nets c =
    (all-added c.args.scope c.args.leaf (all_bits c.args.table.now) c.args.outside.now c.args.inner.now.items c.args.nets.now.items c.loop-place.place c.loop-place.inner.items c.loop-place.nets.items
    (omega arith) c.requires.row c.loop-place.invariant.added).1
