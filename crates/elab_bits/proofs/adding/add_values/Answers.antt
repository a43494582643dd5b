-- One bit more is there, and a constant stands in every row.
use Rattle.std.proofs.Common.{◌+◌, get_or, map, drop}
use Rattle.std.proofs.lemmas.List.Elements.{All-push, All-same}
use Rattle.sg_logic.specs.declared.values.Value.TheVariants.{Zero}
use Rattle.elab_bits.specs.declared.bits.Bit.TheVariants as bit
use Rattle.elab_bits.specs.Seen.{IsInRow}
use Rattle.elab_bits.proofs.OneMore.{one-added, next-of}
use Rattle.elab_bits.proofs.adding.add_values.Goals as goal

pub returns-in_err-push-clause-row : goal.returns-in_err-push-clause-row
returns-in_err-push-clause-row c = λ vs old. All-same (IsInRow vs) _ _ c.in_err-push.ensures.items (c.loop-value.invariant.row vs old)

pub loop-value-preserved : goal.loop-value-preserved
loop-value-preserved c =
    let f = bit.Constant c.args.place in
    let values = c.args.values.now in
    let i = c.loop-value.value-index in
    record {
      bits = one-added (f (get_or values i Zero)) c.loop-value.bits.items (map f (drop i values)) (map f (drop (i + 1) values)) c.push.new.self.items _
          (next-of f values i Zero c.loop-value-test.true) c.in_ok-push.ensures.items c.loop-value.invariant.bits;
      row = λ vs old. All-same (IsInRow vs) _ _ c.in_ok-push.ensures.items (All-push (IsInRow vs) c.loop-value.bits.items (f (get_or values i Zero)) (c.loop-value.invariant.row vs old) tt);
    }
