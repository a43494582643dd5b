-- One bit more is there, and it stands in the row.
use Rattle.std.proofs.Common.{◌+◌, ◌-◌, arith, map}
use Rattle.std.specs.List.{range_with_len}
use Rattle.std.proofs.lemmas.List.Elements.{All-push, All-same}
use Rattle.elab_bits.specs.Seen.{IsInRow}
use Rattle.elab_bits.specs.Words.{net_from}
use Rattle.elab_bits.proofs.OneMore.{one-added, first-of}
use Rattle.elab_bits.proofs.adding.add_forth.Goals as goal

pub loop-position-preserved : goal.loop-position-preserved
loop-position-preserved c =
    let p = c.loop-position.position in
    let f = net_from c.args.start in
    record {
      bits = one-added (f p) c.loop-position.bits.items (map f (range_with_len p (c.args.end - p))) (map f (range_with_len (p + 1) (c.args.end - (p + 1)))) c.push.new.self.items _
          (first-of f p c.args.end c.loop-position-test.true) c.in_ok-push.ensures.items c.loop-position.invariant.bits;
      row = λ vs fits old. All-same (IsInRow vs) _ _ c.in_ok-push.ensures.items (All-push (IsInRow vs) c.loop-position.bits.items (f p) (c.loop-position.invariant.row vs fits old) (omega arith));
    }
