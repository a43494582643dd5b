-- One bit more is there, and it stands in the row.
use Rattle.std.proofs.Common.{◌-◌, arith, map, reverse}
use Rattle.std.specs.List.{range_with_len}
use Rattle.std.proofs.lemmas.List.Elements.{All-push, All-same}
use Rattle.elab_bits.specs.Seen.{IsInRow}
use Rattle.elab_bits.specs.Words.{net_from}
use Rattle.elab_bits.proofs.OneMore.{one-added, last-of}
use Rattle.elab_bits.proofs.adding.add_back.Goals as goal

pub loop-rest-preserved : goal.loop-rest-preserved
loop-rest-preserved c =
    let e = c.loop-rest.rest in
    let p = c.args.first in
    let f = net_from c.args.start in
    record {
      within = (let w = c.loop-rest.invariant.within in omega arith);
      bits = one-added (f (e - 1)) c.loop-rest.bits.items (map f (reverse (range_with_len p (e - p)))) (map f (reverse (range_with_len p (e - 1 - p)))) c.push.new.self.items _
          (last-of f p e c.loop-rest-test.true) c.in_ok-push.ensures.items c.loop-rest.invariant.bits;
      row = λ vs fits old.
          let w = c.loop-rest.invariant.within in
          All-same (IsInRow vs) _ _ c.in_ok-push.ensures.items (All-push (IsInRow vs) c.loop-rest.bits.items (f (e - 1)) (c.loop-rest.invariant.row vs fits old) (omega arith));
    }
