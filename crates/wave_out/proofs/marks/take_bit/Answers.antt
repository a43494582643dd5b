use Rattle.std.proofs.Common.{arith, rules, w64}
use Rattle.std.proofs.lemmas.Nat.Bits.{bit_at_clear_other, bit_at_clear_same, bit_at-trailing_zeros}
use Rattle.wave_out.proofs.MarkLaws.{cleared_less, first_bit}
use Rattle.wave_out.proofs.marks.take_bit.Goals as goal

pub returns : goal.returns
returns c =
    let low = bit_at-trailing_zeros w64 c.args.word (omega arith) (search rules) in
    record {
      bit = low.0;
      set = low.1;
      lowest = low.2;
      less = cleared_less c.args.word _ low.0 low.1;
      others = λ i l apart. bit_at_clear_other w64 c.args.word _ low.0 i l apart;
      gone = bit_at_clear_same w64 c.args.word _ low.0;
      first = λ k. first_bit c.args.word _ k low.0 low.1 low.2;
    }
