use Rattle.std.proofs.Common.{◌∙◌, ◌<◌, sym, subst, arith, All, List, ℕ}
use Rattle.wave_out.specs.Marks.{AreClear}
use Rattle.wave_out.proofs.ShownLaws.{bits_within, nets_many}
use Rattle.wave_out.proofs.shown.shown_of.Goals as goal

pub index_of-requires-clause-nets : goal.index_of-requires-clause-nets
index_of-requires-clause-nets c =
    subst (λ m. All (λ (b : List ℕ). All (λ n. n < m) b) c.in_ok-count.variables) (sym (nets_many c.parts.result.now c.args.circuit.now c.len.result c.parts.ensures.seen (omega (arith, c.len.ensures, c.parts.result.now.nets.ok))))
    (bits_within c.args.circuit.now c.in_ok-count.variables c.parts.ensures.closed c.in_ok-count.ensures.bits)

pub returns : goal.returns
returns c = record {
  count = c.in_ok-count.ensures.count;
  few = omega (arith, c.in_ok-count.ensures.count);
  bits = c.in_ok-count.ensures.bits;
  lines = c.in_ok-lines.ensures;
  within = bits_within c.args.circuit.now c.in_ok-count.variables c.parts.ensures.closed c.in_ok-count.ensures.bits;
  index = c.in_ok-index.ensures.variables;
  nets = c.in_ok-index.ensures.nets ∙ nets_many c.parts.result.now c.args.circuit.now c.len.result c.parts.ensures.seen (omega (arith, c.len.ensures, c.parts.result.now.nets.ok));
  clear = subst (λ n. AreClear n c.in_ok-marks.marks) c.in_ok-count.ensures.count c.in_ok-marks.ensures;
}
