-- One net more, whose number is what is meant at its place.
use Rattle.std.proofs.Common.{◌+◌, ◌∙◌, ℕ, ap, arith, drop, get_or, length, map, rules}
use Rattle.std.specs.List.{range_with_len}
use Rattle.std.proofs.lemmas.Grind.{common_steps}
use Rattle.std.proofs.lemmas.List.{drop_all}
use Rattle.std.proofs.lemmas.Result.{err_from_is_err_and}
use Rattle.sg_circuit.specs.declared.nets.Net.{Net}
use Rattle.elab_bits.specs.Seen.{bit_at}
use Rattle.elab_bits.proofs.OneMore.{one-added, next-of}
use Rattle.elab_nets.specs.Own.{net_at}
use Rattle.elab_nets.proofs.WrittenNumbers.{fewer-left, one-longer, none-left, too-many}
use Rattle.elab_nets.proofs.writing.add_bit_nets.Goals as goal

pub returns-in_err-push_bit_net-clause-refused : goal.returns-in_err-push_bit_net-clause-refused
returns-in_err-push_bit_net-clause-refused c =
    let e = err_from_is_err_and c.from_residual.result c.from_residual.ensures.1 in
    rw e.1 (too-many _ (length c.loop-place.nets.items) (length c.args.nets.now.items) c.loop-place.place-index (length c.args.places.now) c.loop-place.invariant.count c.loop-place-test.true (search rules))

pub loop-place-preserved : goal.loop-place-preserved
loop-place-preserved c =
    let i = c.loop-place.place-index in
    let places = c.args.places.now in
    let f : ℕ → Net = λ (i : ℕ). net_at c.args.scope (bit_at c.args.table.now i) in
    record {
      few = c.push_bit_net.ensures.few;
      count = one-longer c.loop-place.nets.items c.push_bit_net.new.nets.items _ (length c.args.nets.now.items) i c.in_ok-push_bit_net.ensures.nets c.loop-place.invariant.count;
      nets = one-added (f (get_or places i 0)) c.loop-place.nets.items (map f (drop i places)) (map f (drop (i + 1) places)) c.push_bit_net.new.nets.items _ (next-of f places i 0 c.loop-place-test.true)
          c.in_ok-push_bit_net.ensures.nets c.loop-place.invariant.nets;
      long = grind (arith, common_steps);
      row = λ meant is start.
          fewer-left meant (length c.args.nets.now.items) c.len.result places i 0 c.loop-place.row c.loop-place-test.true (search rules) is (c.loop-place.invariant.row meant is start);
    }

pub returns-clause-row : goal.returns-clause-row
returns-clause-row c = λ meant is start.
    none-left meant (drop c.loop-place.place-index c.args.places.now) c.loop-place.row (drop_all c.loop-place.place-index c.args.places.now c.loop-place-test.false) (c.loop-place.invariant.row meant is start)
    ∙ ap (λ n. map meant (range_with_len 0 n)) c.loop-place.invariant.long
