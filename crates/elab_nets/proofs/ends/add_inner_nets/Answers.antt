-- One net more, with its number.
use Rattle.std.proofs.Common.{◌≡◌, ◌++◌, ◌∷◌, [], ◌+◌, ◌∙◌, ℕ, ap, append_assoc, arith, drop, get_or, length, map, rules, sym}
use Rattle.std.specs.List.{range_with_len}
use Rattle.std.proofs.lemmas.Result.{err_from_is_err_and}
use Rattle.sg_circuit.specs.declared.nets.Net.{Net}
use Rattle.elab_bits.specs.Seen.{bit_at}
use Rattle.elab_bits.proofs.OneMore.{one-added, next-of}
use Rattle.elab_nets.specs.Own.{net_at}
use Rattle.elab_nets.proofs.NumberedLists.{range-more}
use Rattle.elab_nets.proofs.WrittenNumbers.{one-longer, too-many}
use Rattle.elab_nets.proofs.ends.add_inner_nets.Goals as goal

pub returns-in_err-push_bit_net-clause-refused : goal.returns-in_err-push_bit_net-clause-refused
returns-in_err-push_bit_net-clause-refused c =
    let e = err_from_is_err_and c.from_residual-in_err-push_bit_net.result c.from_residual-in_err-push_bit_net.ensures.1 in
    rw e.1 (too-many _ (length c.loop-place.nets.items) (length c.args.nets.now.items) c.loop-place.place-index (length c.args.places.now) c.loop-place.invariant.count c.loop-place-test.true (search rules))

pub loop-place-preserved : goal.loop-place-preserved
loop-place-preserved c =
    let i = c.loop-place.place-index in
    let places = c.args.places.now in
    let first = length c.args.nets.now.items in
    let old = c.args.ends.now.items in
    let f : ℕ → Net = λ (i : ℕ). net_at c.args.scope (bit_at c.args.table.now i) in
    let number : c.len.result ≡ first + i = let n = c.loop-place.invariant.count in omega (arith, c.len.ensures, c.loop-place.nets.ok.0, n) in
    record {
      few = c.push_bit_net.ensures.few;
      count = one-longer c.loop-place.nets.items c.push_bit_net.new.nets.items _ first i c.in_ok-push_bit_net.ensures.nets c.loop-place.invariant.count;
      nets = one-added (f (get_or places i 0)) c.loop-place.nets.items (map f (drop i places)) (map f (drop (i + 1) places)) c.push_bit_net.new.nets.items _ (next-of f places i 0 c.loop-place-test.true)
          c.in_ok-push_bit_net.ensures.nets c.loop-place.invariant.nets;
      ends = c.in_ok-push.ensures.items ∙ ap (λ n. c.loop-place.ends.items ++ n ∷ []) number ∙ ap (λ xs. xs ++ (first + i) ∷ []) c.loop-place.invariant.ends
          ∙ append_assoc old (range_with_len first i) ((first + i) ∷ []) ∙ ap (λ xs. old ++ xs) (sym (range-more first i));
    }

pub returns-clause-ends : goal.returns-clause-ends
returns-clause-ends c =
    let n : c.loop-place.place-index ≡ length c.args.places.now = omega arith in
    c.loop-place.invariant.ends ∙ ap (λ k. c.args.ends.now.items ++ range_with_len (length c.args.nets.now.items) k) n
