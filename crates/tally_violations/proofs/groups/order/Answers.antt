-- Sorted by both texts.
use Rattle.std.proofs.Common.{rules}
use Rattle.std.proofs.lemmas.List.Sorted.{answers_always}
use Rattle.tally_violations.proofs.groups.order.Goals as goal

pub returns : goal.returns
returns c = record {
  permutation = c.sort_by_key.ensures.permutation;
  sorted = c.in_ok-sort_by_key.ensures.sorted (λ v. (v.instance, v.check)) (answers_always _ _ _ (λ f a r g h. search rules));
  stable = c.sort_by_key.ensures.stable (λ v. (v.instance, v.check)) (answers_always _ _ _ (λ f a r g h. search rules));
}
