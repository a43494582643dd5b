use Rattle.std.proofs.Common.{◌≡◌, ◌∙◌, ap, arith, length, map}
use Rattle.time_checks.specs.AdjustedSeen.{all_seen}
use Rattle.time_checks.specs.Watching.{watch_by}
use Rattle.time_checks.proofs.AdjustedLaws.{ready}
use Rattle.time_checks.proofs.checker.Checker.of_checks.Goals as goal

pub invariant_of-result : goal.invariant_of-result
invariant_of-result c =
    let nets : length c.in_ok-last.last.items ≡ c.args.nets = omega (arith, c.in_ok-last.ensures.len) in
    let count : c.len.result ≡ length c.args.checks.items = omega (arith, c.len.ensures) in
    let kept : length c.in_ok-latest.latest.items ≡ c.len.result = omega (arith, c.in_ok-latest.ensures.many, c.len.ensures, c.len-2.ensures) in (
      ready c.args.checks.items c.deref-2.result.now c.args.nets c.len.result c.in_ok-last.last.items c.in_ok-index.index c.in_ok-work.work c.in_ok-latest.latest.items c.requires.within c.requires.few
          nets c.deref-2.ensures.value c.in_ok-index.ensures.checks c.in_ok-index.ensures.nets count c.in_ok-work.ensures kept,
      c.in_ok-watches.ensures ∙ ap (λ cs. map (λ k. watch_by k) (all_seen cs)) c.deref.ensures.value,
    )
